-- Worked answers: turns, extra tasks, and the lines of the report.
use Rattle.std.proofs.Common.{◌≡◌, ℕ, false, List, [], ◌∷◌, refl, take, codes, lit<, lit≤}
use Rattle.std.specs.List.{flat_map}
use Rattle.omega_model.specs.Extras.{extras}
use Rattle.omega_model.specs.Report.{Line, Word, Name, Number, claim_lines, entry_lines, line_text}
use Rattle.std.proofs.lemmas.Fmt.{decimal_digit, decimal_step}
use Rattle.omega_model.specs.Turns.{Taken, round_commits, next_turn, turn_start}
use Rattle.omega_model.specs.declared.cells.Need.{Need}
use Rattle.omega_model.specs.declared.cells.TaskKey.{TaskKey}
use Rattle.omega_model.specs.declared.claims.Claim.{Claim}
use Rattle.omega_model.specs.declared.claims.Judgement.{Judgement}
use Rattle.omega_model.specs.declared.claims.Mode.TheVariants.{Incremental, Gang}
use Rattle.omega_model.specs.declared.claims.Rule.TheVariants.{Fine}
use Rattle.omega_model.specs.declared.claims.Verdict.{Verdict}
use Rattle.omega_model.specs.declared.claims.Verdict.TheVariants.{Placed, NoMachine, AlreadyRunning, Changed, VictimRank, SameJob, Full, Withdrawn}
use Rattle.omega_model.specs.declared.entries.Entry.{Entry}
use Rattle.omega_model.specs.declared.entries.Entry.TheVariants.{Round, MachineAdd, Commit}
use Rattle.omega_model.specs.declared.settings.Extra.{Extra}
use Rattle.omega_model.specs.declared.settings.Extra.TheVariants.{Max, Cap, Relative}

unfoldable amount : ℕ → Need
amount n = record { cpu = n; mem = n; disk = 0 }

-- an empty commit of this scheduler
unfoldable nothing_by : ℕ → ℕ → Entry
nothing_by scheduler seen = Commit scheduler seen (record { job = 1; rule = Fine; mode = Incremental; claims = [] }) []

-- two rounds; in the second, schedulers 0, 1 and 2 commit in the first turn, 1 and 2 in the second, and
-- 2 alone in the third
unfoldable turns : List Entry
turns =
    Round 0 ∷ nothing_by 0 1 ∷ nothing_by 1 1
    ∷ Round 4 ∷ MachineAdd 1 (amount 10)
    ∷ nothing_by 0 5 ∷ nothing_by 1 5 ∷ nothing_by 2 5 ∷ nothing_by 1 8 ∷ nothing_by 2 8 ∷ nothing_by 2 10 ∷ []

unfoldable taken : ℕ → ℕ → ℕ → Taken
taken place scheduler turn = record { place = place; scheduler = scheduler; turn = turn }

-- the commits of the last round, each with its turn
numbered : round_commits turns ≡
    taken 5 0 0 ∷ taken 6 1 0 ∷ taken 7 2 0 ∷ taken 8 1 1 ∷ taken 9 2 1 ∷ taken 10 2 2 ∷ []
unfolding amount nothing_by turns taken
numbered = refl

-- a round that has just begun has none
none_yet : round_commits (take 5 turns) ≡ []
unfolding amount nothing_by turns
none_yet = refl

-- the turn of a scheduler's next commit is the number of its commits so far
third_turn : next_turn 1 (round_commits turns) ≡ 2
unfolding amount nothing_by turns
third_turn = refl

first_turn : next_turn 3 (round_commits turns) ≡ 0
unfolding amount nothing_by turns
first_turn = refl

-- a turn starts at the place of its first commit
second_start : turn_start 1 (round_commits turns) 11 ≡ 8
unfolding amount nothing_by turns
second_start = refl

-- a turn without a commit starts at the next place
fourth_start : turn_start 3 (round_commits turns) 11 ≡ 11
unfolding amount nothing_by turns
fourth_start = refl

unfoldable ten : Extra → ℕ
ten choice = extras choice 10 1 0 (amount 100) (amount 500) (record { cpu = 1000; mem = 1000; disk = 1000 })

-- ten activities, one task wanted, none of the extras running: within 60 percent there is room for one
-- more, all nine come without a bound, and three at four times the tasks
capped : ten (Cap 60) ≡ 1
unfolding amount ten
capped = refl

unbounded : ten Max ≡ 9
unfolding amount ten
unbounded = refl

fourfold : ten Relative ≡ 3
unfolding amount ten
fourfold = refl

-- no room is left where the cell is used beyond the percentage already
beyond : ten (Cap 40) ≡ 0
unfolding amount ten
beyond = refl

-- exactly the percentage is within it
at_the_bound : ten (Cap 50) ≡ 0
unfolding amount ten
at_the_bound = refl

-- room for more than the target gives the target
roomy : ten (Cap 1000) ≡ 9
unfolding amount ten
roomy = refl

-- the scarcer component decides
scarce : extras (Cap 100) 10 1 0 (record { cpu = 1; mem = 100; disk = 0 }) (amount 500) (amount 1000) ≡ 5
unfolding amount
scarce = refl

-- also where that is disk
scarce_disk : extras (Cap 100) 10 1 0 (record { cpu = 1; mem = 1; disk = 100 }) (record { cpu = 0; mem = 0; disk = 650 }) (record { cpu = 1000; mem = 1000; disk = 1000 }) ≡ 3
scarce_disk = refl

-- tasks that need nothing always have room, unless the cell is used beyond the percentage
weightless : extras (Cap 50) 10 1 0 (amount 0) (amount 500) (amount 1000) ≡ 9
unfolding amount
weightless = refl

weightless_beyond : extras (Cap 49) 10 1 0 (amount 0) (amount 500) (amount 1000) ≡ 0
unfolding amount
weightless_beyond = refl

-- extras that run count against the target, and so do the wanted tasks
some_running : extras Max 10 3 5 (amount 1) (amount 0) (amount 0) ≡ 2
unfolding amount
some_running = refl

-- more tasks than the target: no extra
above_target : extras Max 10 3 9 (amount 1) (amount 0) (amount 0) ≡ 0
unfolding amount
above_target = refl

many_wanted : extras Max 10 12 0 (amount 1) (amount 0) (amount 0) ≡ 0
unfolding amount
many_wanted = refl

-- four times the tasks, but never above the activities
few_activities : extras Relative 10 4 0 (amount 1) (amount 0) (amount 0) ≡ 6
unfolding amount
few_activities = refl

-- a claim that is placed and evicts these tasks
unfoldable placed : List TaskKey → Judgement
placed evicted = record { verdict = Placed; evicted = evicted }

-- a claim that isn't placed, for this reason
unfoldable refused : Verdict → Judgement
refused verdict = record { verdict = verdict; evicted = [] }

unfoldable key : ℕ → ℕ → TaskKey
key job index = record { job = job; index = index }

-- a claim of task 3 of job 12 on machine 5
unfoldable claim : List TaskKey → Claim
claim victims = record { key = key 12 3; machine = 5; spec = record { need = amount 1; prec = 2; differ = false }; victims = victims }

-- the line of a refusal of that claim with these words at its end
unfoldable refuse : List Word → List Line
refuse words = (Name (codes "refuse") ∷ Number 12 ∷ Number 3 ∷ Number 5 ∷ words) ∷ []

-- a placed claim has a line
place_line : claim_lines (claim [], placed []) ≡ (Name (codes "place") ∷ Number 12 ∷ Number 3 ∷ Number 5 ∷ []) ∷ []
unfolding key claim placed refused
place_line = refl

-- before it stand the lines of the tasks that it evicts, in order, with the claim's machine; a victim
-- that is spared has none
evict_lines : claim_lines (claim (key 10 2 ∷ key 10 1 ∷ key 10 0 ∷ []), placed (key 10 2 ∷ key 10 1 ∷ [])) ≡
    (Name (codes "evict") ∷ Number 10 ∷ Number 2 ∷ Number 5 ∷ [])
    ∷ (Name (codes "evict") ∷ Number 10 ∷ Number 1 ∷ Number 5 ∷ [])
    ∷ (Name (codes "place") ∷ Number 12 ∷ Number 3 ∷ Number 5 ∷ []) ∷ []
unfolding key claim placed refused
evict_lines = refl

-- a refused claim has one line, and its victims have none
no_machine_line : claim_lines (claim (key 10 2 ∷ []), refused NoMachine) ≡ refuse (Name (codes "no-machine") ∷ [])
unfolding key claim refuse placed refused
no_machine_line = refl

running_line : claim_lines (claim [], refused (AlreadyRunning 7)) ≡ refuse (Name (codes "running") ∷ Number 7 ∷ [])
unfolding key claim refuse placed refused
running_line = refl

changed_line : claim_lines (claim [], refused (Changed 9 8)) ≡ refuse (Name (codes "changed") ∷ Number 9 ∷ Number 8 ∷ [])
unfolding key claim refuse placed refused
changed_line = refl

victim_rank_line : claim_lines (claim (key 10 2 ∷ []), refused (VictimRank (key 10 2))) ≡ refuse (Name (codes "victim-rank") ∷ Number 10 ∷ Number 2 ∷ [])
unfolding key claim refuse placed refused
victim_rank_line = refl

same_job_line : claim_lines (claim [], refused (SameJob (key 12 1))) ≡ refuse (Name (codes "same-job") ∷ Number 12 ∷ Number 1 ∷ [])
unfolding key claim refuse placed refused
same_job_line = refl

full_line : claim_lines (claim [], refused (Full (record { cpu = 4; mem = 6; disk = 8 }))) ≡ refuse (Name (codes "full") ∷ Number 4 ∷ Number 6 ∷ Number 8 ∷ [])
unfolding key claim refuse placed refused
full_line = refl

withdrawn_line : claim_lines (claim [], refused (Withdrawn 2)) ≡ refuse (Name (codes "withdrawn") ∷ Number 2 ∷ [])
unfolding key claim refuse placed refused
withdrawn_line = refl

-- a round, a commit that evicts, a commit with a refusal and an empty commit
unfoldable short : List Entry
short =
    Round 3 ∷ MachineAdd 5 (amount 10)
    ∷ Commit 0 2 (record { job = 12; rule = Fine; mode = Gang; claims = claim (key 10 2 ∷ []) ∷ [] }) (placed (key 10 2 ∷ []) ∷ [])
    ∷ Commit 1 3 (record { job = 12; rule = Fine; mode = Incremental; claims = claim [] ∷ claim [] ∷ [] }) (refused (AlreadyRunning 5) ∷ refused NoMachine ∷ [])
    ∷ nothing_by 1 4 ∷ []

-- its lines
short_lines : flat_map entry_lines short ≡
    (Name (codes "round") ∷ Number 3 ∷ [])
    ∷ (Name (codes "commit") ∷ Number 0 ∷ Number 2 ∷ Number 12 ∷ [])
    ∷ (Name (codes "evict") ∷ Number 10 ∷ Number 2 ∷ Number 5 ∷ [])
    ∷ (Name (codes "place") ∷ Number 12 ∷ Number 3 ∷ Number 5 ∷ [])
    ∷ (Name (codes "commit") ∷ Number 1 ∷ Number 3 ∷ Number 12 ∷ [])
    ∷ (Name (codes "refuse") ∷ Number 12 ∷ Number 3 ∷ Number 5 ∷ Name (codes "running") ∷ Number 5 ∷ [])
    ∷ (Name (codes "refuse") ∷ Number 12 ∷ Number 3 ∷ Number 5 ∷ Name (codes "no-machine") ∷ [])
    ∷ (Name (codes "commit") ∷ Number 1 ∷ Number 4 ∷ Number 1 ∷ []) ∷ []
unfolding amount nothing_by key claim short placed refused
short_lines = refl

-- words are parted by one space, numbers are decimal, and a line ends with a line feed
line_bytes : line_text (Name (codes "place") ∷ Number 12 ∷ Number 0 ∷ []) ≡ codes "place 12 0\n"
line_bytes = rw (decimal_step 12 (lit≤ tt) (lit< tt), decimal_digit 1 (lit< tt), decimal_digit 0 (lit< tt)) refl
