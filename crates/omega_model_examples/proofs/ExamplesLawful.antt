-- A worked run: a small trace with a history that is lawful for it and in turns, and one that isn't.
use Rattle.std.proofs.Common.{◌≡◌, ◌≤◌, ◌<◌, All, inl, ℕ, zero, suc, false, List, [], ◌∷◌, Some, refl, subst, take, slice_get, lit<, lit≤, arith}
use Rattle.rand_pcg.specs.Lcg.{state_after}
use Rattle.omega_model.specs.Fields.{TaskFields}
use Rattle.omega_model.specs.Feed.{feed}
use Rattle.omega_model.specs.Lawful.{Lawful, RoundOf, IsCommitOfRound}
use Rattle.omega_model.specs.Policy.{schedulers}
use Rattle.omega_model.specs.Turns.{InTurns, KeepsTurns, StandsBefore}
use Rattle.omega_model.specs.Work.{HasLeft, IsDue}
use Rattle.omega_model.specs.declared.cells.Need.{Need}
use Rattle.omega_model.specs.declared.cells.Spec.{Spec}
use Rattle.omega_model.specs.declared.cells.TaskKey.{TaskKey}
use Rattle.omega_model.specs.declared.claims.Claim.{Claim}
use Rattle.omega_model.specs.declared.claims.Judgement.{Judgement}
use Rattle.omega_model.specs.declared.claims.Mode.TheVariants.{Incremental}
use Rattle.omega_model.specs.declared.claims.Rule.TheVariants.{Fine}
use Rattle.omega_model.specs.declared.claims.Txn.{Txn}
use Rattle.omega_model.specs.declared.claims.Verdict.TheVariants.{Placed}
use Rattle.omega_model.specs.declared.entries.Entry.{Entry}
use Rattle.omega_model.specs.declared.entries.Entry.TheVariants.{Round, MachineAdd, Commit}
use Rattle.omega_model.specs.declared.rows.Round.{Round as RoundRows}
use Rattle.omega_model.specs.declared.rows.TraceTables.{TraceTables}
use Rattle.omega_model.specs.declared.settings.Settings.{Settings}
use Rattle.omega_model.specs.declared.settings.Clock.TheVariants as clock
use Rattle.omega_model.specs.declared.settings.Command.TheVariants.{Replay}
use Rattle.omega_model.specs.declared.settings.Ends.TheVariants as ends
use Rattle.omega_model.specs.declared.settings.Preempt.TheVariants.{Nobody}
use Rattle.omega_model.specs.declared.settings.Extra.TheVariants.{Max}
use Rattle.omega_model.specs.declared.settings.Format.TheVariants.{Text}

unfoldable amount : ℕ → Need
amount n = record { cpu = n; mem = n; disk = 0 }

-- a capacity: a machine without a row of its own has the greatest disk
unfoldable room : ℕ → Need
room n = record { cpu = n; mem = n; disk = 1000000000000 }

-- a claim that is placed and evicts nothing
unfoldable placed : Judgement
placed = record { verdict = Placed; evicted = [] }

unfoldable spec : Spec
spec = record { need = amount 6; prec = 1; differ = false }

unfoldable key : ℕ → TaskKey
key job = record { job = job; index = 0 }

unfoldable submitted : ℕ → TaskFields
submitted job = record { time = 0; key = key job; code = 0; class = 0; spec = spec }

unfoldable settings : Settings
settings = record {
  command = Replay;
  seed = 0;
  batch = 1;
  rule = Fine;
  mode = Incremental;
  preempt = Nobody;
  extra = Max;
  tries = 3;
  give_up = 9;
  window = 10;
  format = Text;
  machines = 0;
  jobs = 0;
  t_job = 100000;
  t_task = 5000;
  service_t_job = 100000;
  service_t_task = 5000;
  clock = clock.Rounds;
  times = false;
  ends = ends.Trace;
}

-- a machine of capacity 10 and a task of need 6 for each of jobs 1 and 2
unfoldable trace : TraceTables
trace = record {
  machines = record { time = 0; machine = 1; code = 0; cap = amount 10 } ∷ [];
  attrs = [];
  tasks = submitted 1 ∷ submitted 2 ∷ [];
  constraints = [];
  activities = [];
  disks = [];
}

unfoldable only_round : RoundRows
only_round = record { number = 0; rows = feed trace }

unfoldable asks : ℕ → List Claim → Txn
asks job claims = record { job = job; rule = Fine; mode = Incremental; claims = claims }

unfoldable first : Entry
first = Commit 1 2 (asks 1 (record { key = key 1; machine = 1; spec = spec; victims = [] } ∷ [])) (placed ∷ [])

unfoldable second : Entry
second = Commit 1 3 (asks 2 []) []

-- the task of job 1 is placed, and then there is no room for that of job 2
unfoldable whole : List Entry
whole = Round 0 ∷ MachineAdd 1 (room 10) ∷ first ∷ second ∷ []

first_may : IsCommitOfRound settings 2 (take 2 whole) first
unfolding amount spec key settings asks first second whole room placed
first_may = record { known = lit< tt; there = lit≤ tt; rows = lit≤ tt; own = lit≤ tt; answered = refl }

second_may : IsCommitOfRound settings 2 (take 3 whole) second
unfolding amount spec key settings asks first second whole room placed
second_may = record { known = lit< tt; there = lit≤ tt; rows = lit≤ tt; own = lit≤ tt; answered = refl }

all_may : (place : ℕ) (entry : Entry) → slice_get whole place ≡ Some entry → 2 ≤ place → IsCommitOfRound settings 2 (take place whole) entry
unfolding whole room placed
all_may zero entry at past = absurd (omega arith)
all_may (suc zero) entry at past = absurd (omega arith)
all_may (suc (suc zero)) entry at past = let same : first ≡ entry = cc in subst (λ e. IsCommitOfRound settings 2 (take 2 whole) e) same first_may
all_may (suc (suc (suc zero))) entry at past = let same : second ≡ entry = cc in subst (λ e. IsCommitOfRound settings 2 (take 3 whole) e) same second_may
all_may (suc (suc (suc (suc place)))) entry at past = absurd cc

-- a fact about each commit of the history holds at each place from 2 on
due_at : (scheduler : ℕ) → IsDue settings trace (feed trace) 2 scheduler (take 2 whole) first
    → IsDue settings trace (feed trace) 2 scheduler (take 3 whole) second
    → (place : ℕ) (entry : Entry) → slice_get whole place ≡ Some entry → 2 ≤ place
    → IsDue settings trace (feed trace) 2 scheduler (take place whole) entry
unfolding whole room placed
due_at scheduler one two zero entry at past = absurd (omega arith)
due_at scheduler one two (suc zero) entry at past = absurd (omega arith)
due_at scheduler one two (suc (suc zero)) entry at past =
    let same : first ≡ entry = cc in subst (λ e. IsDue settings trace (feed trace) 2 scheduler (take 2 whole) e) same one
due_at scheduler one two (suc (suc (suc zero))) entry at past =
    let same : second ≡ entry = cc in subst (λ e. IsDue settings trace (feed trace) 2 scheduler (take 3 whole) e) same two
due_at scheduler one two (suc (suc (suc (suc place)))) entry at past = absurd cc

-- each of the two commits is the attempt that is due
first_due : IsDue settings trace (feed trace) 2 1 (take 2 whole) first
unfolding amount spec key submitted settings trace asks first second whole room placed state_after
first_due same = (
  record { job = 1; wishes = record { key = key 1; spec = spec; constraints = [] } ∷ [] },
  (
    record { job = 2; wishes = record { key = key 2; spec = spec; constraints = [] } ∷ [] } ∷ [],
    (refl, record { job = refl; rule = refl; mode = refl; claims = refl }),
  ),
)

second_due : IsDue settings trace (feed trace) 2 1 (take 3 whole) second
unfolding amount spec key submitted settings trace asks first second whole room placed state_after
second_due same = (
  record { job = 2; wishes = record { key = key 2; spec = spec; constraints = [] } ∷ [] },
  (
    [],
    (refl, record { job = refl; rule = refl; mode = refl; claims = refl }),
  ),
)

-- nothing is left of the requests of scheduler 1, and the other two have none
batch_done : HasLeft settings trace (feed trace) 2 1 whole []
unfolding amount spec key submitted settings trace asks first second whole room placed
batch_done = record { remains = refl; due = due_at 1 first_due second_due }

not_by_service : (before : List Entry) → IsDue settings trace (feed trace) 2 0 before first × IsDue settings trace (feed trace) 2 0 before second
unfolding first second room placed
not_by_service before = (λ same. absurd (omega arith), λ same. absurd (omega arith))

service_done : HasLeft settings trace (feed trace) 2 0 whole []
unfolding amount spec key submitted settings trace asks first second whole room placed
service_done = record { remains = refl; due = due_at 0 (not_by_service (take 2 whole)).0 (not_by_service (take 3 whole)).1 }

not_by_mapreduce : (before : List Entry) → IsDue settings trace (feed trace) 2 2 before first × IsDue settings trace (feed trace) 2 2 before second
unfolding first second room placed
not_by_mapreduce before = (λ same. absurd (omega arith), λ same. absurd (omega arith))

mapreduce_done : HasLeft settings trace (feed trace) 2 2 whole []
unfolding amount spec key submitted settings trace asks first second whole room placed
mapreduce_done = record { remains = refl; due = due_at 2 (not_by_mapreduce (take 2 whole)).0 (not_by_mapreduce (take 3 whole)).1 }

all_done : (scheduler : ℕ) → scheduler < schedulers settings → HasLeft settings trace (feed trace) 2 scheduler whole []
unfolding settings room placed
all_done zero below = service_done
all_done (suc zero) below = batch_done
all_done (suc (suc zero)) below = mapreduce_done
all_done (suc (suc (suc scheduler))) below = absurd (omega arith)

-- the history is the whole run of the trace's only round
round_done : RoundOf settings trace [] [] only_round whole
unfolding amount spec key submitted settings trace only_round asks first second whole room placed
round_done = record {
  begun = record { begins = refl; commits = all_may; work = λ scheduler below. ([], all_done scheduler below) };
  finished = all_done;
}

lawful : Lawful settings trace whole
unfolding amount spec key submitted settings trace only_round room placed
lawful = (whole, (round_done, refl))

-- a commit of scheduler 1 in turn 0 stands before its next one
after_one : (place : ℕ) → All (StandsBefore 1 1) (record { place = place; scheduler = 1; turn = 0 } ∷ [])
after_one place zero other below = inl (lit< tt)
after_one place (suc k) other below = absurd (omega arith)

-- and it is in turns: the one scheduler with work commits twice, each time with all seen
in_turns : InTurns whole
unfolding amount spec key asks first second whole room placed
in_turns zero entry at = let same : Round 0 ≡ entry = cc in subst (λ e. KeepsTurns (take 0 whole) e) same tt
in_turns (suc zero) entry at = let same : MachineAdd 1 (room 10) ≡ entry = cc in subst (λ e. KeepsTurns (take 1 whole) e) same tt
in_turns (suc (suc zero)) entry at = let same : first ≡ entry = cc in subst (λ e. KeepsTurns (take 2 whole) e) same (record { order = λ k other below. absurd (omega arith); seen_first = refl })
in_turns (suc (suc (suc zero))) entry at = let same : second ≡ entry = cc in subst (λ e. KeepsTurns (take 3 whole) e) same (record { order = after_one 2; seen_first = refl })
in_turns (suc (suc (suc (suc place)))) entry at = absurd cc

-- a scheduler whose copy hasn't seen its own last commit may not commit
not_unseen : (txn : Txn) → IsCommitOfRound settings 2 (take 3 whole) (Commit 1 2 txn []) → ⊥
unfolding amount spec key settings asks first second whole room placed
not_unseen txn may = let own : 3 ≤ 2 = may.own in omega arith

-- nor one whose copy hasn't seen all rows of the round
not_before_rows : (txn : Txn) → IsCommitOfRound settings 2 (take 2 whole) (Commit 1 1 txn []) → ⊥
unfolding amount spec key settings asks first second whole room placed
not_before_rows txn may = let rows : 2 ≤ 1 = may.rows in omega arith
