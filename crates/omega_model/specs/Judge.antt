-- What is answered to a claim: a verdict, and which of its victims are evicted.
use Rattle.std.specs.Prelude.{ℕ, Bool, true, false, List, [], ◌∷◌, Option, Some, None, option_map, unwrap_or, ◌==◌, ◌&&◌, not, nat_le, take, drop, if◌then◌else◌}
use Rattle.std.specs.List.{filter, find, list_any}
use Rattle.omega_model.specs.Need.{fits, minus, nothing}
use Rattle.omega_model.specs.Keys.{same_key, first_mentions, beginnings}
use Rattle.omega_model.specs.Cell.{Cell, machine_at, task_at, rest_on}
use Rattle.omega_model.specs.Jobs.{stays_of_job}
use Rattle.omega_model.specs.Touches.{is_placed, touches, seq}
use Rattle.omega_model.specs.declared.cells.Need.{Need}
use Rattle.omega_model.specs.declared.cells.Machine.{Machine}
use Rattle.omega_model.specs.declared.cells.Task.{Task}
use Rattle.omega_model.specs.declared.cells.TaskKey.{TaskKey}
use Rattle.omega_model.specs.declared.claims.Claim.{Claim}
use Rattle.omega_model.specs.declared.claims.Judgement.{Judgement}
use Rattle.omega_model.specs.declared.claims.Rule.{Rule}
use Rattle.omega_model.specs.declared.claims.Rule.TheVariants.{Fine, Coarse}
use Rattle.omega_model.specs.declared.claims.Verdict.{Verdict}
use Rattle.omega_model.specs.declared.claims.Verdict.TheVariants.{Placed, NoMachine, AlreadyRunning, Changed, VictimRank, SameJob, Full}
use Rattle.omega_model.specs.declared.entries.Entry.{Entry}

-- this verdict, where the test is true
abbrev pub refusal_if : Bool → Verdict → Option Verdict
refusal_if true verdict = Some verdict
refusal_if false verdict = None

-- whether there is a machine, and it is up
abbrev pub is_up : Option Machine → Bool
is_up None = false
is_up (Some machine) = machine.up

-- the capacity of a machine, if there is one
abbrev pub capacity_of : Option Machine → Need
capacity_of None = nothing
capacity_of (Some machine) = machine.cap

-- the machine isn't in the list or isn't up
abbrev pub no_machine : Cell → Claim → Option Verdict
no_machine cell claim = refusal_if (not (is_up (machine_at cell.machines claim.machine))) NoMachine

-- the task runs already
abbrev pub already_running : Cell → Claim → Option Verdict
already_running cell claim = option_map (λ task. AlreadyRunning task.machine) (task_at cell.tasks claim.key)

-- under the coarse rule, an entry that the copy hadn't seen touches the machine
abbrev pub changed : List Entry → ℕ → Rule → Claim → Option Verdict
changed history seen Fine claim = None
changed history seen Coarse claim =
    refusal_if (list_any (touches claim.machine) (drop seen history))
    (Changed (seq history claim.machine) (seq (take seen history) claim.machine))

-- what a rule hands in of the scheduler's copy: the machine's sequence number there under the coarse
-- rule, and nothing under the fine one
abbrev pub known_of : List Entry → ℕ → Rule → ℕ → Option ℕ
known_of history seen Fine machine = None
known_of history seen Coarse machine = Some (seq (take seen history) machine)

-- whether the task of this name runs on this machine
abbrev pub runs_on : List Task → ℕ → TaskKey → Bool
runs_on tasks id key = list_any (λ task. task.machine == id && same_key task.key key) tasks

-- the victims of a claim that stand: those that run on its machine, each at its first mention
abbrev pub standing_victims : List Task → Claim → List TaskKey
standing_victims tasks claim = filter (runs_on tasks claim.machine) (first_mentions claim.victims)

-- whether the task of this name runs and has at least this precedence
abbrev pub withstands : List Task → ℕ → TaskKey → Bool
withstands tasks prec key = list_any (λ task. same_key task.key key && nat_le prec task.spec.prec) tasks

-- a standing victim's precedence isn't lower than the claim's
abbrev pub victim_rank : Cell → Claim → Option Verdict
victim_rank cell claim =
    option_map VictimRank (find (withstands cell.tasks claim.spec.prec) (standing_victims cell.tasks claim))

-- the first task of the claim's job that stays on its machine once these are off it
abbrev pub rival : Cell → Claim → List TaskKey → Option Task
rival cell claim gone = find (stays_of_job claim.key.job claim.machine gone) cell.tasks

-- the claim must be alone of its job on the machine, and another task of the job stays there
abbrev pub same_job : Cell → Claim → Option Verdict
same_job cell claim =
    if claim.spec.differ
    then option_map (λ task. SameJob task.key) (rival cell claim (standing_victims cell.tasks claim))
    else None

-- what is free on the claim's machine once these tasks are off it
abbrev pub free_without : Cell → Claim → List TaskKey → Need
free_without cell claim gone =
    minus (capacity_of (machine_at cell.machines claim.machine)) (rest_on cell.tasks claim.machine gone)

-- the task doesn't fit what is free without the standing victims
abbrev pub full : Cell → Claim → Option Verdict
full cell claim =
    refusal_if (not (fits claim.spec.need (free_without cell claim (standing_victims cell.tasks claim))))
    (Full (free_without cell claim (standing_victims cell.tasks claim)))

-- the first refusal in order, or else the claim is placed
abbrev pub first_that_applies : List (Option Verdict) → Verdict
first_that_applies [] = Placed
first_that_applies (None ∷ rest) = first_that_applies rest
first_that_applies (Some verdict ∷ rest) = verdict

-- the verdict on a claim, where this is said of a change of its machine
abbrev pub verdict_given : Option Verdict → Cell → Claim → Verdict
verdict_given change cell claim = first_that_applies
    (no_machine cell claim ∷ already_running cell claim ∷ change ∷ victim_rank cell claim ∷ same_job cell claim
    ∷ full cell claim ∷ [])

-- whether a claim must be alone of its job on the machine, and isn't once these tasks are off it
abbrev pub has_rival : Cell → Claim → List TaskKey → Bool
has_rival cell claim gone = claim.spec.differ && list_any (stays_of_job claim.key.job claim.machine gone) cell.tasks

-- whether nothing more has to stop for a claim than these tasks
abbrev pub makes_room : Cell → Claim → List TaskKey → Bool
makes_room cell claim gone = fits claim.spec.need (free_without cell claim gone) && not (has_rival cell claim gone)

-- the tasks that a placed claim evicts: no more of its standing victims, in order, than make room
abbrev pub evicted_for : Cell → Claim → List TaskKey
evicted_for cell claim =
    unwrap_or (find (makes_room cell claim) (beginnings (standing_victims cell.tasks claim))) []

-- a verdict with the tasks that are evicted: none where the claim isn't placed
abbrev pub with_evicted : Cell → Claim → Verdict → Judgement
with_evicted cell claim verdict =
    record { verdict = verdict; evicted = (if is_placed verdict then evicted_for cell claim else []) }

-- what is answered to a claim, where this is said of a change of its machine
abbrev pub judged_given : Option Verdict → Cell → Claim → Judgement
judged_given change cell claim = with_evicted cell claim (verdict_given change cell claim)

-- what is answered to a claim whose scheduler had seen the first entries of the history, on the cell
-- as the earlier claims of the transaction left it
abbrev pub judge : List Entry → ℕ → Cell → Rule → Claim → Judgement
judge history seen cell rule claim = judged_given (changed history seen rule claim) cell claim

-- what is answered to a claim under the fine rule, whatever the history
abbrev pub judge_fine : Cell → Claim → Judgement
judge_fine cell claim = judged_given None cell claim

-- whether a claim would be placed under the fine rule
abbrev pub would_be_placed : Cell → Claim → Bool
would_be_placed cell claim = is_placed (judge_fine cell claim).verdict
