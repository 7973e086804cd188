-- What is answered to a transaction.
use Rattle.std.specs.Prelude.{ℕ, Bool, List, [], ◌∷◌, ◌==◌, not, length, map, if◌then◌else◌}
use Rattle.std.specs.List.{position_or_len}
use Rattle.omega_model.specs.Cell.{Cell, with_task, without}
use Rattle.omega_model.specs.Touches.{is_placed}
use Rattle.omega_model.specs.Judge.{judge}
use Rattle.omega_model.specs.declared.cells.Task.{Task}
use Rattle.omega_model.specs.declared.cells.TaskKey.{TaskKey}
use Rattle.omega_model.specs.declared.claims.Claim.{Claim}
use Rattle.omega_model.specs.declared.claims.Judgement.{Judgement}
use Rattle.omega_model.specs.declared.claims.Mode.{Mode}
use Rattle.omega_model.specs.declared.claims.Mode.TheVariants.{Incremental, Gang}
use Rattle.omega_model.specs.declared.claims.Rule.{Rule}
use Rattle.omega_model.specs.declared.claims.Txn.{Txn}
use Rattle.omega_model.specs.declared.claims.Verdict.TheVariants.{Withdrawn}
use Rattle.omega_model.specs.declared.entries.Entry.{Entry}

-- whether a judgement says that its claim is placed
abbrev pub admits : Judgement → Bool
admits judgement = is_placed judgement.verdict

-- the task that runs once a claim is placed
abbrev pub task_of : Claim → Task
task_of claim = record { key = claim.key; machine = claim.machine; spec = claim.spec }

-- the running tasks after a placed claim: those that it evicts stop and its task runs
abbrev pub tasks_placed : List Task → Claim → List TaskKey → List Task
tasks_placed tasks claim evicted = with_task (task_of claim) (without evicted tasks)

-- the running tasks after a claim and what was answered to it
abbrev pub tasks_after_claim : List Task → Claim × Judgement → List Task
tasks_after_claim tasks (claim, judgement) =
    if admits judgement then tasks_placed tasks claim judgement.evicted else tasks

-- the cell after a claim and what was answered to it
abbrev pub after_claim : Cell → Claim × Judgement → Cell
after_claim cell decided = record { machines = cell.machines; tasks = tasks_after_claim cell.tasks decided }

-- what is answered to claims in order, to each on the cell after those before it
abbrev pub judgements : List Entry → ℕ → Cell → Rule → List Claim → List Judgement
judgements history seen cell rule [] = []
judgements history seen cell rule (claim ∷ claims) =
    judge history seen cell rule claim
    ∷ judgements history seen (after_claim cell (claim, judge history seen cell rule claim)) rule claims

-- a placed claim is withdrawn for the claim at this place, and evicts nothing; a refusal stays
abbrev pub withdrawn_for : ℕ → Judgement → Judgement
withdrawn_for place judgement =
    if admits judgement then record { verdict = Withdrawn place; evicted = [] } else judgement

-- the place of the first claim that is refused, or the length where there is none
abbrev pub first_refused : List Judgement → ℕ
first_refused reply = position_or_len (λ judgement. not (admits judgement)) reply

-- a gang with a refusal keeps no claim
abbrev pub all_or_nothing : List Judgement → List Judgement
all_or_nothing reply =
    if first_refused reply == length reply then reply else map (withdrawn_for (first_refused reply)) reply

-- the reply that a mode makes of the judgements
abbrev pub by_mode : Mode → List Judgement → List Judgement
by_mode Incremental reply = reply
by_mode Gang reply = all_or_nothing reply

-- the reply to a transaction on this history and cell
abbrev pub reply_on : List Entry → Cell → ℕ → Txn → List Judgement
reply_on history cell seen txn = by_mode txn.mode (judgements history seen cell txn.rule txn.claims)
