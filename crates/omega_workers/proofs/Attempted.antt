-- What is planned on a board is what an attempt plans.
use Rattle.std.proofs.Common.{◌≡◌, ◌≤◌, ◌<◌, ℕ, zero, suc, List, length, map, take, Some, refl, ap, ◌∙◌, arith}
use Rattle.std.specs.Prelude.{slice_get}
use Rattle.std.proofs.lemmas.List.{length-map}
use Rattle.omega_model.specs.Cell.{Cell}
use Rattle.omega_model.specs.Draws.{drawn_start}
use Rattle.omega_model.specs.Planning.{plan_for}
use Rattle.omega_model.specs.Policy.{policy_of}
use Rattle.omega_model.specs.State.{state}
use Rattle.omega_model.specs.Work.{commits_of}
use Rattle.omega_model.specs.declared.claims.Policy.{Policy}
use Rattle.omega_model.specs.declared.claims.Txn.{Txn}
use Rattle.omega_model.specs.declared.settings.Settings.{Settings}
use Rattle.omega_model.specs.declared.wishes.Request.{Request}
use Rattle.omega_machines.specs.declared.MachineState.{MachineState}
use Rattle.omega_board.specs.Board.{BoardState, cell_of}
use Rattle.omega_board.proofs.Commits.{cell_is}
use Rattle.omega_desk.specs.Desks.{DeskState}
use Rattle.omega_laws.proofs.Agreeing.{is_attempt}
use Rattle.omega_workers.specs.Plans.{IsPlannedOver}
use Rattle.omega_workers.proofs.WorkerCommits.{first_some}

-- a plan on a board for the first request at a desk, from the place at which the desk's attempt begins, is that of
-- the attempt
pub planned_over : (desk : DeskState) (board : BoardState) (request : Request) (start : ℕ) (policy : Policy) (txn : Txn)
    → Some request ≡ slice_get desk.requests 0
    → start ≡ drawn_start desk.settings desk.scheduler desk.attempts (length board.table)
    → policy ≡ policy_of desk.settings desk.scheduler
    → txn.job ≡ request.job → txn.rule ≡ policy.rule → txn.mode ≡ policy.mode
    → txn.claims ≡ plan_for (cell_of board) request.wishes start policy
    → IsPlannedOver desk board txn
planned_over desk board request start policy txn first drawn is job rule mode claims = λ history seen stands up_to.
    let parts = first_some desk.requests request first in
    let cell : cell_of board ≡ state (take seen history) = cell_is _ _ stands.machines stands.tasks in
    let count : length board.table ≡ length (state (take seen history)).machines =
    sym_length board.table ∙ ap (λ (c : Cell). length c.machines) cell in
    let begins : start ≡ drawn_start desk.settings desk.scheduler (commits_of desk.scheduler history) (length (state (take seen history)).machines) =
    drawn ∙ ap (λ (n : ℕ). drawn_start desk.settings desk.scheduler n (length board.table)) up_to
    ∙ ap (drawn_start desk.settings desk.scheduler (commits_of desk.scheduler history)) count in
    record {
      request = request;
      rest = parts.0;
      work = parts.1;
      is = is_attempt desk.settings history desk.scheduler seen txn request (record {
        job = job;
        rule = rule ∙ ap (λ (p : Policy). p.rule) is;
        mode = mode ∙ ap (λ (p : Policy). p.mode) is;
        claims = claims
            ∙ ap (λ (c : Cell). plan_for c request.wishes start policy) cell
            ∙ ap (λ (n : ℕ). plan_for (state (take seen history)) request.wishes n policy) begins
            ∙ ap (plan_for (state (take seen history)) request.wishes _) is;
      });
    } where
      sym_length : (table : List MachineState) → length table ≡ length (map (λ (state : MachineState). state.machine) table)
      sym_length table = rw (length-map table (λ (state : MachineState). state.machine)) refl

-- a start that is below the number of machines where there are any is at most that
pub start_within : (settings : Settings) (scheduler attempts start machines : ℕ) → start ≡ drawn_start settings scheduler attempts machines
    → (0 < machines → start < machines) → start ≤ machines
start_within settings scheduler attempts start zero drawn below = let none : start ≡ 0 = drawn in omega (arith, none)
start_within settings scheduler attempts start (suc machines) drawn below = let less = below (omega arith) in omega (arith, less)
