use Rattle.std.proofs.Common.{◌<◌, List, [], Some, length, sym, subst, ◌∙◌}
use Rattle.std.proofs.lemmas.List.{length-map}
use Rattle.omega_machines.specs.declared.MachineState.{MachineState}
use Rattle.omega_model.specs.declared.cells.TaskKey.{TaskKey}
use Rattle.omega_plan.specs.Overlays.{cell_after}
use Rattle.omega_plan.specs.Kinds.{Serves}
use Rattle.omega_plan.specs.Steps.{IsStep}
use Rattle.omega_plan.specs.Trying.{IsClaimAt}
use Rattle.omega_plan.specs.declared.progress.Progress.{Progress}
use Rattle.omega_plan.proofs.StepsOf.{serves_full, step_as_is, step_running}
use Rattle.omega_plan.proofs.planning.claim_for_wish.Goals as goal

pub returns-then-runs-clause-step : goal.returns-then-runs-clause-step
returns-then-runs-clause-step c =
    step_running (cell_after c.args.overlay.now) c.args.wish.now c.args.progress c.requires.serves c.args.preempts (sym c.runs.ensures.runs ∙ c.if-runs.true)

pub claim_by_evicting-requires-clause-serves : goal.claim_by_evicting-requires-clause-serves
claim_by_evicting-requires-clause-serves c =
    let cell = cell_after c.args.overlay.now in
    let wish = c.args.wish.now in
    subst (λ (p : Progress). Serves cell wish p) (sym c.full.ensures)
    (serves_full cell wish c.args.progress c.requires.serves (c.runs.ensures.absent c.if-runs.false) c.in-None.ensures.first)

pub returns-in-Some-clause-step : goal.returns-in-Some-clause-step
returns-in-Some-clause-step c =
    let cell = cell_after c.args.overlay.now in
    let wish = c.args.wish.now in
    let progress = c.args.progress in
    let place = c.in-Some.position in
    let below : place < length cell.machines =
    subst (λ n. place < n) (sym (length-map c.args.overlay.now.board.table (λ (s : MachineState). s.machine))) c.in-Some.ensures.below in
    let is : IsClaimAt cell wish place [] c.claim_at.result =
    subst (λ (keys : List TaskKey). IsClaimAt cell wish place keys c.claim_at.result) c.new.ensures c.claim_at.ensures in
    subst (λ (p : Progress). IsStep cell wish c.args.preempts progress (record { claim = Some c.claim_at.result; progress = p })) (sym c.found.ensures)
    (step_as_is cell wish progress c.requires.serves c.runs.ensures.ordered c.runs.ensures.sound.numbers (c.runs.ensures.absent c.if-runs.false) c.args.preempts place below
    c.claim_at.result c.in-Some.ensures.first is)

pub first_to_take-requires-clause-index : goal.first_to_take-requires-clause-index
first_to_take-requires-clause-index c = c.free.ensures (cell_after c.args.overlay.now) c.requires.tell
