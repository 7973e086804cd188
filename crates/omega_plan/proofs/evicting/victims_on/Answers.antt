use Rattle.std.proofs.Common.{◌≡◌, List, Option, sym, ap, subst, ◌∙◌}
use Rattle.std.specs.List.{filter}
use Rattle.std.specs.List.Sorted.{IsPermutation}
use Rattle.std.proofs.lemmas.Result.{IfOk-weaker}
use Rattle.omega_model.specs.Cell.{is_on}
use Rattle.omega_model.specs.Judge.{is_up}
use Rattle.omega_model.specs.Plan.{victims}
use Rattle.omega_model.specs.declared.cells.Task.{Task}
use Rattle.omega_model.specs.declared.cells.TaskKey.{TaskKey}
use Rattle.omega_running.specs.declared.orders.Order.TheVariants.{ByKey}
use Rattle.omega_running.specs.Order.{IsInOrder, precedes}
use Rattle.omega_running.proofs.Kept.{rises_filter}
use Rattle.omega_plan.specs.Leaving.{AreFewest}
use Rattle.omega_plan.specs.Overlays.{cell_after}
use Rattle.omega_plan.proofs.Leaving.{victims_beside, victims_down}
use Rattle.omega_plan.proofs.Nearest.{victims_are}
use Rattle.omega_plan.proofs.evicting.victims_on.Goals as goal

pub returns-then-not-machine : goal.returns-then-not-machine
returns-then-not-machine c =
    victims_down (cell_after c.args.overlay.now) c.args.wish.now c.args.machine.now.id c.requires.ordered (ap is_up c.requires.listed ∙ c.if-not-machine.true)

pub returns-then-has_rival : goal.returns-then-has_rival
returns-then-has_rival c =
    victims_beside (cell_after c.args.overlay.now) c.args.wish.now c.args.machine.now c.requires.ordered c.requires.absent c.requires.listed c.if-not-machine.false
    (sym c.has_rival.ensures ∙ c.if-has_rival.true)

pub returns-in-Some : goal.returns-in-Some
returns-in-Some c =
    let cell = cell_after c.args.overlay.now in
    let wish = c.args.wish.now in
    let machine = c.args.machine.now in
    let own = filter (is_on machine.id) cell.tasks in
    let here = c.in-Some.tasks.now in
    let places : IsPermutation own here = c.in-Some.ensures cell.tasks c.requires.found in
    IfOk-weaker c.victims_among.result
    (λ (keys : Option (List TaskKey)). (some : List Task) → IsInOrder ByKey some → IsPermutation some here → AreFewest wish machine.cap some keys)
    (λ (keys : Option (List TaskKey)). keys ≡ victims cell machine.id wish)
    (λ keys fewest. victims_are cell wish machine c.requires.ordered c.requires.absent c.requires.listed c.if-not-machine.false (sym c.has_rival.ensures ∙ c.if-has_rival.false) keys
    (fewest own (rises_filter (precedes ByKey) (is_on machine.id) cell.tasks c.requires.ordered) places))
    c.victims_among.ensures

pub returns-in_ok-tasks-in-None : goal.returns-in_ok-tasks-in-None
returns-in_ok-tasks-in-None c =
    let cell = cell_after c.args.overlay.now in
    let wish = c.args.wish.now in
    let machine = c.args.machine.now in
    let own = filter (is_on machine.id) cell.tasks in
    let here = c.as_slice.result.now in
    let places : IsPermutation own here = subst (λ (ts : List Task). IsPermutation own ts) (sym c.as_slice.ensures) c.in_ok-tasks-in-None.ensures.tasks in
    IfOk-weaker c.victims_among-in-None.result
    (λ (keys : Option (List TaskKey)). (some : List Task) → IsInOrder ByKey some → IsPermutation some here → AreFewest wish machine.cap some keys)
    (λ (keys : Option (List TaskKey)). keys ≡ victims cell machine.id wish)
    (λ keys fewest. victims_are cell wish machine c.requires.ordered c.requires.absent c.requires.listed c.if-not-machine.false (sym c.has_rival.ensures ∙ c.if-has_rival.false) keys
    (fewest own (rises_filter (precedes ByKey) (is_on machine.id) cell.tasks c.requires.ordered) places))
    c.victims_among-in-None.ensures
