use Rattle.std.proofs.Common.{◌≡◌, [], List, true, false, length, sym, ap, subst, ◌∙◌, arith}
use Rattle.std.specs.List.{insert}
use Rattle.omega_model.specs.Keys.{key_lt}
use Rattle.omega_model.specs.declared.cells.Task.{Task}
use Rattle.omega_model.specs.declared.cells.TaskKey.{TaskKey}
use Rattle.omega_model.proofs.InOrder.{key_asym}
use Rattle.omega_running.specs.declared.orders.Order.TheVariants.{ByKey}
use Rattle.omega_running.proofs.AtFork.{at_middle, put_at_right}
use Rattle.omega_plan.proofs.Listed.{put_behind}
use Rattle.omega_plan.proofs.placed.place_of.Goals as goal

pub returns-then-key_lt-clause-place : goal.returns-then-key_lt-clause-place
returns-then-key_lt-clause-place c = λ task same.
    let last = c.in-Some.last.now in
    let tasks = c.args.tasks.now in
    let f = at_middle {order = ByKey} c.requires c.in-Some.ensures.cases.0 in
    let less : key_lt last.key c.args.key ≡ true = sym c.key_lt.ensures ∙ c.if-key_lt.true in
    let p : key_lt task.key last.key ≡ false = subst (λ (k : TaskKey). key_lt k last.key ≡ false) (sym same) (key_asym last.key c.args.key less) in
    put_at_right task f p
    ∙ put_behind c.in-Some._before.now last [] 0 (length tasks) task (omega (arith, c.in-Some.ensures.cases.1))
    ∙ ap (λ (ys : List Task). insert ys (length tasks) task) (sym c.in-Some.ensures.cases.0)
