use Rattle.std.proofs.Common.{◌≡◌, ◌<◌, ◌+◌, ◌∷◌, ◌++◌, List, true, false, length, length-append, refl, sym, ap, subst, ◌∙◌, arith, rules}
use Rattle.std.specs.List.{insert}
use Rattle.omega_model.specs.Keys.{key_lt}
use Rattle.omega_model.specs.declared.cells.Task.{Task}
use Rattle.omega_model.specs.declared.cells.TaskKey.{TaskKey}
use Rattle.omega_running.specs.declared.orders.Order.TheVariants.{ByKey}
use Rattle.omega_running.specs.Kept.{KeysRise}
use Rattle.omega_running.proofs.AtFork.{at_middle, put_at_left, put_at_right}
use Rattle.omega_plan.proofs.Listed.{put_before, put_behind}
use Rattle.omega_plan.proofs.placed.+place_within.Goals as goal

pub place_within-requires : goal.place_within-requires
place_within-requires t c =
    let f = at_middle {order = ByKey} c.requires c.halves.ensures in
    let ordered : KeysRise c.halves.result.0.now = f.left in
    let long : length c.args.tasks.now ≡ length c.halves.result.0.now + length (c.halves.result.1.now ∷ c.halves.result.2.now) = ap length c.halves.ensures ∙ length-append c.halves.result.0.now _ in
    let less : length c.halves.result.0.now < length c.args.tasks.now = omega (arith, long) in
    search rules

pub returns-then-key_lt-clause-place : goal.returns-then-key_lt-clause-place
returns-then-key_lt-clause-place t c = λ task same.
    let l = c.halves.result.0.now in
    let x = c.halves.result.1.now in
    let r = c.halves.result.2.now in
    let n = c.place_within.result in
    let f = at_middle {order = ByKey} c.requires c.halves.ensures in
    let p : key_lt task.key x.key ≡ true = subst (λ (k : TaskKey). key_lt k x.key ≡ true) (sym same) (sym c.key_lt.ensures ∙ c.if-key_lt.true) in
    put_at_left task f p
    ∙ ap (λ (ys : List Task). ys ++ x ∷ r) (c.place_within.ensures.place task same)
    ∙ put_before l x r n task c.place_within.ensures.bound
    ∙ ap (λ (ys : List Task). insert ys n task) (sym c.halves.ensures)

pub place_within-requires-2 : goal.place_within-requires-2
place_within-requires-2 t c =
    let f = at_middle {order = ByKey} c.requires c.halves.ensures in
    let ordered : KeysRise c.halves.result.2.now = f.right in
    let long : length c.args.tasks.now ≡ length c.halves.result.0.now + length (c.halves.result.1.now ∷ c.halves.result.2.now) = ap length c.halves.ensures ∙ length-append c.halves.result.0.now _ in
    let less : length c.halves.result.2.now < length c.args.tasks.now = omega (arith, long) in
    search rules

pub returns-clause-place : goal.returns-clause-place
returns-clause-place t c = λ task same.
    let l = c.halves.result.0.now in
    let x = c.halves.result.1.now in
    let r = c.halves.result.2.now in
    let n = c.place_within-2.result in
    let f = at_middle {order = ByKey} c.requires c.halves.ensures in
    let p : key_lt task.key x.key ≡ false = subst (λ (k : TaskKey). key_lt k x.key ≡ false) (sym same) (sym c.key_lt.ensures ∙ c.if-key_lt.false) in
    put_at_right task f p
    ∙ ap (λ (ys : List Task). l ++ x ∷ ys) (c.place_within-2.ensures.place task same)
    ∙ put_behind l x r n (length l + 1 + n) task refl
    ∙ ap (λ (ys : List Task). insert ys (length l + 1 + n) task) (sym c.halves.ensures)
