use Rattle.std.proofs.Common.{◌≡◌, ◌<◌, ◌+◌, ◌∷◌, true, false, length, length-append, sym, ap, ◌∙◌, arith, rules}
use Rattle.omega_model.specs.Keys.{key_lt}
use Rattle.omega_running.specs.declared.orders.Order.TheVariants.{ByKey}
use Rattle.omega_running.specs.Kept.{KeysRise}
use Rattle.omega_running.proofs.AtFork.{at_middle, found_at_left, found_at_right, found_here}
use Rattle.omega_running.proofs.standing.+task_in.Goals as goal

pub task_in-requires : goal.task_in-requires
task_in-requires t c =
    let f = at_middle {order = ByKey} c.requires c.halves.ensures in
    let ordered : KeysRise c.halves.result.0.now = f.left in
    let long : length c.args.tasks.now ≡ length c.halves.result.0.now + length (c.halves.result.1.now ∷ c.halves.result.2.now) = ap length c.halves.ensures ∙ length-append c.halves.result.0.now _ in
    let less : length c.halves.result.0.now < length c.args.tasks.now = omega (arith, long) in
    search rules

pub returns-then-key_lt : goal.returns-then-key_lt
returns-then-key_lt t c =
    let f = at_middle {order = ByKey} c.requires c.halves.ensures in
    let p : key_lt c.args.key c.halves.result.1.now.key ≡ true = cc in
    c.task_in.ensures ∙ sym (found_at_left c.args.key f p)

pub task_in-requires-then-key_lt-2 : goal.task_in-requires-then-key_lt-2
task_in-requires-then-key_lt-2 t c =
    let f = at_middle {order = ByKey} c.requires c.halves.ensures in
    let ordered : KeysRise c.halves.result.2.now = f.right in
    let long : length c.args.tasks.now ≡ length c.halves.result.0.now + length (c.halves.result.1.now ∷ c.halves.result.2.now) = ap length c.halves.ensures ∙ length-append c.halves.result.0.now _ in
    let less : length c.halves.result.2.now < length c.args.tasks.now = omega (arith, long) in
    search rules

pub returns-then-key_lt-2 : goal.returns-then-key_lt-2
returns-then-key_lt-2 t c =
    let f = at_middle {order = ByKey} c.requires c.halves.ensures in
    let p : key_lt c.halves.result.1.now.key c.args.key ≡ true = cc in
    c.task_in-then-key_lt-2.ensures ∙ sym (found_at_right c.args.key f p)

pub returns : goal.returns
returns t c =
    let f = at_middle {order = ByKey} c.requires c.halves.ensures in
    let p : key_lt c.args.key c.halves.result.1.now.key ≡ false = cc in
    let q : key_lt c.halves.result.1.now.key c.args.key ≡ false = cc in
    sym (found_here c.args.key f p q)
