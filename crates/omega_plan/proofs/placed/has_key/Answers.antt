use Rattle.std.proofs.Common.{◌≡◌, true, Bor, Option, Some, None, is_some, refl, sym, ap, ◌∙◌}
use Rattle.std.specs.Option.{option_map}
use Rattle.omega_model.specs.Keys.{key_lt}
use Rattle.omega_model.specs.declared.cells.Task.{Task}
use Rattle.omega_running.specs.declared.orders.Order.TheVariants.{ByKey}
use Rattle.omega_running.proofs.AtFork.{at_middle, found_at_right}
use Rattle.omega_plan.proofs.placed.has_key.Goals as goal

pub returns-then-key_lt : goal.returns-then-key_lt
returns-then-key_lt c =
    let f = at_middle {order = ByKey} c.requires c.in-Some.ensures.cases.0 in
    let p : key_lt c.in-Some.last.now.key c.args.key ≡ true = sym c.key_lt.ensures ∙ c.if-key_lt.true in
    sym (ap is_some (found_at_right c.args.key f p))

pub returns : goal.returns
returns c = c.is_some.ensures ∙ mapped c.task_in.result ∙ ap is_some c.task_in.ensures where
  mapped : (found : Option (Bor Task)) → is_some found ≡ is_some (option_map (λ (task : Bor Task). task.now) found)
  mapped None = refl
  mapped (Some task) = refl
