use Rattle.std.proofs.Common.{◌≡◌, ◌∷◌, [], not, sym, subst, rules}
use Rattle.std.proofs.lemmas.Fn.{filter_same}
use Rattle.omega_model.specs.Cell.{without}
use Rattle.omega_model.specs.Keys.{is_among}
use Rattle.omega_model.specs.declared.cells.Task.{Task}
use Rattle.omega_running.specs.declared.orders.Order.TheVariants.{ByKey}
use Rattle.omega_running.specs.Order.{IsInOrder, precedes}
use Rattle.omega_running.proofs.Kept.{rises_filter}
use Rattle.omega_plan.proofs.placed.take_out.Goals as goal

pub returns-clause-items : goal.returns-clause-items
returns-clause-items c =
    filter_same _ (λ (task : Task). not (is_among task.key (c.args.key ∷ []))) _ (λ task b f k. search rules) _ _ c.retain.ensures.filtered

pub returns-clause-rise : goal.returns-clause-rise
returns-clause-rise c =
    let kept : c.retain.new.self.items ≡ without (c.args.key ∷ []) c.args.list.now.items =
    filter_same _ (λ (task : Task). not (is_among task.key (c.args.key ∷ []))) _ (λ task b f k. search rules) _ _ c.retain.ensures.filtered in
    subst (IsInOrder ByKey) (sym kept) (rises_filter (precedes ByKey) (λ (task : Task). not (is_among task.key (c.args.key ∷ []))) c.args.list.now.items c.requires)
