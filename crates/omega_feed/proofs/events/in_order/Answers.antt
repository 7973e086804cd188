use Rattle.std.proofs.Common.{rules}
use Rattle.std.proofs.lemmas.List.Sorted.{answers_always}
use Rattle.omega_feed.proofs.Rising.{rise_from_sort, same_from_stable}
use Rattle.omega_feed.proofs.events.in_order.Goals as goal

pub returns-clause-rise : goal.returns-clause-rise
returns-clause-rise g c =
    rise_from_sort g.R.HasTime.time c.sort_by_key.new.self.items
    (c.in_ok-sort_by_key.ensures.sorted g.R.HasTime.time (answers_always _ _ _ (λ f a r g h. search rules)))

pub returns-clause-same : goal.returns-clause-same
returns-clause-same g c =
    same_from_stable g.R.HasTime.time c.args.rows.items c.sort_by_key.new.self.items
    (c.in_ok-sort_by_key.ensures.stable g.R.HasTime.time (answers_always _ _ _ (λ f a r g h. search rules)))
