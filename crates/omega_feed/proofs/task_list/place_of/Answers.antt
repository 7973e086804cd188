use Rattle.std.proofs.Common.{rules}
use Rattle.std.proofs.lemmas.List.Sorted.{answers_always}
use Rattle.omega_feed.proofs.Slots.{searched}
use Rattle.omega_feed.proofs.task_list.place_of.Goals as goal

pub returns : goal.returns
returns c =
    searched c.args.slots.now c.args.key c.binary_search_by_key.result c.requires c.binary_search_by_key.ensures.bound
    (c.binary_search_by_key.ensures.position (λ slot. slot.key) (answers_always _ _ _ (λ f a r g h. search rules)))
