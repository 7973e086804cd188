use Rattle.std.proofs.Common.{◌∙◌, ◌++◌, ◌∷◌, ◌≡◌, ◌<◌, [], List, ℕ, ap, arith, length, min, subst, sym, append-nil, take}
use Rattle.std.proofs.lemmas.List.{append_assoc, length-drop, length-take, length-set, nil_from_length, take-append-drop, take_all, take_more_set}
use Rattle.omega_feed.specs.Slots.{AreCounted, block}
use Rattle.omega_feed.specs.declared.task_list.Slot.{Slot}
use Rattle.omega_feed.proofs.Blocks.{counted_by, counted_with}
use Rattle.omega_feed.proofs.task_list.count_anew.Goals as goal

pub loop-place-preserved : goal.loop-place-preserved
loop-place-preserved c =
    let place = c.loop-place.place in
    let before = c.loop-place.counts.items in
    let left = c.loop-place.left.now in
    let count = c.wanted_in.result in
    let first = c.split_at.result.0.now in
    let later = c.split_at.result.1.now in
    let long = length-set before place count in
    let within = c.loop-place-test.true in
    let end = c.len-place-end.ensures in
    let same = c.loop-place.invariant.2 in
    let bound = c.loop-place.invariant.1 in
    let fewer = ap length c.split_at.ensures.back ∙ length-drop c.min.result left in
    let least = c.min.ensures in
    let parts = sym (ap (λ (ss : List Slot). ss ++ later) c.split_at.ensures.front ∙ ap (λ (ss : List Slot). take c.min.result left ++ ss) c.split_at.ensures.back ∙ take-append-drop c.min.result left) in
    let size = ap length c.split_at.ensures.front ∙ length-take c.min.result left in
    let first_long : length first ≡ min block (length left) = omega (arith, size, least) in (
      λ counts are.
          let more : place < length before = omega (arith, within, end, same) in
          let all = c.loop-place.invariant.0 (count ∷ counts) (counted_with left first later parts first_long count counts (c.wanted_in.ensures ∙ counted_by first) are) in
          subst (λ (all : List ℕ). AreCounted all c.args.slots.now)
          (sym (ap (λ (done : List ℕ). done ++ counts) (take_more_set before place count more) ∙ append_assoc (take place before) (count ∷ []) counts))
          all,
      omega (arith, long, within, end, same, bound, fewer, least),
      long ∙ same,
    )

pub returns : goal.returns
returns c =
    let counts = c.loop-place.counts.items in
    let over = c.loop-place-test.false in
    let end = c.len-place-end.ensures in
    let same = c.loop-place.invariant.2 in
    let bound = c.loop-place.invariant.1 in
    let none = nil_from_length c.loop-place.left.now (omega (arith, over, end, same, bound)) in
    subst (λ (counts : List ℕ). AreCounted counts c.args.slots.now)
    (append-nil (take c.loop-place.place counts) ∙ take_all c.loop-place.place counts (omega (arith, over, end, same)))
    (c.loop-place.invariant.0 [] none)
