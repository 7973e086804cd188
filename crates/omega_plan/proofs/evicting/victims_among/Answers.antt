use Rattle.std.proofs.Common.{◌≡◌, ◌++◌, List, sym, ap, subst, ◌∙◌, rules}
use Rattle.std.specs.List.{filter}
use Rattle.std.specs.List.Sorted.{IsPermutation}
use Rattle.std.proofs.lemmas.Bool.{both_ways, false_from_ne_true}
use Rattle.std.proofs.lemmas.Fn.{filter_same}
use Rattle.omega_model.specs.Cell.{by_rank, keys_of, total}
use Rattle.omega_model.specs.Need.{Fits, minus}
use Rattle.omega_model.specs.Plan.{gives_way}
use Rattle.omega_model.specs.declared.cells.Need.{Need}
use Rattle.omega_model.specs.declared.cells.Task.{Task}
use Rattle.omega_model.specs.declared.wishes.Wish.{Wish}
use Rattle.omega_model.proofs.Amounts.{fits_tested}
use Rattle.omega_running.specs.declared.orders.Order.TheVariants.{ByKey}
use Rattle.omega_running.specs.Order.{precedes}
use Rattle.omega_running.proofs.Kept.{rises_filter}
use Rattle.omega_board.proofs.Ranks.{fits_true}
use Rattle.omega_plan.specs.Leaving.{GoFirst, stays}
use Rattle.omega_plan.proofs.Moved.{filter_moved, total_moved}
use Rattle.omega_plan.proofs.evicting.victims_among.Goals as goal

-- what is left by those that stay, wherever they stand
left_there : (wish : Wish) (cap left : Need) (own moved : List Task) → IsPermutation own moved → left ≡ minus cap (total (filter (stays wish) moved)) → left ≡ minus cap (total (filter (stays wish) own))
left_there wish cap left own moved places is = is ∙ ap (minus cap) (sym (total_moved _ _ (filter_moved (stays wish) own moved places)))

pub returns-then-not-fits : goal.returns-then-not-fits
returns-then-not-fits c = λ own rises places.
    let wish = c.args.wish.now in
    let left = left_there wish c.args.cap c.left_by_staying-left.result own c.args.tasks.now places c.left_by_staying-left.ensures in
    false_from_ne_true _ (λ t. both_ways c.fits.result c.if-not-fits.true (c.fits.ensures.1 (subst (Fits wish.spec.need) (sym left) (fits_tested _ _ t))))

pub first_to_go-gone-requires : goal.first_to_go-gone-requires
first_to_go-gone-requires c = record { room = fits_true _ _ (c.fits.ensures.0 c.if-not-fits.false) }

pub returns : goal.returns
returns c = λ own rises places.
    let wish = c.args.wish.now in
    let all = c.extend_from_slice.new.self.items in
    let left = left_there wish c.args.cap c.left_by_staying-left.result own c.args.tasks.now places c.left_by_staying-left.ensures in
    let kept : c.retain.new.self.items ≡ filter (gives_way wish) all = filter_same _ (gives_way wish) _ (λ task b f k. search rules) _ _ c.retain.ensures.filtered in
    let moved : IsPermutation own all = subst (IsPermutation own) (sym (c.in_ok-extend_from_slice.ensures.items ∙ ap (λ (ts : List Task). ts ++ c.args.tasks.now) c.new-going.ensures.items)) places in
    let some : IsPermutation (filter (gives_way wish) own) c.retain.new.self.items =
    subst (IsPermutation (filter (gives_way wish) own)) (sym kept) (filter_moved (gives_way wish) own all moved) in
    let first = c.first_to_go-gone.ensures (filter (gives_way wish) own) (rises_filter (precedes ByKey) (gives_way wish) own rises) some in
    record {
      gone = c.first_to_go-gone.result.items;
      first = subst (λ (n : Need). GoFirst wish.spec.need n (by_rank (filter (gives_way wish) own)) c.first_to_go-gone.result.items) left first;
      named = c.in_ok-keys_of.ensures ∙ ap keys_of c.deref.ensures.value;
    }
