use Rattle.std.proofs.Common.{◌≡◌, ◌==◌, ◌<◌, ◌||◌, List, ℕ, get_or, length, take, sym, ap, ◌∙◌}
use Rattle.std.specs.List.Sorted.{IsStrictlyIncreasing}
use Rattle.std.proofs.lemmas.List.{take_all, take_more}
use Rattle.std.proofs.lemmas.List.Filters.{dedup_is}
use Rattle.std.proofs.lemmas.List.Sorted.{list_any-IsPermutation}
use Rattle.std.proofs.lemmas.Map.Keys.{IsStrictlyIncreasing-dedup}
use Rattle.omega_machines.specs.Table.{machines_of}
use Rattle.omega_model.specs.Touches.{is_number, is_touched}
use Rattle.omega_cell.specs.Touched.{passes_at}
use Rattle.omega_board.specs.Numbers.{is_among}
use Rattle.omega_board.proofs.Numbers.{once_kept}
use Rattle.omega_cell.proofs.Touching.{none_passes, passes_more, places_are}
use Rattle.omega_cell.proofs.touched.touched_positions.Goals as goal

pub loop-number-init : goal.loop-number-init
loop-number-init c = λ place. ap (λ ps. is_among ps place) c.new-positions.ensures.items ∙ sym (none_passes (machines_of c.args.machines.now) place)

pub loop-number-preserved : goal.loop-number-preserved
loop-number-preserved c = λ place.
    let machines = machines_of c.args.machines.now in
    let numbers = c.deref-number-items.result.now in
    let at = c.loop-number.number-index in
    let below : at < length numbers = c.loop-number-test.true in
    c.in_ok-note.ensures place
    ∙ ap (λ b. b || passes_at (is_number (get_or numbers at 0)) machines place) (c.loop-number.invariant place)
    ∙ sym (passes_more (take at numbers) (get_or numbers at 0) machines place)
    ∙ ap (λ seen. passes_at (is_among seen) machines place) (sym (take_more numbers at 0 below))

pub returns-clause-rises : goal.returns-clause-rises
returns-clause-rises c = rw (dedup_is _ _ _ c.dedup.ensures.filtered) (IsStrictlyIncreasing-dedup _ c.sort_unstable.ensures.sorted)

pub returns-clause-places : goal.returns-clause-places
returns-clause-places c =
    let machines = machines_of c.args.machines.now in
    let sorted = c.sort_unstable.new.self.items in
    let is = dedup_is _ _ _ c.dedup.ensures.filtered in
    let rises : IsStrictlyIncreasing c.dedup.new.self.items = rw is (IsStrictlyIncreasing-dedup _ c.sort_unstable.ensures.sorted) in
    let numbers = c.deref-number-items.result.now in
    let all : take c.loop-number.number-index numbers ≡ numbers = take_all c.loop-number.number-index numbers c.loop-number-test.false in
    let named : is_among numbers ≡ is_touched c.args.entries.now = λ i id. (ap (λ ns. is_among ns id) c.deref-number-items.ensures.value ∙ c.in_ok-numbers.ensures id) i in
    places_are (is_touched c.args.entries.now) machines c.dedup.new.self.items rises
    (λ place.
    ap (λ ps. is_among ps place) is ∙ once_kept sorted place
    ∙ sym (list_any-IsPermutation (λ other. other == place) c.loop-number.positions.items sorted c.sort_unstable.ensures.permutation)
    ∙ c.loop-number.invariant place ∙ ap (λ (seen : List ℕ). passes_at (is_among seen) machines place) all
    ∙ (λ i. passes_at (named i) machines place))
