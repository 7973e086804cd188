use Rattle.std.proofs.Common.{◌==◌, ◌++◌, sym, ap, ◌∙◌}
use Rattle.std.proofs.lemmas.List.Filters.{dedup_is}
use Rattle.std.proofs.lemmas.List.Sorted.{list_any-IsPermutation}
use Rattle.omega_board.specs.Numbers.{is_among}
use Rattle.omega_board.proofs.Numbers.{once_kept}
use Rattle.omega_plan.proofs.levels.each_once.Goals as goal

pub returns : goal.returns
returns c = λ id.
    let copied = c.extend_from_slice.new.self.items in
    let sorted = c.sort_unstable.new.self.items in
    ap (λ ids. is_among ids id) (dedup_is _ _ _ c.dedup.ensures.filtered) ∙ once_kept sorted id
    ∙ sym (list_any-IsPermutation (λ other. other == id) copied sorted c.sort_unstable.ensures.permutation)
    ∙ ap (λ ids. is_among ids id) (c.in_ok-extend_from_slice.ensures.items ∙ ap (λ ids. ids ++ c.args.numbers.now) c.new-once.ensures.items)
