use Rattle.std.proofs.Common.{◌≡◌, ◌+◌, List, Some, take, length, get_or, sym, ap, subst, ◌∙◌, rules}
use Rattle.std.specs.List.{find, range_with_len}
use Rattle.std.specs.List.Sorted.{IsPermutation, IsSortedBy}
use Rattle.std.proofs.lemmas.List.Sorted.{IsPermutation-trans, answers_always}
use Rattle.omega_model.specs.Cell.{by_rank, goes_before}
use Rattle.omega_model.specs.declared.cells.Task.{Task}
use Rattle.omega_running.proofs.Ranked.{by_rank_is, ranks_by_key}
use Rattle.omega_plan.specs.Leaving.{leaves_enough}
use Rattle.omega_plan.proofs.evicting.first_sorted.Goals as goal

pub returns : goal.returns
returns c = λ own rises places.
    let ys = c.sort_unstable_by_key.new.self.items in
    let moved : IsPermutation own ys = IsPermutation-trans _ _ _ places c.sort_unstable_by_key.ensures.permutation in
    let sorted = c.sort_unstable_by_key.ensures.sorted (λ (t : Task). (t.spec.prec, t.key.job, t.key.index)) (answers_always _ _ _ (λ f a r f' q. search rules)) in
    let up : IsSortedBy goes_before ys = λ k d l h. sym (ranks_by_key (get_or ys (k + 1) d) (get_or ys k d)) ∙ sorted k d l h in
    let ranked : by_rank own ≡ ys = by_rank_is own ys rises moved up in
    record {
      count = c.fewest-count.result;
      least = subst (λ (ts : List Task). find (leaves_enough c.args.need c.args.left ts) (range_with_len 0 (length ts + 1)) ≡ Some c.fewest-count.result) (c.deref.ensures.value ∙ sym ranked) c.fewest-count.ensures;
      first = c.truncate.ensures.items ∙ ap (take c.fewest-count.result) (sym ranked);
    }
