use Rattle.std.proofs.Common.{◌≡◌, false, [], ap, sym, subst, ◌∙◌}
use Rattle.omega_feed.specs.Asked.{constraints_for}
use Rattle.omega_running.specs.Order.{job_and_index}
use Rattle.omega_feed.specs.Marks.{is_marked}
use Rattle.omega_feed.proofs.Marking.{unmarked_task}
use Rattle.omega_feed.proofs.constraints.TaskConstraints.of.Goals as goal

pub returns-then-not-has : goal.returns-then-not-has
returns-then-not-has c =
    let kept = c.self.inside in
    let key = c.args.key in
    let without : is_marked kept.marks (job_and_index key) ≡ false =
    ap (is_marked kept.marks) (sym c.job_and_index.ensures) ∙ sym c.has.ensures ∙ c.if-not-has.true in
    c.new.ensures
    ∙ sym (subst (λ rows. constraints_for rows key ≡ []) c.self.view_is (unmarked_task kept.marks kept.rows key c.self.invariant.1 without))
