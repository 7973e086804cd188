use Rattle.std.proofs.Common.{◌≡◌, ◌∙◌, ℕ, true, false, not, List, Option, None, Some, sym, ap, subst}
use Rattle.std.specs.Prelude.{is_some}
use Rattle.std.specs.List.{list_any}
use Rattle.omega_model.specs.Wanted.{WantedTask, is_named}
use Rattle.omega_feed.specs.Asked.{Asked, activities_in}
use Rattle.omega_feed.specs.Open.{IsOpen, OthersAreQuiet}
use Rattle.omega_feed.proofs.Quiet.{others_again, others_with}
use Rattle.omega_feed.proofs.wanted.Wanted.want.Goals as goal

pub returns-clause-quiet : goal.returns-clause-quiet
returns-clause-quiet c tasks quiet =
    let kept = c.self.inside in
    let was : Asked = record { jobs = kept.jobs; constraints = kept.constraints; disks = kept.disks; activities = kept.activities; extra = kept.extra; tasks = kept.tasks } in
    let after = c.reopen.new.self in
    let opened : IsOpen after was c.args.key.job = subst (λ (asked : Asked). IsOpen after asked c.args.key.job) (sym c.self.view_is) c.in_ok-reopen.ensures.ok in
    let others : OthersAreQuiet c.args.open_jobs.now was tasks = subst (λ (asked : Asked). OthersAreQuiet c.args.open_jobs.now asked tasks) (sym c.self.view_is) quiet in
    subst (λ (left : List WantedTask). OthersAreQuiet after (record was { tasks = left }) tasks) (sym c.in_ok-insert-2.ensures.ok)
    (others_with c.args.open_jobs.now after was tasks c.args.key c.args.spec c.reopen.ensures.stay opened others)

pub returns-then-is_none-clause-quiet : goal.returns-then-is_none-clause-quiet
returns-then-is_none-clause-quiet c tasks quiet =
    let kept = c.self.inside in
    let was : Asked = record { jobs = kept.jobs; constraints = kept.constraints; disks = kept.disks; activities = kept.activities; extra = kept.extra; tasks = kept.tasks } in
    let named : list_any (is_named c.args.key) kept.tasks ≡ true = sym c.contains.ensures ∙ c.if-contains.true in
    let none : activities_in kept.activities c.args.key.job ≡ None = none_there _ _ c.of.ensures.activities (c.is_none.ensures ∙ ap not c.if-is_none.true) in
    let others : OthersAreQuiet c.args.open_jobs.now was tasks = subst (λ (asked : Asked). OthersAreQuiet c.args.open_jobs.now asked tasks) (sym c.self.view_is) quiet in
    subst (λ (left : List WantedTask). OthersAreQuiet c.args.open_jobs.now (record was { tasks = left }) tasks) (sym c.in_ok-insert.ensures.ok)
    (others_again c.args.open_jobs.now was tasks c.args.key c.args.spec named none others)
  where
    none_there : (found known : Option ℕ) → found ≡ known → is_some found ≡ false → known ≡ None
    none_there None known same is = sym same
    none_there (Some activities) known same is = absurd (cc)
