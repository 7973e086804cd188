use Rattle.std.proofs.Common.{◌≡◌, ◌∙◌, ◌+◌, ℕ, List, inl, inr, length, true, false, None, Some, refl, sym, ap, subst}
use Rattle.std.specs.Prelude.{nat_le}
use Rattle.std.specs.List.{filter, list_any}
use Rattle.omega_model.specs.ExtraTasks.{is_extra_of, wanted_of}
use Rattle.omega_model.specs.Extras.{target}
use Rattle.omega_model.specs.Wanted.{WantedTask}
use Rattle.omega_feed.specs.Asked.{Asked, activities_in, is_task_of}
use Rattle.omega_feed.specs.Open.{GetsNoExtras}
use Rattle.omega_feed.proofs.HeldExtras.{has_all_extras, its_extras_all, none_wanted, wants_none}
use Rattle.omega_feed.proofs.wanted.Wanted.gets_no_extras.Goals as goal

pub returns-then-wanted-eq0 : goal.returns-then-wanted-eq0
returns-then-wanted-eq0 c =
    let kept = c.self.inside in
    let count : length (wanted_of c.args.job kept.tasks) ≡ 0 = sym c.count_of-wanted.ensures ∙ c.if-wanted-eq0.true in
    let none : list_any (is_task_of c.args.job) kept.tasks ≡ false = wants_none c.args.job kept.tasks count in (
      λ _. subst (λ (asked : Asked). GetsNoExtras asked c.args.running.now.tasks c.args.job) c.self.view_is (inr (inl none)),
      λ _. refl,
    )

pub returns : goal.returns
returns c =
    let kept = c.self.inside in
    let was : Asked = record { jobs = kept.jobs; constraints = kept.constraints; disks = kept.disks; activities = kept.activities; extra = kept.extra; tasks = kept.tasks } in
    let job = c.args.job in
    let tasks = c.args.running.now.tasks in
    let own : c.count_of-wanted.result ≡ length (wanted_of job kept.tasks) = c.count_of-wanted.ensures in
    let held : c.count_extras-held.result ≡ length (filter (is_extra_of job) tasks) = c.count_extras-held.ensures in
    let test : c.has_all.result ≡ nat_le (target kept.extra c.in-Some.activities (length (wanted_of job kept.tasks))) (length (wanted_of job kept.tasks) + length (filter (is_extra_of job) tasks)) =
    c.has_all.ensures ∙ (λ i. nat_le (target kept.extra c.in-Some.activities (own i)) (own i + held i)) in
    let has : activities_in kept.activities job ≡ Some c.in-Some.activities = sym c.in-Some.ensures.activities in
    let back : GetsNoExtras was tasks job → c.has_all.result ≡ true = λ gets. elim gets [
      | inl none ↦ absurd (differ c.in-Some.activities (sym has ∙ none))
      | inr (inl none) ↦ absurd (c.if-wanted-eq0.false (own ∙ ap (λ (tasks : List WantedTask). length tasks) (none_wanted job kept.tasks none)))
      | inr (inr its) ↦ test ∙ its_extras_all was tasks job c.in-Some.activities has c.requires its
    ] in (
      λ is. subst (λ (asked : Asked). GetsNoExtras asked tasks job) c.self.view_is
          (inr (inr (has_all_extras was tasks job c.in-Some.activities has c.requires (sym test ∙ is)))),
      λ gets. back (subst (λ (asked : Asked). GetsNoExtras asked tasks job) (sym c.self.view_is) gets),
    )
  where
    differ : (activities : ℕ) → Some activities ≡ None → ⊥
    differ activities e = cc
