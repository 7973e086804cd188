use Rattle.std.proofs.Common.{◌≡◌, ◌++◌, ◌∷◌, [], ap, false, ◌∙◌, refl}
use Rattle.std.specs.List.{list_any}
use Rattle.omega_feed.specs.Asked.{is_job}
use Rattle.omega_feed.proofs.JobList.{absent, found_more, still_found}
use Rattle.omega_feed.proofs.jobs.Jobs.add.Goals as goal

pub invariant_of-self-2 : goal.invariant_of-self-2
invariant_of-self-2 c =
    let items : c.push.new.self.items ≡ c.self.inside.list.items ++ c.args.job ∷ [] = c.push.ensures.items ∙ rw c.if-is_err.ensures.negation refl in
    let none : list_any (is_job c.args.job.job) c.self.inside.list.items ≡ false =
    ap (list_any (is_job c.args.job.job)) c.self.view_is ∙ c.requires in
    rw items
    (found_more c.self.inside.places c.insert.new.self c.self.inside.list.items c.args.job c.len-place.result c.self.invariant
    (absent c.self.inside.places c.self.inside.list.items c.self.invariant c.args.job.job none)
    (c.len-place.ensures ∙ c.self.inside.list.ok.0)
    c.in_ok-insert.ensures.updates)

pub returns-clause-ok : goal.returns-clause-ok
returns-clause-ok c =
    let items : c.push.new.self.items ≡ c.self.inside.list.items ++ c.args.job ∷ [] = c.push.ensures.items ∙ rw c.if-is_err.ensures.negation refl in
    let none : list_any (is_job c.args.job.job) c.self.inside.list.items ≡ false =
    ap (list_any (is_job c.args.job.job)) c.self.view_is ∙ c.requires in
    rw (← c.self.view_is, none, items) refl

pub invariant_of-self-then-is_err : goal.invariant_of-self-then-is_err
invariant_of-self-then-is_err c =
    let kept = c.self.inside in
    let none : list_any (is_job c.args.job.job) kept.list.items ≡ false =
    ap (list_any (is_job c.args.job.job)) c.self.view_is ∙ c.requires in
    let items : c.push.new.self.items ≡ kept.list.items = c.push.ensures.items ∙ rw c.if-is_err.ensures.negation refl in
    rw items
    (still_found kept.places c.insert.new.self c.remove.new.self kept.list.items c.args.job.job c.len-place.result c.self.invariant
    (absent kept.places kept.list.items c.self.invariant c.args.job.job none)
    c.in_ok-insert.ensures.updates c.remove.ensures.updates)
