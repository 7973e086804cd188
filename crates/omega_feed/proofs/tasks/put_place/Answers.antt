use Rattle.std.proofs.Common.{◌≡◌, ◌∙◌, ℕ, [], List, ap, arith, subst, sym}
use Rattle.std.specs.List.{insert}
use Rattle.omega_model.specs.Wanted.{WantedTask}
use Rattle.omega_feed.specs.Parts.{AreParts, joined}
use Rattle.omega_feed.proofs.Parts.{as_many, gap}
use Rattle.omega_feed.proofs.tasks.put_place.Goals as goal

pub insert-requires : goal.insert-requires
insert-requires c =
    let same = as_many c.args.jobs.now.items c.args.parts.now.items c.requires.parts in
    let within = c.requires.belongs.0 in
    let count = c.args.parts.now.ok.0 in
    omega (arith, same, within, count)

pub returns-clause-kept : goal.returns-clause-kept
returns-clause-kept c =
    let jobs = c.args.jobs.now.items in
    let parts = c.args.parts.now.items in
    let place = c.args.place in
    let more_jobs : c.insert-2.new.self.items ≡ insert jobs place c.args.job = c.in-Ok.ensures.items ∙ ap (λ (js : List ℕ). insert js place c.args.job) c.reserve.ensures.items in
    let more_parts : c.insert.new.self.items ≡ insert parts place [] = c.in_ok-insert.ensures.items ∙ ap (insert parts place) c.requires.empty in
    subst (λ (js : List ℕ). AreParts js c.insert.new.self.items) (sym more_jobs)
    (subst (λ (ts : List (List WantedTask)). AreParts (insert jobs place c.args.job) ts) (sym more_parts)
    (gap jobs parts c.args.job place c.requires.parts c.requires.belongs).put_parts)

pub returns-clause-same : goal.returns-clause-same
returns-clause-same c =
    let jobs = c.args.jobs.now.items in
    let parts = c.args.parts.now.items in
    let more_parts : c.insert.new.self.items ≡ insert parts c.args.place [] = c.in_ok-insert.ensures.items ∙ ap (insert parts c.args.place) c.requires.empty in
    ap joined more_parts ∙ (gap jobs parts c.args.job c.args.place c.requires.parts c.requires.belongs).put_is
