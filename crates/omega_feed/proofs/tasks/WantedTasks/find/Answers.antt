use Rattle.std.proofs.Common.{◌<◌, ◌∙◌, ℕ, List, ap, arith, length, subst, sym}
use Rattle.std.specs.List.{filter}
use Rattle.omega_feed.specs.Asked.{is_task_of}
use Rattle.omega_feed.specs.Parts.{BelongsAt, NeverFall, StandsAt}
use Rattle.omega_feed.proofs.Parts.{as_many, found_at, no_part, part_is, rise}
use Rattle.omega_feed.proofs.tasks.WantedTasks.find.Goals as goal

pub place_of-requires : goal.place_of-requires
place_of-requires c = subst NeverFall (sym c.deref.ensures.value) (rise c.self.inside.jobs.items c.self.inside.parts.items c.self.invariant)

pub index-requires : goal.index-requires
index-requires c =
    let jobs = c.self.inside.jobs.items in
    let at : StandsAt jobs c.args.job c.in-Ok.place = subst (λ (js : List ℕ). StandsAt js c.args.job c.in-Ok.place) c.deref.ensures.value c.in-Ok.ensures in
    let within = at.0 in
    let same = as_many jobs c.self.inside.parts.items c.self.invariant in
    let count = c.self.inside.parts.ok.0 in
    omega (arith, within, same, count)

pub returns-in-Ok-clause-part : goal.returns-in-Ok-clause-part
returns-in-Ok-clause-part c =
    let jobs = c.self.inside.jobs.items in
    let parts = c.self.inside.parts.items in
    let at : StandsAt jobs c.args.job c.in-Ok.place = subst (λ (js : List ℕ). StandsAt js c.args.job c.in-Ok.place) c.deref.ensures.value c.in-Ok.ensures in
    let within = at.0 in
    let same = as_many jobs parts c.self.invariant in
    let less : c.in-Ok.place < length parts = omega (arith, within, same) in
    found_at parts c.in-Ok.place c.index.result.now less c.index.ensures
    ∙ part_is jobs parts c.args.job c.in-Ok.place c.self.invariant at
    ∙ ap (filter (is_task_of c.args.job)) c.self.view_is

pub returns-in-Err-clause-none : goal.returns-in-Err-clause-none
returns-in-Err-clause-none c =
    let jobs = c.self.inside.jobs.items in
    let belongs : BelongsAt jobs c.args.job c.in-Err._gap = subst (λ (js : List ℕ). BelongsAt js c.args.job c.in-Err._gap) c.deref.ensures.value c.in-Err.ensures in
    ap (filter (is_task_of c.args.job)) (sym c.self.view_is) ∙ no_part jobs c.self.inside.parts.items c.args.job c.in-Err._gap c.self.invariant belongs
