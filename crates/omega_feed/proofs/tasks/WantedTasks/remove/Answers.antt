use Rattle.std.proofs.Common.{◌∙◌, ℕ, List, ap, arith, not, subst, sym}
use Rattle.std.specs.List.{filter}
use Rattle.omega_model.specs.Wanted.{is_named}
use Rattle.omega_feed.specs.Parts.{BelongsAt, NeverFall, StandsAt, joined}
use Rattle.omega_feed.proofs.Parts.{all_low, as_many, no_part, none_taken, rise, taken_now}
use Rattle.omega_feed.proofs.tasks.WantedTasks.remove.Goals as goal

pub place_of-requires : goal.place_of-requires
place_of-requires c = subst NeverFall (sym c.deref.ensures.value) (rise c.self.inside.jobs.items c.self.inside.parts.items c.self.invariant)

pub index_mut-requires : goal.index_mut-requires
index_mut-requires c =
    let jobs = c.self.inside.jobs.items in
    let at : StandsAt jobs c.args.key.job c.in-Ok.place = subst (λ (js : List ℕ). StandsAt js c.args.key.job c.in-Ok.place) c.deref.ensures.value c.in-Ok.ensures in
    let within = at.0 in
    let same = as_many jobs c.self.inside.parts.items c.self.invariant in
    let count = c.self.inside.parts.ok.0 in
    omega (arith, within, same, count)

pub invariant_of-self : goal.invariant_of-self
invariant_of-self c =
    let jobs = c.self.inside.jobs.items in
    let at : StandsAt jobs c.args.key.job c.in-Ok.place = subst (λ (js : List ℕ). StandsAt js c.args.key.job c.in-Ok.place) c.deref.ensures.value c.in-Ok.ensures in
    (taken_now jobs c.self.inside.parts.items c.in-Ok.place c.args.key c.index_mut.result.now c.remove.new.self c.self.invariant at c.index_mut.ensures.value c.remove.ensures.tasks).parts_are

pub returns-in-Ok-clause-tasks : goal.returns-in-Ok-clause-tasks
returns-in-Ok-clause-tasks c =
    let jobs = c.self.inside.jobs.items in
    let at : StandsAt jobs c.args.key.job c.in-Ok.place = subst (λ (js : List ℕ). StandsAt js c.args.key.job c.in-Ok.place) c.deref.ensures.value c.in-Ok.ensures in
    (taken_now jobs c.self.inside.parts.items c.in-Ok.place c.args.key c.index_mut.result.now c.remove.new.self c.self.invariant at c.index_mut.ensures.value c.remove.ensures.tasks).is
    ∙ ap (filter (λ task. not (is_named c.args.key task))) c.self.view_is

pub returns-in-Ok-clause-low : goal.returns-in-Ok-clause-low
returns-in-Ok-clause-low c =
    let jobs = c.self.inside.jobs.items in
    let at : StandsAt jobs c.args.key.job c.in-Ok.place = subst (λ (js : List ℕ). StandsAt js c.args.key.job c.in-Ok.place) c.deref.ensures.value c.in-Ok.ensures in
    all_low jobs _ (taken_now jobs c.self.inside.parts.items c.in-Ok.place c.args.key c.index_mut.result.now c.remove.new.self c.self.invariant at c.index_mut.ensures.value c.remove.ensures.tasks).parts_are

pub returns-in-Err-clause-tasks : goal.returns-in-Err-clause-tasks
returns-in-Err-clause-tasks c =
    let jobs = c.self.inside.jobs.items in
    let parts = c.self.inside.parts.items in
    let job = c.args.key.job in
    let belongs : BelongsAt jobs job c.in-Err._gap = subst (λ (js : List ℕ). BelongsAt js job c.in-Err._gap) c.deref.ensures.value c.in-Err.ensures in
    rw (← c.self.view_is) (none_taken c.args.key (joined parts) (no_part jobs parts job c.in-Err._gap c.self.invariant belongs))

pub returns-in-Err-clause-low : goal.returns-in-Err-clause-low
returns-in-Err-clause-low c = rw (← c.self.view_is) (all_low c.self.inside.jobs.items c.self.inside.parts.items c.self.invariant)
