use Rattle.std.proofs.Common.{◌∙◌, ap, arith}
use Rattle.omega_model.specs.Wanted.{with_wanted}
use Rattle.omega_feed.proofs.Parts.{all_low, as_many, kept_now, put_now}
use Rattle.omega_feed.proofs.tasks.WantedTasks.insert.Goals as goal

pub returns-in_err-place-clause-low : goal.returns-in_err-place-clause-low
returns-in_err-place-clause-low c = all_low _ _ c.place_for.ensures.kept

pub index_mut-requires : goal.index_mut-requires
index_mut-requires c =
    let within = c.in_ok-place.ensures.place.0 in
    let same = as_many c.place_for.new.jobs.items c.place_for.new.parts.items c.place_for.ensures.kept in
    let count = c.place_for.new.parts.ok.0 in
    omega (arith, within, same, count)

pub returns-in_err-insert-clause-low : goal.returns-in_err-insert-clause-low
returns-in_err-insert-clause-low c =
    all_low c.place_for.new.jobs.items _
    (kept_now c.place_for.new.jobs.items c.place_for.new.parts.items c.in_ok-place.place c.args.key c.index_mut.result.now c.insert.new.self
    c.place_for.ensures.kept c.in_ok-place.ensures.place c.index_mut.ensures.value c.in_err-insert.ensures.err).parts_are

pub invariant_of-self-2 : goal.invariant_of-self-2
invariant_of-self-2 c =
    (put_now c.place_for.new.jobs.items c.place_for.new.parts.items c.in_ok-place.place c.args.key c.index_mut.result.now c.insert.new.self
    c.place_for.ensures.kept c.in_ok-place.ensures.place c.index_mut.ensures.value c.args.spec c.requires c.in_ok-insert.ensures.ok).parts_are

pub returns-clause-ok : goal.returns-clause-ok
returns-clause-ok c =
    (put_now c.place_for.new.jobs.items c.place_for.new.parts.items c.in_ok-place.place c.args.key c.index_mut.result.now c.insert.new.self
    c.place_for.ensures.kept c.in_ok-place.ensures.place c.index_mut.ensures.value c.args.spec c.requires c.in_ok-insert.ensures.ok).is
    ∙ ap (with_wanted c.args.key c.args.spec) (c.place_for.ensures.same ∙ c.self.view_is)

pub returns-clause-low : goal.returns-clause-low
returns-clause-low c =
    all_low c.place_for.new.jobs.items _
    (put_now c.place_for.new.jobs.items c.place_for.new.parts.items c.in_ok-place.place c.args.key c.index_mut.result.now c.insert.new.self
    c.place_for.ensures.kept c.in_ok-place.ensures.place c.index_mut.ensures.value c.args.spec c.requires c.in_ok-insert.ensures.ok).parts_are
