use Rattle.std.proofs.Common.{◌≡◌, Some, length, refl}
use Rattle.std.specs.Prelude.{slice_get}
use Rattle.std.proofs.lemmas.Option.{slice_get_read}
use Rattle.omega_feed.specs.Open.{OpenPlaces}
use Rattle.omega_feed.proofs.OpenSets.{put_alone, put_opens, put_stays}
use Rattle.omega_feed.proofs.open_jobs.open_at.Goals as goal

pub returns-clause-stay : goal.returns-clause-stay
returns-clause-stay c =
    let mid : OpenPlaces = c.make_sets.new.places.items in
    let here : slice_get mid c.args.new.scheduler ≡ Some c.index_mut.result.now =
    slice_get_read mid (length mid) c.args.new.scheduler c.index_mut.result.now refl c.in_ok-make_sets.ensures.there c.index_mut.ensures.value in
    put_stays c.args.places.now.items mid c.args.new.scheduler c.index_mut.result.now c.insert.new.self c.make_sets.ensures.same here c.in_ok-make_sets.ensures.there
    c.args.new.place c.in_ok-insert.ensures.updates

pub returns-clause-ok : goal.returns-clause-ok
returns-clause-ok c =
    let mid : OpenPlaces = c.make_sets.new.places.items in
    let here : slice_get mid c.args.new.scheduler ≡ Some c.index_mut.result.now =
    slice_get_read mid (length mid) c.args.new.scheduler c.index_mut.result.now refl c.in_ok-make_sets.ensures.there c.index_mut.ensures.value in
    put_opens c.args.places.now.items mid c.args.new.scheduler c.index_mut.result.now c.insert.new.self c.make_sets.ensures.same here c.in_ok-make_sets.ensures.there
    c.args.new.place c.in_ok-insert.ensures.updates

pub returns-clause-alone : goal.returns-clause-alone
returns-clause-alone c =
    let mid : OpenPlaces = c.make_sets.new.places.items in
    let here : slice_get mid c.args.new.scheduler ≡ Some c.index_mut.result.now =
    slice_get_read mid (length mid) c.args.new.scheduler c.index_mut.result.now refl c.in_ok-make_sets.ensures.there c.index_mut.ensures.value in
    put_alone c.args.places.now.items mid c.args.new.scheduler c.index_mut.result.now c.insert.new.self c.make_sets.ensures.same here c.in_ok-make_sets.ensures.there
    c.args.new.place c.in_ok-insert.ensures.updates
