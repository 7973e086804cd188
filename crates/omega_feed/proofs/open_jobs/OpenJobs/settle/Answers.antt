use Rattle.std.proofs.Common.{◌≡◌, ◌<◌, Some, length, refl, arith, set, sym, subst}
use Rattle.std.specs.Prelude.{slice_get}
use Rattle.std.proofs.lemmas.Option.{slice_get_read}
use Rattle.omega_feed.specs.Open.{OpenPlaces, OthersAreQuiet, SameIsOpenForOthers, StayOpen}
use Rattle.omega_feed.proofs.Settling.{none_past, settled_closed, settled_fewer, settled_others, settled_quiet}
use Rattle.omega_feed.proofs.open_jobs.OpenJobs.settle.Goals as goal

pub returns-then-scheduler-len-clause-quiet : goal.returns-then-scheduler-len-clause-quiet
returns-then-scheduler-len-clause-quiet c =
    let asked = c.args.wanted.now in
    let tasks = c.args.board.now.tasks in
    let places : OpenPlaces = c.self.inside.places.items in
    let own = c.index_mut.result.now in
    let within : c.args.scheduler < length places = omega (arith, c.if-scheduler-len.true, c.len.ensures, c.self.inside.places.ok.0) in
    let here : slice_get places c.args.scheduler ≡ Some own = slice_get_read places (length places) c.args.scheduler own refl within c.index_mut.ensures.value in
    settled_quiet asked tasks places c.args.scheduler own c.close_quiet.new.places here within c.close_quiet.ensures
    (subst (λ (them : OpenPlaces). OthersAreQuiet them asked tasks) (sym c.self.view_is) c.requires)

pub returns-then-scheduler-len-clause-closed : goal.returns-then-scheduler-len-clause-closed
returns-then-scheduler-len-clause-closed c =
    let asked = c.args.wanted.now in
    let tasks = c.args.board.now.tasks in
    let places : OpenPlaces = c.self.inside.places.items in
    let own = c.index_mut.result.now in
    let within : c.args.scheduler < length places = omega (arith, c.if-scheduler-len.true, c.len.ensures, c.self.inside.places.ok.0) in
    let here : slice_get places c.args.scheduler ≡ Some own = slice_get_read places (length places) c.args.scheduler own refl within c.index_mut.ensures.value in
    settled_closed asked tasks places c.args.scheduler own c.close_quiet.new.places here within c.close_quiet.ensures

pub returns-then-scheduler-len-clause-fewer : goal.returns-then-scheduler-len-clause-fewer
returns-then-scheduler-len-clause-fewer c =
    let asked = c.args.wanted.now in
    let tasks = c.args.board.now.tasks in
    let places : OpenPlaces = c.self.inside.places.items in
    let own = c.index_mut.result.now in
    let within : c.args.scheduler < length places = omega (arith, c.if-scheduler-len.true, c.len.ensures, c.self.inside.places.ok.0) in
    let here : slice_get places c.args.scheduler ≡ Some own = slice_get_read places (length places) c.args.scheduler own refl within c.index_mut.ensures.value in
    subst (StayOpen (set places c.args.scheduler c.close_quiet.new.places)) c.self.view_is
    (settled_fewer asked tasks places c.args.scheduler own c.close_quiet.new.places here within c.close_quiet.ensures)

pub returns-then-scheduler-len-clause-others : goal.returns-then-scheduler-len-clause-others
returns-then-scheduler-len-clause-others c =
    let asked = c.args.wanted.now in
    let tasks = c.args.board.now.tasks in
    let places : OpenPlaces = c.self.inside.places.items in
    let own = c.index_mut.result.now in
    let within : c.args.scheduler < length places = omega (arith, c.if-scheduler-len.true, c.len.ensures, c.self.inside.places.ok.0) in
    let here : slice_get places c.args.scheduler ≡ Some own = slice_get_read places (length places) c.args.scheduler own refl within c.index_mut.ensures.value in
    subst (λ (them : OpenPlaces). SameIsOpenForOthers c.args.scheduler them (set places c.args.scheduler c.close_quiet.new.places)) c.self.view_is
    (settled_others asked tasks places c.args.scheduler own c.close_quiet.new.places here within c.close_quiet.ensures)

pub returns-else-scheduler-len-clause-quiet : goal.returns-else-scheduler-len-clause-quiet
returns-else-scheduler-len-clause-quiet c =
    subst (λ (them : OpenPlaces). OthersAreQuiet them c.args.wanted.now c.args.board.now.tasks) (sym c.self.view_is) c.requires

pub returns-else-scheduler-len-clause-closed : goal.returns-else-scheduler-len-clause-closed
returns-else-scheduler-len-clause-closed c =
    let past = c.if-scheduler-len.false in
    none_past c.args.wanted.now c.args.board.now.tasks c.self.inside.places.items c.args.scheduler (omega (arith, past, c.len.ensures, c.self.inside.places.ok.0))
