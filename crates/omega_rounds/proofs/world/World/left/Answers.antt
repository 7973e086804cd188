use Rattle.std.proofs.Common.{◌<◌, sym, subst}
use Rattle.std.proofs.lemmas.Option.{slice_get_read}
use Rattle.omega_model.specs.Policy.{schedulers}
use Rattle.omega_rounds.specs.InTime.{HasWishesLeft, IsNoneWithoutWork}
use Rattle.omega_rounds.specs.Stages.{WorldState, rows_begun, stage_of}
use Rattle.omega_rounds.proofs.ClockSteps.{none_without_work, wishes_of_left}
use Rattle.omega_rounds.proofs.world.World.left.Goals as goal

pub returns-clause-wishes : goal.returns-clause-wishes
returns-clause-wishes c =
    let inside = c.self.inside in
    let stage = stage_of inside.course.settings inside.course.rounds inside.course.demand.wanted inside.course.begun inside.course.opened_at in
    let known = subst (λ (w : WorldState). c.args.scheduler < schedulers w.stage.settings) (sym c.self.view_is) c.requires in
    let here = slice_get_read inside.crew.workers.items (schedulers inside.course.settings) c.args.scheduler c.index.result.now (sym c.self.invariant.0.count) known c.index.ensures in
    subst (λ (w : WorldState). HasWishesLeft w c.args.scheduler c.left.result) c.self.view_is
    (λ trace made. wishes_of_left inside.course.settings trace (rows_begun stage) inside.course.opened_at c.args.scheduler c.left.result inside.crew.cell.history c.index.result.now.desk.requests
    ((c.self.invariant.0.lawful trace made).desks c.args.scheduler c.index.result.now here).left c.left.ensures)

pub returns-clause-idle : goal.returns-clause-idle
returns-clause-idle c =
    let inside = c.self.inside in
    let stage = stage_of inside.course.settings inside.course.rounds inside.course.demand.wanted inside.course.begun inside.course.opened_at in
    let known = subst (λ (w : WorldState). c.args.scheduler < schedulers w.stage.settings) (sym c.self.view_is) c.requires in
    let here = slice_get_read inside.crew.workers.items (schedulers inside.course.settings) c.args.scheduler c.index.result.now (sym c.self.invariant.0.count) known c.index.ensures in
    subst (λ (w : WorldState). IsNoneWithoutWork w c.args.scheduler c.left.result) c.self.view_is
    (λ trace made. none_without_work inside.course.settings trace (rows_begun stage) inside.course.opened_at c.args.scheduler c.left.result inside.crew.cell.history c.index.result.now.desk.requests
    ((c.self.invariant.0.lawful trace made).desks c.args.scheduler c.index.result.now here).left c.left.ensures)
