use Rattle.omega_top.proofs.NewWorlds.{in_run}
use Rattle.omega_top.proofs.Timing.{rounds_of_trace}
use Rattle.omega_top.proofs.TellingTimes.{of_some_trace}
use Rattle.omega_top.proofs.replay.ran_in_rounds.Goals as goal

pub told_by-requires-clause-run : goal.told_by-requires-clause-run
told_by-requires-clause-run g c =
    let settings = c.args.settings.now in
    let trace = c.args.trace in
    let made = in_run settings trace c.in_ok-world.world.stage c.in_ok-world.ensures.stage in
    let run = c.in_ok-world-2 in
    of_some_trace settings trace run.world.history run.world.stage.source.rounds _
    (rounds_of_trace settings trace run.world c.requires.within c.requires.few (run.ensures.over trace made))
    (run.ensures.timed trace made)

pub returns : goal.returns
returns g c =
    let settings = c.args.settings.now in
    let trace = c.args.trace in
    let made = in_run settings trace c.in_ok-world.world.stage c.in_ok-world.ensures.stage in
    let run = c.in_ok-world-2 in
    let over = run.ensures.over trace made in
    c.whole_run.ensures.run settings trace c.requires.rounds over
    (c.in_ok-told.ensures trace (rounds_of_trace settings trace run.world c.requires.within c.requires.few over) (run.ensures.timed trace made))
