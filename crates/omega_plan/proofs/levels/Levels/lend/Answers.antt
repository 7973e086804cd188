use Rattle.omega_plan.specs.Overlays.{cell_after}
use Rattle.omega_plan.proofs.levels.Levels.lend.Goals as goal

pub returns-in-Some-clause-kept : goal.returns-in-Some-clause-kept
returns-in-Some-clause-kept c = c.take_out.ensures.kept (cell_after c.args.overlay.now) c.requires

pub returns-in-None-clause-kept : goal.returns-in-None-clause-kept
returns-in-None-clause-kept c = c.take_out.ensures.kept (cell_after c.args.overlay.now) c.requires
