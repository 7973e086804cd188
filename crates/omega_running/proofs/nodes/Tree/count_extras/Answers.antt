use Rattle.omega_running.specs.Tree.{tasks_of}
use Rattle.omega_running.proofs.Tally.{told}
use Rattle.omega_running.proofs.nodes.Tree.count_extras.Goals as goal

pub returns : goal.returns
returns c = rw (c.extras_until-before.ensures, c.extras_until-with_own.ensures) (told c.args.job (tasks_of c.args.self.now) c.requires.few)
