use Rattle.omega_plan.proofs.GoingOn.{may_tell_rest}
use Rattle.omega_plan.proofs.indexes.Indexes.go_on.Goals as goal

pub tell_machines-requires : goal.tell_machines-requires
tell_machines-requires c = record { may = may_tell_rest c.args.board.now c.args.self.now c.args.machines.now c.requires.history c.requires.places }
