use Rattle.omega_machines.proofs.Naming.{index_none}
use Rattle.omega_machines.proofs.names.NameIndex.new.Goals as goal

pub returns : goal.returns
returns c = index_none _ c.new.ensures.items c.new-2.ensures.empty
