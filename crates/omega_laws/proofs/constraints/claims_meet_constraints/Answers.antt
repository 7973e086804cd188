use Rattle.omega_laws.proofs.MachinesStay.{commit_suited}
use Rattle.omega_laws.proofs.constraints.claims_meet_constraints.Goals as goal

pub returns : goal.returns
returns c = commit_suited
