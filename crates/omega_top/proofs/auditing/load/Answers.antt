use Rattle.omega_model.specs.declared.results.Status.TheVariants.{KeepFault, NoMemory}
use Rattle.omega_top.proofs.AuditedLines.{stops_for_keeper}
use Rattle.omega_top.proofs.auditing.load.Goals as goal

pub returns-in-Err-Failed-clause-stops : goal.returns-in-Err-Failed-clause-stops
returns-in-Err-Failed-clause-stops g c = stops_for_keeper _ KeepFault tt

pub returns-in-Err-NoMemory-clause-stops : goal.returns-in-Err-NoMemory-clause-stops
returns-in-Err-NoMemory-clause-stops g c = stops_for_keeper _ NoMemory tt
