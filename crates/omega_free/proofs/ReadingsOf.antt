-- How a trace is read, by how its tasks end.
use Rattle.std.proofs.Common.{◌≡◌, refl}
use Rattle.omega_model.specs.declared.rows.TraceTables.{TraceTables}
use Rattle.omega_model.specs.declared.settings.Ends.{Ends}
use Rattle.omega_model.specs.declared.settings.Ends.TheVariants.{Own, Trace}
use Rattle.omega_free.specs.FreeRuns.{reading_by}

-- the trace that is read is that trace
pub trace_by : (ends : Ends) (trace : TraceTables) → (reading_by ends trace).trace ≡ trace
trace_by Trace trace = refl
trace_by Own trace = refl
