use Rattle.omega_free_laws.specs.LivesLaws.{lives_left}
use Rattle.omega_free_laws.specs.Readings.{by_lives, by_rows}
use Rattle.omega_free_laws.specs.StepsLeft.{none_left}
use Rattle.omega_free_laws.proofs.DueEnds.{lives_bound, rows_bound}
use Rattle.omega_free_laws.proofs.StepsLeft.{run_ends, run_exists}
use Rattle.omega_free_laws.proofs.steps.free_runs_end.Goals as goal

pub returns-clause-by_rows : goal.returns-clause-by_rows
returns-clause-by_rows c settings trace tries = run_ends settings (by_rows trace) tries none_left (rows_bound trace)

pub returns-clause-by_lives : goal.returns-clause-by_lives
returns-clause-by_lives c settings trace tries = run_ends settings (by_lives trace) tries (lives_left trace) (lives_bound trace)

pub returns-clause-has_one : goal.returns-clause-has_one
returns-clause-has_one c settings trace tries = (
  run_exists settings (by_rows trace) tries none_left (rows_bound trace),
  run_exists settings (by_lives trace) tries (lives_left trace) (lives_bound trace),
)
