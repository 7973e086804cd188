use Rattle.omega_free_laws.specs.Free.{after}
use Rattle.omega_free_laws.proofs.CrewLaws.{crew_in_order, due_routed}
use Rattle.omega_free_laws.proofs.DueCommits.{own_due_after}
use Rattle.omega_free_laws.proofs.steps.schedulers_of_free_runs.Goals as goal

pub returns-clause-order : goal.returns-clause-order
returns-clause-order c = crew_in_order

pub returns-clause-due : goal.returns-clause-due
returns-clause-due c = own_due_after

pub returns-clause-routed : goal.returns-clause-routed
returns-clause-routed c settings reading steps due is =
    due_routed settings reading (after settings reading steps).past.history (after settings reading steps).crew due
    (crew_in_order settings reading steps).each is
