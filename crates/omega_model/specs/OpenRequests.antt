-- What a scheduler is asked to place in a round before the jobs that are given up are left out.
use Rattle.std.specs.Prelude.{ℕ, Bool, List, ◌==◌, not}
use Rattle.std.specs.List.{filter, filter_map}
use Rattle.omega_model.specs.Cell.{Cell}
use Rattle.omega_model.specs.Feed.{feed}
use Rattle.omega_model.specs.Requests.{jobs_in_order, request_of, wishes_of, given_up}
use Rattle.omega_model.specs.Routing.{scheduler_of}
use Rattle.omega_model.specs.Wanted.{wanted}
use Rattle.omega_model.specs.declared.entries.Entry.{Entry}
use Rattle.omega_model.specs.declared.rows.Row.{Row}
use Rattle.omega_model.specs.declared.rows.TraceTables.{TraceTables}
use Rattle.omega_model.specs.declared.settings.Settings.{Settings}
use Rattle.omega_model.specs.declared.wishes.Request.{Request}

-- the requests of a scheduler after these rows on a cell, also those of jobs that are given up
abbrev pub open_requests : Settings → TraceTables → List Row → Cell → ℕ → List Request
open_requests settings trace rows cell scheduler =
    filter_map (λ job. request_of job (wishes_of settings trace cell (wanted rows) job))
    (filter (λ job. scheduler_of settings trace job == scheduler) (jobs_in_order (feed trace)))

-- whether a request's job isn't given up
abbrev pub is_worked_on : Settings → List Entry → Request → Bool
is_worked_on settings history request = not (given_up settings history request.job)
