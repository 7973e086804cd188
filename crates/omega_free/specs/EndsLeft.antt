-- How many tasks at most will still end of themselves, by how the tasks of a trace end.
use Rattle.std.proofs.Common.{◌≡◌, ◌<◌, ℕ, List, [], ◌∷◌, ◌+◌, ◌-◌, length, refl, sym, ap, ◌∙◌}
use Rattle.std.specs.List.{filter_map}
use Rattle.omega_feed.proofs.Cutting.{rounds_have}
use Rattle.omega_model.specs.Feed.{feed, rounds}
use Rattle.omega_model.specs.Keys.{first_mentions}
use Rattle.omega_model.specs.Lawful.{rows_of}
use Rattle.omega_model.specs.declared.cells.TaskKey.{TaskKey}
use Rattle.omega_model.specs.declared.entries.Entry.{Entry}
use Rattle.omega_model.specs.declared.rows.Round.{Round}
use Rattle.omega_model.specs.declared.rows.Row.{Row}
use Rattle.omega_model.specs.declared.rows.TraceTables.{TraceTables}
use Rattle.omega_model.specs.declared.settings.Ends.{Ends}
use Rattle.omega_model.specs.declared.settings.Ends.TheVariants.{Own, Trace}
use Rattle.omega_model.specs.declared.settings.Settings.{Settings}
use Rattle.omega_free_laws.specs.Lives.{ended, pieces_of}
use Rattle.omega_free_laws.specs.LivesLaws.{lives_left, lives_left_of, task_of_row, tasks_of}
use Rattle.omega_free_laws.specs.StepsLeft.{BoundsEnds, none_left}
use Rattle.omega_free_laws.proofs.DueEnds.{lives_bound, rows_bound}
use Rattle.omega_free.specs.FreeRuns.{reading_by, reading_of}

-- ---- by a trace

-- where the tasks of a trace end so
abbrev pub left_by : Ends → TraceTables → List Entry → ℕ
left_by Trace trace = none_left
left_by Own trace = lives_left trace

-- under these settings
abbrev pub left_of : Settings → TraceTables → List Entry → ℕ
left_of settings trace = left_by settings.ends trace

-- no more will
bounds_by : (ends : Ends) (trace : TraceTables) → BoundsEnds (reading_by ends trace) (left_by ends trace)
bounds_by Trace trace = rows_bound trace
bounds_by Own trace = lives_bound trace

pub bounds_of : (settings : Settings) (trace : TraceTables) → BoundsEnds (reading_of settings trace) (left_of settings trace)
bounds_of settings trace = bounds_by settings.ends trace

-- ---- by the rows of a trace

-- how many pieces with a life these tasks have in some rows beyond those that have ended
abbrev pub lives_left_over : List Row → List Entry → List TaskKey → ℕ
lives_left_over rows history [] = 0
lives_left_over rows history (key ∷ keys) = (length (pieces_of key rows).lives - ended history key) + lives_left_over rows history keys

-- how many the tasks of these rows have
abbrev pub lives_left_by : List Row → List Entry → ℕ
lives_left_by rows history = lives_left_over rows history (first_mentions (filter_map task_of_row rows))

-- where the tasks of these rows end so
abbrev pub left_by_rows : Ends → List Row → List Entry → ℕ
left_by_rows Trace rows history = 0
left_by_rows Own rows history = lives_left_by rows history

-- under these settings, where these are the rounds of a trace
abbrev pub left_at : Settings → List Round → List Entry → ℕ
left_at settings all history = left_by_rows settings.ends (rows_of all) history

-- ---- both are one number

lives_over : (trace : TraceTables) (history : List Entry) (keys : List TaskKey) → lives_left_of trace history keys ≡ lives_left_over (feed trace) history keys
lives_over trace history [] = refl
lives_over trace history (key ∷ keys) =
    ap (λ (n : ℕ). (length (pieces_of key (feed trace)).lives - ended history key) + n) (lives_over trace history keys)

left_by_feed : (ends : Ends) (trace : TraceTables) (history : List Entry) → left_by_rows ends (feed trace) history ≡ left_by ends trace history
left_by_feed Trace trace history = refl
left_by_feed Own trace history = sym (lives_over trace history (tasks_of trace))

pub left_is : (settings : Settings) (trace : TraceTables) (all : List Round) (history : List Entry) → 0 < settings.window
    → all ≡ rounds trace settings.window → left_at settings all history ≡ left_of settings trace history
left_is settings trace all history window are =
    ap (λ (rows : List Row). left_by_rows settings.ends rows history) (ap rows_of are ∙ rounds_have trace settings.window window)
    ∙ left_by_feed settings.ends trace history
