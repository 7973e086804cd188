-- What a world that runs by the free clock owes at each of its steps.
use Rattle.std.specs.Prelude.{◌≡◌, ℕ, suc, Bool, true, false, List, [], ◌∷◌, Option, Some, None}
use Rattle.omega_model.specs.declared.rows.Round.{Round}
use Rattle.omega_model.specs.declared.rows.TraceTables.{TraceTables}
use Rattle.omega_model.specs.declared.settings.Settings.{Settings}
use Rattle.omega_laws.specs.Simulated.{greatest_time}
use Rattle.omega_free_laws.specs.Free.{IsOver, after}
use Rattle.omega_free_laws.specs.FreeSteps.{DueCommit, Moment, committing, ending, first_due, opening}
use Rattle.omega_free_laws.specs.Lives.{DueEnd}
use Rattle.omega_free_laws.specs.Readings.{Reading}

-- when the first of these rounds opens, if there is one
abbrev pub first_time : List Round → Option ℕ
first_time [] = None
first_time (round ∷ rest) = Some (greatest_time round.rows)

-- when an end is due
abbrev pub end_time : Option DueEnd → Option ℕ
end_time None = None
end_time (Some end) = Some end.time

-- the scheduler of an attempt, and when it is due
abbrev pub due_time : Option DueCommit → Option (ℕ × ℕ)
due_time None = None
due_time (Some due) = Some (due.by, due.attempt.due)

-- the attempt of this scheduler is due first at a moment
abbrev pub IsDueFirst : ℕ → Moment → Type 0
IsDueFirst scheduler moment = (due : DueCommit) × ((first_due moment.crew ≡ Some due) × (due.by ≡ scheduler))

-- the end that is due first at a moment
abbrev pub end_at_moment : Reading → Moment → Option DueEnd
end_at_moment reading moment = reading.end_due moment.past.history moment.times

-- how a trace is read under some settings
abbrev pub Reads : Type 0
Reads = Settings → TraceTables → Reading

-- wherever the old world stands before a round, the new one stands after it has opened; `Stands` says of a
-- world that in the run of a trace this moment is its own
abbrev pub OpensRound : {W : Type 0} → (W → TraceTables → Moment → Type 0) → Reads → Settings → W → W → Type 0
OpensRound {W} Stands reads settings old new =
    (trace : TraceTables) (moment : Moment) → Stands old trace moment
    → (round : Round) (rest : List Round) → moment.coming ≡ round ∷ rest
    → Stands new trace (opening settings (reads settings trace) moment round rest)

-- wherever in the old world an end is due first, the new one stands after it
abbrev pub EndsDue : {W : Type 0} → (W → TraceTables → Moment → Type 0) → Reads → Settings → W → W → Type 0
EndsDue {W} Stands reads settings old new =
    (trace : TraceTables) (moment : Moment) → Stands old trace moment
    → (end : DueEnd) → end_at_moment (reads settings trace) moment ≡ Some end
    → Stands new trace (ending settings (reads settings trace) moment end)

-- wherever in the old world an attempt is due first, the new one stands after its commit
abbrev pub CommitsDue : {W : Type 0} → (W → TraceTables → Moment → Type 0) → Reads → Settings → ℕ → W → W → Type 0
CommitsDue {W} Stands reads settings scheduler old new =
    (trace : TraceTables) (moment : Moment) → Stands old trace moment
    → (due : DueCommit) → first_due moment.crew ≡ Some due → due.by ≡ scheduler
    → Stands new trace (committing settings (reads settings trace) moment due.by due.attempt)

-- a world stands at the moment after some steps of the run of some trace
abbrev pub IsInSomeRun : {W : Type 0} → (W → TraceTables → Moment → Type 0) → Reads → Settings → W → Type 0
IsInSomeRun {W} Stands reads settings world =
    (trace : TraceTables) × ((steps : ℕ) × Stands world trace (after settings (reads settings trace) steps))

-- where something has happened it wasn't over, and a world stands one step on; else it is over, and the world
-- stands there still
abbrev pub StandsOn : {W : Type 0} → (W → TraceTables → Moment → Type 0) → Reads → Settings → W → TraceTables → ℕ → Bool → Type 0
StandsOn Stands reads settings new trace steps true =
    (IsOver settings (reads settings trace) (after settings (reads settings trace) steps) → ⊥)
    × Stands new trace (after settings (reads settings trace) (suc steps))
StandsOn Stands reads settings new trace steps false =
    IsOver settings (reads settings trace) (after settings (reads settings trace) steps)
    × Stands new trace (after settings (reads settings trace) steps)

-- so it is wherever the old world stands after some steps
abbrev pub StepsOn : {W : Type 0} → (W → TraceTables → Moment → Type 0) → Reads → Settings → W → W → Bool → Type 0
StepsOn {W} Stands reads settings old new happened =
    (trace : TraceTables) (steps : ℕ) → Stands old trace (after settings (reads settings trace) steps)
    → StandsOn Stands reads settings new trace steps happened

-- a world stands at a moment of the run of a trace at which it is over
abbrev pub StandsOver : {W : Type 0} → (W → TraceTables → Moment → Type 0) → Reads → Settings → TraceTables → W → Type 0
StandsOver Stands reads settings trace world =
    (steps : ℕ) × (IsOver settings (reads settings trace) (after settings (reads settings trace) steps)
    × Stands world trace (after settings (reads settings trace) steps))
