-- What happens next, by the times at which things are due.
use Rattle.std.specs.Prelude.{ℕ, Option, Some, None, nat_lt, if◌then◌else◌}
use Rattle.omega_free.specs.declared.clock.NextEvent.{NextEvent}
use Rattle.omega_free.specs.declared.clock.NextEvent.TheVariants.{Opening, Ending, Commit, Nothing}

-- something that is due, and when, if it is
abbrev pub due_event : NextEvent → Option ℕ → Option (ℕ × NextEvent)
due_event event None = None
due_event event (Some time) = Some (time, event)

-- a commit that is due, and when, if one is
abbrev pub due_commit : Option (ℕ × ℕ) → Option (ℕ × NextEvent)
due_commit None = None
due_commit (Some (scheduler, time)) = Some (time, Commit scheduler)

-- which of two is due first; at one time it is the former
abbrev pub sooner_event : Option (ℕ × NextEvent) → Option (ℕ × NextEvent) → Option (ℕ × NextEvent)
sooner_event None other = other
sooner_event (Some one) None = Some one
sooner_event (Some one) (Some other) = if nat_lt other.0 one.0 then Some other else Some one

-- what is due
abbrev pub event_of : Option (ℕ × NextEvent) → NextEvent
event_of None = Nothing
event_of (Some it) = it.1

-- the next round opens, a task ends or a scheduler commits: whichever is due first, and at one time the former; nothing
-- where no round is to come and nobody is deciding
abbrev pub next_event : Option ℕ → Option ℕ → Option (ℕ × ℕ) → NextEvent
next_event None end None = Nothing
next_event round end commit = event_of (sooner_event (due_event Opening round) (sooner_event (due_event Ending end) (due_commit commit)))
