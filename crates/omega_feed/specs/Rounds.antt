-- Rounds as pieces of the three tables of events.
use Rattle.std.specs.Prelude.{ℕ, ◌≤◌, ◌-◌, ◌/◌, List, Option, Some, None, drop, length, map, min, option_map, slice_get, take}
use Rattle.std.specs.List.{fold}
use Rattle.omega_model.specs.Feed.{each_once, round_at, round_number}
use Rattle.omega_model.specs.Fields.{MachineFields, AttrFields, TaskFields}
use Rattle.omega_model.specs.declared.rows.Row.{Row}
use Rattle.omega_model.specs.declared.rows.Round.{Round}
use Rattle.omega_feed.specs.Events.{merged}
use Rattle.omega_feed.specs.declared.rounds.RoundPart.{RoundPart}

-- the rounds that these rows make: one for each number that a row has, with the rows of that number
abbrev pub gathered : ℕ → List Row → List Round
gathered window rows = map (round_at window rows) (each_once (map (round_number window) rows))

-- the items from one place up to another
abbrev pub piece : {X : Type 0} → List X → ℕ → ℕ → List X
piece items from to = take (to - from) (drop from items)

-- the round that a part of three tables is
abbrev pub part_round : List MachineFields → List AttrFields → List TaskFields → RoundPart → Round
part_round machines attrs tasks part = record {
  number = part.number;
  rows = merged
      (piece machines part.from.machines part.to.machines)
      (piece attrs part.from.attrs part.to.attrs)
      (piece tasks part.from.tasks part.to.tasks);
}

-- a list has these places, one not behind the other
abbrev pub HasPiece : {X : Type 0} → List X → ℕ → ℕ → Type 0
HasPiece items from to = (from ≤ to) × (to ≤ length items)

-- three tables have the places of a part
pub record HavePart (machines : List MachineFields) (attrs : List AttrFields) (tasks : List TaskFields) (part : RoundPart) : Type 0 where
  pub of_machines : HasPiece machines part.from.machines part.to.machines
  pub of_attrs : HasPiece attrs part.from.attrs part.to.attrs
  pub of_tasks : HasPiece tasks part.from.tasks part.to.tasks

-- the time of the first item, if there is one
abbrev pub first_time : {X : Type 0} → (X → ℕ) → List X → Option ℕ
first_time time items = option_map time (slice_get items 0)

-- the time of the last item, 0 if there is none
abbrev pub last_time : {X : Type 0} → (X → ℕ) → List X → ℕ
last_time time items = fold (λ last item. time item) 0 items

-- the lesser of two numbers, where both are there
abbrev pub least : Option ℕ → Option ℕ → Option ℕ
least None other = other
least (Some one) None = Some one
least (Some one) (Some other) = Some (min one other)

-- the number of the round of the first row of three tables that are in order of time, if there is a row
abbrev pub next_number : ℕ → List MachineFields → List AttrFields → List TaskFields → Option ℕ
next_number window machines attrs tasks =
    option_map (λ time. time / window)
    (least (least (first_time (λ row. row.time) machines) (first_time (λ row. row.time) attrs)) (first_time (λ row. row.time) tasks))
