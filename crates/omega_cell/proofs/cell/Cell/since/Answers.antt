use Rattle.std.proofs.Common.{◌≡◌, ◌-◌, ◌<◌, ◌≤◌, List, ℕ, length, drop, map, take, sym, ap, ◌∙◌, subst, rules}
use Rattle.std.specs.List.{All}
use Rattle.std.proofs.lemmas.List.{take_rest}
use Rattle.omega_machines.specs.declared.MachineState.{MachineState}
use Rattle.omega_machines.specs.Table.{machines_of}
use Rattle.omega_model.specs.Applying.{EachMayApply}
use Rattle.omega_model.specs.Copy.{Carries}
use Rattle.omega_model.specs.declared.entries.Entry.{Entry}
use Rattle.omega_board.specs.Parts.{part_at}
use Rattle.omega_cell.specs.Cells.{CellState}
use Rattle.omega_cell.specs.Touched.{touched_places}
use Rattle.omega_cell.proofs.Delivered.{places_in, positions_rise, delivered}
use Rattle.omega_cell.proofs.cell.Cell.since.Goals as goal

pub parts_at-requires : goal.parts_at-requires
parts_at-requires c =
    let entries : List Entry = c.as_slice.result.now in
    let later : List Entry = take (length entries - c.args.n) (drop c.args.n entries) in
    subst (All (λ place. place < length c.self.inside.board.table)) (sym c.deref.ensures.value)
    (places_in c.self.inside.board later c.in_ok-positions.positions.items
    (c.in_ok-positions.ensures.places ∙ ap (λ (table : List MachineState). touched_places (machines_of table) later) c.machines.ensures.table))

pub of-requires-clause-positions : goal.of-requires-clause-positions
of-requires-clause-positions c =
    positions_rise c.self.inside.board c.in_ok-positions.positions.items c.in_ok-parts.parts
    (c.in_ok-parts.ensures ∙ ap (map (part_at c.self.inside.board)) c.deref.ensures.value) c.in_ok-positions.ensures.rises

pub returns-clause-carries : goal.returns-clause-carries
returns-clause-carries c =
    let entries : List Entry = c.as_slice.result.now in
    let later : List Entry = take (length entries - c.args.n) (drop c.args.n entries) in
    let history = c.self.inside.entries.items in
    let now : history ≡ c.args.self.now.history = ap (λ (cell : CellState). cell.history) c.self.view_is in
    let rest : later ≡ drop c.args.n history = take_rest entries c.args.n ∙ ap (drop c.args.n) c.as_slice.ensures.value in
    let within : c.args.n ≤ length history = subst (λ (h : List Entry). c.args.n ≤ length h) (sym now) c.requires in
    subst (λ (h : List Entry). Carries c.of.result h c.args.n (length h)) now
    (delivered c.self.inside.board history c.args.n later c.in_ok-positions.positions.items c.in_ok-parts.parts c.of.result c.self.invariant.0.board_is within rest
    (c.in_ok-positions.ensures.places ∙ ap (λ (table : List MachineState). touched_places (machines_of table) later) c.machines.ensures.table)
    (c.in_ok-parts.ensures ∙ ap (map (part_at c.self.inside.board)) c.deref.ensures.value)
    (c.of.ensures ∙ (let until : c.len.result ≡ length history = search rules in ap (λ (n : ℕ). record { from = c.args.n; to = n; parts = c.in_ok-parts.parts }) until)))

pub returns-clause-applied : goal.returns-clause-applied
returns-clause-applied c = subst (λ (cell : CellState). EachMayApply cell.history) c.self.view_is c.self.invariant.0.applied

pub returns-in_err-positions-clause-applied : goal.returns-in_err-positions-clause-applied
returns-in_err-positions-clause-applied c = subst (λ (cell : CellState). EachMayApply cell.history) c.self.view_is c.self.invariant.0.applied

pub returns-in_err-parts-clause-applied : goal.returns-in_err-parts-clause-applied
returns-in_err-parts-clause-applied c = subst (λ (cell : CellState). EachMayApply cell.history) c.self.view_is c.self.invariant.0.applied
