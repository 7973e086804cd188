use Rattle.std.proofs.Common.{◌≡◌, Some, slice_get, sym, ap, ◌∙◌, subst, if◌then◌else◌, ◌==◌}
use Rattle.std.specs.List.{filter}
use Rattle.omega_model.specs.Cell.{is_on, use_on}
use Rattle.omega_model.specs.Machines.{numbers_of, change}
use Rattle.omega_model.specs.Need.{Fits}
use Rattle.omega_machines.specs.Table.{machines_of, seq_at}
use Rattle.omega_board.specs.Board.{BoardState}
use Rattle.omega_board.proofs.Rows.{there_listed, machines_put, row_board, seqs_put}
use Rattle.omega_board.proofs.board.Board.put_row.Goals as goal

pub invariant_of-self : goal.invariant_of-self
invariant_of-self c =
    let machine = c.args.machine in
    let tasks = c.self.inside.running.tasks in
    row_board machine c.use_on-used.result c.args.seq c.self.inside.table c.put.new.self c.put.ensures.changed tasks c.self.invariant c.put.ensures.table
    (c.use_on-used.ensures ∙ ap (λ (b : BoardState). use_on b.tasks machine.id) (sym c.self.view_is))
    (subst (λ (b : BoardState). Fits (use_on b.tasks machine.id) machine.cap) (sym c.self.view_is) c.requires.in_use)
    (λ isnt. ap (λ (b : BoardState). filter (is_on machine.id) b.tasks) c.self.view_is ∙ c.requires.down isnt)

pub returns-clause-machines : goal.returns-clause-machines
returns-clause-machines c =
    machines_put c.args.machine c.use_on-used.result c.args.seq c.self.inside.table c.put.new.self c.put.ensures.changed
    ∙ ap (λ (b : BoardState). change c.args.machine.id (λ _. c.args.machine) (machines_of b.table)) c.self.view_is

pub returns-clause-seqs : goal.returns-clause-seqs
returns-clause-seqs c = λ id.
    let there = subst (λ (b : BoardState). slice_get (numbers_of (machines_of b.table)) c.args.position ≡ Some c.args.machine.id) (sym c.self.view_is) c.requires.there in
    seqs_put c.args.machine c.use_on-used.result c.args.seq c.self.inside.table c.put.new.self c.put.ensures.changed (there_listed (machines_of c.self.inside.table) c.args.position c.args.machine.id there) id
    ∙ ap (λ (b : BoardState). if c.args.machine.id == id then c.args.seq else seq_at b.table id) c.self.view_is
