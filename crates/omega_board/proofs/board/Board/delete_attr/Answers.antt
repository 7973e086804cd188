use Rattle.std.proofs.Common.{◌+◌, ◌-◌, ◌<◌, ◌^◌, IsTrue, refl, sym, ap, ◌∙◌, subst, ◌==◌, if◌then◌else◌}
use Rattle.std.proofs.lemmas.Bool.{eq-eqb}
use Rattle.omega_model.specs.Machines.{change, is_listed, attr_deleted}
use Rattle.omega_machines.specs.Table.{machines_of, seq_at}
use Rattle.omega_machines.proofs.Laws.{machines_ensured, ensured_listed, seq_ensured}
use Rattle.omega_board.specs.Board.{BoardState}
use Rattle.omega_board.proofs.Commits.{cell_is}
use Rattle.omega_board.proofs.board.Board.delete_attr.Goals as goal

pub unset_attr-requires-clause-listed : goal.unset_attr-requires-clause-listed
unset_attr-requires-clause-listed c =
    subst (λ (b : BoardState). IsTrue (is_listed c.args.machine (machines_of b.table))) (sym c.in_ok-list.ensures.ok)
    (ensured_listed c.args.machine c.args.self.now.table)

pub unset_attr-requires-clause-seq : goal.unset_attr-requires-clause-seq
unset_attr-requires-clause-seq c =
    let same = ap (λ (b : BoardState). seq_at b.table c.args.machine) c.in_ok-list.ensures.ok ∙ seq_ensured c.args.machine c.args.self.now.table c.args.machine in
    subst (λ n. n < 2 ^ 64 - 1) (sym same) (c.requires.numbers c.args.machine (eq-eqb c.args.machine c.args.machine refl))

pub returns-clause-cell : goal.returns-clause-cell
returns-clause-cell c =
    cell_is _ _
    (c.unset_attr.ensures.machines
    ∙ ap (λ (b : BoardState). change c.args.machine (attr_deleted c.args.name.now) (machines_of b.table)) c.in_ok-list.ensures.ok
    ∙ ap (change c.args.machine (attr_deleted c.args.name.now)) (machines_ensured c.args.machine c.args.self.now.table))
    (c.unset_attr.ensures.tasks ∙ ap (λ (b : BoardState). b.tasks) c.in_ok-list.ensures.ok)

pub returns-clause-seqs : goal.returns-clause-seqs
returns-clause-seqs c = λ id.
    c.unset_attr.ensures.seqs id
    ∙ ap (λ n. n + (if c.args.machine == id then 1 else 0)) (ap (λ (b : BoardState). seq_at b.table id) c.in_ok-list.ensures.ok ∙ seq_ensured c.args.machine c.args.self.now.table id)
