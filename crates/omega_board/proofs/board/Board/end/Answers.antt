use Rattle.std.proofs.Common.{◌+◌, IsTrue, refl, sym, ap, ◌∙◌, subst, arith, if◌then◌else◌, ◌==◌}
use Rattle.std.proofs.lemmas.Bool.{eq-eqb}
use Rattle.omega_model.specs.Machines.{is_listed}
use Rattle.omega_machines.specs.Table.{machines_of, seq_at, touched}
use Rattle.omega_machines.proofs.Laws.{machines_same}
use Rattle.omega_board.specs.Board.{BoardState}
use Rattle.omega_board.proofs.Boards.{on_listed}
use Rattle.omega_board.proofs.Commits.{cell_is}
use Rattle.omega_board.proofs.Counts.{seq_touched}
use Rattle.omega_board.proofs.Ranks.{ending, end_is}
use Rattle.omega_board.proofs.Rewinds.{machines_with, seq_with}
use Rattle.omega_board.proofs.board.Board.end.Goals as goal

pub touch-requires-clause-listed : goal.touch-requires-clause-listed
touch-requires-clause-listed c =
    let known = ending c.args.self.now.tasks c.args.key c.args.machine c.requires.ends in
    ap (λ table. is_listed c.args.machine (machines_of table)) c.stop.ensures.table
    ∙ ap (is_listed c.args.machine) (machines_with c.stop.new.self.tasks c.args.self.now.table)
    ∙ subst (λ n. IsTrue (is_listed n (machines_of c.args.self.now.table))) known.on (on_listed c.args.self.now.table c.args.self.now.tasks c.stop.ensures.board c.args.key known.task (sym known.found))

pub touch-requires-clause-seq : goal.touch-requires-clause-seq
touch-requires-clause-seq c =
    let few = c.requires.numbers c.args.machine (eq-eqb c.args.machine c.args.machine refl) in
    let same = ap (λ table. seq_at table c.args.machine) c.stop.ensures.table ∙ seq_with c.stop.new.self.tasks c.args.self.now.table c.args.machine in
    omega (arith, few, same)

pub returns-clause-cell : goal.returns-clause-cell
returns-clause-cell c =
    let known = ending c.args.self.now.tasks c.args.key c.args.machine c.requires.ends in
    cell_is _ _
    (ap (λ (b : BoardState). machines_of b.table) c.touch.ensures ∙ machines_same c.args.machine touched c.stop.new.self.table (λ s. refl)
    ∙ ap machines_of c.stop.ensures.table ∙ machines_with c.stop.new.self.tasks c.args.self.now.table)
    (ap (λ (b : BoardState). b.tasks) c.touch.ensures ∙ c.stop.ensures.tasks
    ∙ end_is c.args.self.now.tasks c.args.key c.args.machine known.task c.stop.ensures.board.ordered known.found known.on)

pub returns-clause-seqs : goal.returns-clause-seqs
returns-clause-seqs c = λ id.
    let known = ending c.args.self.now.tasks c.args.key c.args.machine c.requires.ends in
    let there : IsTrue (is_listed c.args.machine (machines_of c.stop.new.self.table)) =
    ap (λ table. is_listed c.args.machine (machines_of table)) c.stop.ensures.table
    ∙ ap (is_listed c.args.machine) (machines_with c.stop.new.self.tasks c.args.self.now.table)
    ∙ subst (λ n. IsTrue (is_listed n (machines_of c.args.self.now.table))) known.on (on_listed c.args.self.now.table c.args.self.now.tasks c.stop.ensures.board c.args.key known.task (sym known.found)) in
    ap (λ (b : BoardState). seq_at b.table id) c.touch.ensures ∙ seq_touched c.stop.new.self.table c.args.machine id there
    ∙ ap (λ n. n + (if c.args.machine == id then 1 else 0)) (ap (λ table. seq_at table id) c.stop.ensures.table ∙ seq_with c.stop.new.self.tasks c.args.self.now.table id)
