use Rattle.std.proofs.Common.{◌≡◌, ◌-◌, ◌<◌, ◌^◌, [], IsTrue, refl, sym, ap, ◌∙◌, subst, arith}
use Rattle.std.specs.List.{filter}
use Rattle.omega_model.specs.Cell.{is_on}
use Rattle.omega_model.specs.Machines.{is_listed, change, removed}
use Rattle.omega_machines.specs.Table.{machines_of, seq_at, change_state, touched, with_machine}
use Rattle.omega_board.specs.Board.{BoardState, CountsOn}
use Rattle.omega_board.proofs.Entering.{is_change, use_none, down_board, seq_changed}
use Rattle.omega_board.proofs.board.Board.take_down.Goals as goal

pub remove-requires-clause-in_use : goal.remove-requires-clause-in_use
remove-requires-clause-in_use c =
    use_none _ _ c.self.invariant c.args.id (subst (λ (b : BoardState). IsTrue (is_listed c.args.id (machines_of b.table))) (sym c.self.view_is) c.requires.listed) (subst (λ (b : BoardState). filter (is_on c.args.id) b.tasks ≡ []) (sym c.self.view_is) c.requires.empty)

pub touch-requires-clause-listed : goal.touch-requires-clause-listed
touch-requires-clause-listed c =
    let listed = subst (λ (b : BoardState). IsTrue (is_listed c.args.id (machines_of b.table))) (sym c.self.view_is) c.requires.listed in
    (is_change c.args.id (with_machine removed) removed c.self.inside.table c.remove.new.self (change_state c.args.id touched c.remove.new.self) (λ s. refl) (λ s. refl) (λ s. refl) listed c.remove.ensures.changed refl).listed

pub touch-requires-clause-seq : goal.touch-requires-clause-seq
touch-requires-clause-seq c =
    let few = subst (λ (b : BoardState). seq_at b.table c.args.id < 2 ^ 64 - 1) (sym c.self.view_is) c.requires.seq in
    let same = ap (λ table. seq_at table c.args.id) c.remove.ensures.changed ∙ seq_changed c.args.id (with_machine removed) (λ s. refl) (λ s. refl) c.self.inside.table c.args.id in
    omega (arith, few, same)

pub invariant_of-self : goal.invariant_of-self
invariant_of-self c =
    down_board _ _ c.self.invariant c.args.id _ _ (subst (λ (b : BoardState). filter (is_on c.args.id) b.tasks ≡ []) (sym c.self.view_is) c.requires.empty) c.remove.ensures.changed c.touch.ensures.changed c.remove.ensures.table c.touch.ensures.table

pub returns-clause-machines : goal.returns-clause-machines
returns-clause-machines c =
    let listed = subst (λ (b : BoardState). IsTrue (is_listed c.args.id (machines_of b.table))) (sym c.self.view_is) c.requires.listed in
    (is_change c.args.id (with_machine removed) removed c.self.inside.table _ _ (λ s. refl) (λ s. refl) (λ s. refl) listed c.remove.ensures.changed c.touch.ensures.changed).machines
    ∙ ap (λ (b : BoardState). change c.args.id removed (machines_of b.table)) c.self.view_is

pub returns-clause-seqs : goal.returns-clause-seqs
returns-clause-seqs c =
    let listed = subst (λ (b : BoardState). IsTrue (is_listed c.args.id (machines_of b.table))) (sym c.self.view_is) c.requires.listed in
    subst (λ (b : BoardState). CountsOn c.args.id b.table c.touch.new.self) c.self.view_is
    (is_change c.args.id (with_machine removed) removed c.self.inside.table _ _ (λ s. refl) (λ s. refl) (λ s. refl) listed c.remove.ensures.changed c.touch.ensures.changed).counts
