use Rattle.std.proofs.Common.{◌-◌, ◌<◌, ◌^◌, IsTrue, refl, sym, ap, ◌∙◌, subst, arith}
use Rattle.omega_model.specs.Machines.{is_listed, change, attr_deleted}
use Rattle.omega_machines.specs.Table.{machines_of, seq_at, change_state, touched, with_machine}
use Rattle.omega_board.specs.Board.{BoardState, CountsOn}
use Rattle.omega_board.proofs.Entering.{is_change, unset_board, seq_changed}
use Rattle.omega_board.proofs.board.Board.unset_attr.Goals as goal

pub touch-requires-clause-listed : goal.touch-requires-clause-listed
touch-requires-clause-listed c =
    let listed = subst (λ (b : BoardState). IsTrue (is_listed c.args.id (machines_of b.table))) (sym c.self.view_is) c.requires.listed in
    (is_change c.args.id (with_machine (attr_deleted c.args.name.now)) (attr_deleted c.args.name.now) c.self.inside.table c.delete_attr.new.self (change_state c.args.id touched c.delete_attr.new.self) (λ s. refl) (λ s. refl) (λ s. refl) listed c.delete_attr.ensures.changed refl).listed

pub touch-requires-clause-seq : goal.touch-requires-clause-seq
touch-requires-clause-seq c =
    let few = subst (λ (b : BoardState). seq_at b.table c.args.id < 2 ^ 64 - 1) (sym c.self.view_is) c.requires.seq in
    let same = ap (λ table. seq_at table c.args.id) c.delete_attr.ensures.changed ∙ seq_changed c.args.id (with_machine (attr_deleted c.args.name.now)) (λ s. refl) (λ s. refl) c.self.inside.table c.args.id in
    omega (arith, few, same)

pub invariant_of-self : goal.invariant_of-self
invariant_of-self c =
    unset_board _ _ c.self.invariant c.args.id c.args.name.now _ _ c.delete_attr.ensures.changed c.touch.ensures.changed c.delete_attr.ensures.table c.touch.ensures.table

pub returns-clause-machines : goal.returns-clause-machines
returns-clause-machines c =
    let listed = subst (λ (b : BoardState). IsTrue (is_listed c.args.id (machines_of b.table))) (sym c.self.view_is) c.requires.listed in
    (is_change c.args.id (with_machine (attr_deleted c.args.name.now)) (attr_deleted c.args.name.now) c.self.inside.table _ _ (λ s. refl) (λ s. refl) (λ s. refl) listed c.delete_attr.ensures.changed c.touch.ensures.changed).machines
    ∙ ap (λ (b : BoardState). change c.args.id (attr_deleted c.args.name.now) (machines_of b.table)) c.self.view_is

pub returns-clause-seqs : goal.returns-clause-seqs
returns-clause-seqs c =
    let listed = subst (λ (b : BoardState). IsTrue (is_listed c.args.id (machines_of b.table))) (sym c.self.view_is) c.requires.listed in
    subst (λ (b : BoardState). CountsOn c.args.id b.table c.touch.new.self) c.self.view_is
    (is_change c.args.id (with_machine (attr_deleted c.args.name.now)) (attr_deleted c.args.name.now) c.self.inside.table _ _ (λ s. refl) (λ s. refl) (λ s. refl) listed c.delete_attr.ensures.changed c.touch.ensures.changed).counts
