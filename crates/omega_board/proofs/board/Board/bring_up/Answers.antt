use Rattle.std.proofs.Common.{◌-◌, ◌<◌, ◌^◌, IsTrue, refl, sym, ap, ◌∙◌, subst, arith}
use Rattle.omega_model.specs.Need.{Fits}
use Rattle.omega_model.specs.Cell.{use_on}
use Rattle.omega_model.specs.Machines.{is_listed, change, added}
use Rattle.omega_machines.specs.Table.{machines_of, seq_at, change_state, touched, state_added}
use Rattle.omega_board.specs.Board.{BoardState, CountsOn}
use Rattle.omega_board.proofs.Entering.{is_change, use_fits, up_board, seq_changed}
use Rattle.omega_board.proofs.board.Board.bring_up.Goals as goal

pub add-requires-clause-in_use : goal.add-requires-clause-in_use
add-requires-clause-in_use c =
    use_fits _ _ c.self.invariant c.args.id c.args.cap (subst (λ (b : BoardState). IsTrue (is_listed c.args.id (machines_of b.table))) (sym c.self.view_is) c.requires.listed) (subst (λ (b : BoardState). Fits (use_on b.tasks c.args.id) c.args.cap) (sym c.self.view_is) c.requires.in_use)

pub touch-requires-clause-listed : goal.touch-requires-clause-listed
touch-requires-clause-listed c =
    let listed = subst (λ (b : BoardState). IsTrue (is_listed c.args.id (machines_of b.table))) (sym c.self.view_is) c.requires.listed in
    (is_change c.args.id (state_added c.args.cap) (added c.args.cap) c.self.inside.table c.add.new.self (change_state c.args.id touched c.add.new.self) (λ s. refl) (λ s. refl) (λ s. refl) listed c.add.ensures.changed refl).listed

pub touch-requires-clause-seq : goal.touch-requires-clause-seq
touch-requires-clause-seq c =
    let few = subst (λ (b : BoardState). seq_at b.table c.args.id < 2 ^ 64 - 1) (sym c.self.view_is) c.requires.seq in
    let same = ap (λ table. seq_at table c.args.id) c.add.ensures.changed ∙ seq_changed c.args.id (state_added c.args.cap) (λ s. refl) (λ s. refl) c.self.inside.table c.args.id in
    omega (arith, few, same)

pub invariant_of-self : goal.invariant_of-self
invariant_of-self c =
    up_board _ _ c.self.invariant c.args.id c.args.cap _ _ (subst (λ (b : BoardState). Fits (use_on b.tasks c.args.id) c.args.cap) (sym c.self.view_is) c.requires.in_use) c.add.ensures.changed c.touch.ensures.changed c.add.ensures.table c.touch.ensures.table

pub returns-clause-machines : goal.returns-clause-machines
returns-clause-machines c =
    let listed = subst (λ (b : BoardState). IsTrue (is_listed c.args.id (machines_of b.table))) (sym c.self.view_is) c.requires.listed in
    (is_change c.args.id (state_added c.args.cap) (added c.args.cap) c.self.inside.table _ _ (λ s. refl) (λ s. refl) (λ s. refl) listed c.add.ensures.changed c.touch.ensures.changed).machines
    ∙ ap (λ (b : BoardState). change c.args.id (added c.args.cap) (machines_of b.table)) c.self.view_is

pub returns-clause-seqs : goal.returns-clause-seqs
returns-clause-seqs c =
    let listed = subst (λ (b : BoardState). IsTrue (is_listed c.args.id (machines_of b.table))) (sym c.self.view_is) c.requires.listed in
    subst (λ (b : BoardState). CountsOn c.args.id b.table c.touch.new.self) c.self.view_is
    (is_change c.args.id (state_added c.args.cap) (added c.args.cap) c.self.inside.table _ _ (λ s. refl) (λ s. refl) (λ s. refl) listed c.add.ensures.changed c.touch.ensures.changed).counts
