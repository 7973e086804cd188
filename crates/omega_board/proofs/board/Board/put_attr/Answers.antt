use Rattle.std.proofs.Common.{◌-◌, ◌<◌, ◌^◌, refl, sym, ap, ◌∙◌, subst, arith}
use Rattle.omega_model.specs.Applying.{ListsOrHasRoom}
use Rattle.omega_model.specs.Machines.{change, ensured, attr_set}
use Rattle.omega_machines.specs.Table.{machines_of, ensured_states, seq_at, change_state, touched, with_machine}
use Rattle.omega_machines.proofs.Laws.{machines_ensured, ensured_listed}
use Rattle.omega_board.specs.Board.{BoardState, CountsOn}
use Rattle.omega_board.proofs.Entering.{is_change, attr_board, seq_changed, counts_from}
use Rattle.omega_machines.proofs.Laws.{seq_ensured}
use Rattle.omega_board.proofs.board.Board.put_attr.Goals as goal

pub touch-requires-clause-listed : goal.touch-requires-clause-listed
touch-requires-clause-listed c =
    (is_change c.args.id (with_machine (attr_set c.args.name.now c.args.value.now)) (attr_set c.args.name.now c.args.value.now) (ensured_states c.args.id c.self.inside.table) c.ensure_attr.new.self (change_state c.args.id touched c.ensure_attr.new.self)
    (λ s. refl) (λ s. refl) (λ s. refl) (ensured_listed c.args.id c.self.inside.table) c.in_ok-ensure_attr.ensures.ok refl).listed

pub touch-requires-clause-seq : goal.touch-requires-clause-seq
touch-requires-clause-seq c =
    let few = subst (λ (b : BoardState). seq_at b.table c.args.id < 2 ^ 64 - 1) (sym c.self.view_is) c.requires.seq in
    let same = ap (λ table. seq_at table c.args.id) c.in_ok-ensure_attr.ensures.ok
    ∙ seq_changed c.args.id (with_machine (attr_set c.args.name.now c.args.value.now)) (λ s. refl) (λ s. refl) (ensured_states c.args.id c.self.inside.table) c.args.id
    ∙ seq_ensured c.args.id c.self.inside.table c.args.id in
    omega (arith, few, same)

pub invariant_of-self-2 : goal.invariant_of-self-2
invariant_of-self-2 c =
    let room = subst (λ (b : BoardState). ListsOrHasRoom (machines_of b.table) c.args.id) (sym c.self.view_is) c.requires.room in
    attr_board _ _ c.self.invariant c.args.id c.args.name.now c.args.value.now _ _ room c.in_ok-ensure_attr.ensures.ok c.touch.ensures.changed c.ensure_attr.ensures.table c.touch.ensures.table

pub returns-clause-machines : goal.returns-clause-machines
returns-clause-machines c =
    (is_change c.args.id (with_machine (attr_set c.args.name.now c.args.value.now)) (attr_set c.args.name.now c.args.value.now) (ensured_states c.args.id c.self.inside.table) _ _
    (λ s. refl) (λ s. refl) (λ s. refl) (ensured_listed c.args.id c.self.inside.table) c.in_ok-ensure_attr.ensures.ok c.touch.ensures.changed).machines
    ∙ ap (change c.args.id (attr_set c.args.name.now c.args.value.now)) (machines_ensured c.args.id c.self.inside.table)
    ∙ ap (λ (b : BoardState). change c.args.id (attr_set c.args.name.now c.args.value.now) (ensured c.args.id (machines_of b.table))) c.self.view_is

pub returns-clause-seqs : goal.returns-clause-seqs
returns-clause-seqs c =
    subst (λ (b : BoardState). CountsOn c.args.id b.table c.touch.new.self) c.self.view_is
    (counts_from c.args.id (ensured_states c.args.id c.self.inside.table) c.self.inside.table c.touch.new.self (seq_ensured c.args.id c.self.inside.table)
    (is_change c.args.id (with_machine (attr_set c.args.name.now c.args.value.now)) (attr_set c.args.name.now c.args.value.now) (ensured_states c.args.id c.self.inside.table) _ _
    (λ s. refl) (λ s. refl) (λ s. refl) (ensured_listed c.args.id c.self.inside.table) c.in_ok-ensure_attr.ensures.ok c.touch.ensures.changed).counts)
