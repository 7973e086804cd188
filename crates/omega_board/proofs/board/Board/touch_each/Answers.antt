use Rattle.std.proofs.Common.{◌≡◌, ◌+◌, get_or, refl, ap, ◌∙◌, arith, ◌==◌}
use Rattle.std.proofs.lemmas.Bool.{eq-eqb}
use Rattle.std.proofs.lemmas.List.Folds.{list_any_at}
use Rattle.omega_model.specs.Machines.{is_listed}
use Rattle.omega_machines.specs.Table.{machines_of, seq_at, touched}
use Rattle.omega_machines.proofs.Laws.{machines_same}
use Rattle.omega_board.specs.Board.{BoardState}
use Rattle.omega_board.proofs.Counts.{seq_touched, counted_more}
use Rattle.omega_board.proofs.Numbers.{not_before}
use Rattle.omega_board.proofs.board.Board.touch_each.Goals as goal

pub touch-requires-clause-seq : goal.touch-requires-clause-seq
touch-requires-clause-seq c =
    let ids = c.args.machines.now in
    let i = c.loop-id.id-index in
    let id = get_or ids i 0 in
    let few = c.requires.seqs id (list_any_at (λ other. other == get_or ids i 0) ids i 0 c.loop-id-test.true (eq-eqb _ _ refl)) in
    let was : seq_at c.loop-id.self.table id ≡ seq_at c.args.self.now.table id + 0 = rw (not_before ids i 0 c.requires.rises c.loop-id-test.true) at (c.loop-id.invariant.3 id) in
    omega (arith, few, was)

pub loop-id-preserved : goal.loop-id-preserved
loop-id-preserved c =
    let ids = c.args.machines.now in
    let i = c.loop-id.id-index in
    let table = c.loop-id.self.table in
    let there = ap (is_listed (get_or ids i 0)) c.loop-id.invariant.2 ∙ c.requires.listed _ (list_any_at (λ other. other == get_or ids i 0) ids i 0 c.loop-id-test.true (eq-eqb _ _ refl)) in (
      ap (λ (b : BoardState). b.tasks) c.touch.ensures ∙ c.loop-id.invariant.0,
      ap (λ (b : BoardState). b.spare) c.touch.ensures ∙ c.loop-id.invariant.1,
      ap (λ (b : BoardState). machines_of b.table) c.touch.ensures ∙ machines_same (get_or ids i 0) touched table (λ s. refl) ∙ c.loop-id.invariant.2,
      (λ id.
          ap (λ (b : BoardState). seq_at b.table id) c.touch.ensures ∙ seq_touched table (get_or ids i 0) id there
          ∙ counted_more (seq_at c.args.self.now.table) (seq_at table) ids i 0 c.requires.rises c.loop-id-test.true c.loop-id.invariant.3 id),
    )
