use Rattle.std.proofs.Common.{◌≡◌, ◌+◌, ◌∷◌, ◌++◌, [], is_some, get_or, take, refl, sym, ap, ◌∙◌, arith}
use Rattle.std.proofs.lemmas.List.{take_all, take_more, get_or_default}
use Rattle.omega_model.specs.Cell.{task_at, without}
use Rattle.omega_model.specs.declared.cells.TaskKey.{TaskKey}
use Rattle.omega_machines.specs.Table.{machines_of, seq_at}
use Rattle.omega_board.specs.Board.{cell_of}
use Rattle.omega_board.proofs.Tasks.{without_more}
use Rattle.omega_board.proofs.Claims.{without_none, absent_still, evicted_runs, claim_fits}
use Rattle.omega_board.proofs.Placed.{placed_so}
use Rattle.omega_board.proofs.Rewinds.{machines_with, seq_with}
use Rattle.omega_board.proofs.board.Board.apply_placed.Goals as goal

pub loop-key-init : goal.loop-key-init
loop-key-init c = (sym (without_none c.args.self.now.tasks), refl, (λ id. refl), refl, c.requires.undo, refl, omega arith)

pub stop_noted-requires-clause-runs : goal.stop_noted-requires-clause-runs
stop_noted-requires-clause-runs c =
    let i = c.loop-key.key-index in
    let evicted = c.args.evicted.now in
    let none : TaskKey = record { job = 0; index = 0 } in
    let known = placed_so (cell_of c.args.self.now) c.args.claim.now evicted c.requires.placed in
    ap (λ tasks. is_some (task_at tasks (get_or evicted i none))) c.loop-key.invariant.0
    ∙ evicted_runs (cell_of c.args.self.now) c.args.claim.now evicted known i (get_or evicted i none) c.loop-key-test.true
    (get_or_default evicted i (get_or evicted i none) none c.loop-key-test.true)

pub stop_noted-requires-clause-room : goal.stop_noted-requires-clause-room
stop_noted-requires-clause-room c =
    let known = placed_so (cell_of c.args.self.now) c.args.claim.now c.args.evicted.now c.requires.placed in
    omega (arith, known.few, c.requires.victims, c.loop-key.invariant.6, c.loop-key-test.true)

pub loop-key-preserved : goal.loop-key-preserved
loop-key-preserved c =
    let i = c.loop-key.key-index in
    let evicted = c.args.evicted.now in
    let none : TaskKey = record { job = 0; index = 0 } in
    let tasks = c.args.self.now.tasks in
    let front : take (i + 1) evicted ≡ take i evicted ++ get_or evicted i none ∷ [] = take_more evicted i none c.loop-key-test.true in (
      c.stop_noted.ensures.tasks ∙ ap (without (get_or evicted i none ∷ [])) c.loop-key.invariant.0
          ∙ sym (without_more (take i evicted) (get_or evicted i none) tasks) ∙ ap (λ keys. without keys tasks) (sym front),
      ap machines_of c.stop_noted.ensures.table ∙ machines_with c.stop_noted.new.self.tasks c.loop-key.self.table ∙ c.loop-key.invariant.1,
      (λ id. ap (λ table. seq_at table id) c.stop_noted.ensures.table ∙ seq_with c.stop_noted.new.self.tasks c.loop-key.self.table id ∙ c.loop-key.invariant.2 id),
      c.stop_noted.ensures.content ∙ c.loop-key.invariant.3,
      c.stop_noted.ensures.undo,
      c.stop_noted.ensures.claims ∙ c.loop-key.invariant.5,
      omega (arith, c.stop_noted.ensures.victims, c.loop-key.invariant.6),
    )

pub start_noted-requires-clause-absent : goal.start_noted-requires-clause-absent
start_noted-requires-clause-absent c =
    let known = placed_so (cell_of c.args.self.now) c.args.claim.now c.args.evicted.now c.requires.placed in
    ap (λ tasks. task_at tasks c.args.claim.now.key) c.loop-key.invariant.0
    ∙ absent_still (take c.loop-key.key-index c.args.evicted.now) c.args.self.now.tasks c.args.claim.now.key known.absent

pub start_noted-requires-clause-fits : goal.start_noted-requires-clause-fits
start_noted-requires-clause-fits c =
    let evicted = c.args.evicted.now in
    let known = placed_so (cell_of c.args.self.now) c.args.claim.now evicted c.requires.placed in
    claim_fits (cell_of c.args.self.now) c.args.claim.now evicted known (cell_of c.loop-key.self) c.loop-key.invariant.1
    (c.loop-key.invariant.0 ∙ ap (λ keys. without keys c.args.self.now.tasks) (take_all c.loop-key.key-index evicted c.loop-key-test.false))

pub returns-clause-machines : goal.returns-clause-machines
returns-clause-machines c =
    ap machines_of c.start_noted.ensures.table ∙ machines_with c.start_noted.new.self.tasks c.loop-key.self.table ∙ c.loop-key.invariant.1

pub returns-clause-seqs : goal.returns-clause-seqs
returns-clause-seqs c = λ id.
    ap (λ table. seq_at table id) c.start_noted.ensures.table ∙ seq_with c.start_noted.new.self.tasks c.loop-key.self.table id ∙ c.loop-key.invariant.2 id

pub overflow_sub-len : goal.overflow_sub-len
overflow_sub-len c =
    let known = placed_so (cell_of c.args.self.now) c.args.claim.now c.args.evicted.now c.requires.placed in
    omega (arith, known.few, c.len.ensures)

pub returns-clause-victims : goal.returns-clause-victims
returns-clause-victims c =
    let known = placed_so (cell_of c.args.self.now) c.args.claim.now c.args.evicted.now c.requires.placed in
    omega (arith, known.few, c.requires.victims, c.loop-key.invariant.6, c.loop-key-test.false, c.loop-key.auto.key-index-end, c.give_up.ensures.victims, c.start_noted.ensures.victims, c.len.ensures)
