use Rattle.std.proofs.Common.{refl, None, ◌++◌, ◌∷◌, [], ◌<◌, ◌≤◌, ◌+◌, Vec, Global, List, length, get_or, sym, ap, ◌∙◌, subst, arith}
use Rattle.std.specs.Vec.{vec_capacity}
use Rattle.std.proofs.lemmas.List.{get_or_default, length_push}
use Rattle.omega_model.specs.declared.cells.TaskKey.{TaskKey}
use Rattle.omega_board.specs.declared.judging.StandingVictims.{StandingVictims}
use Rattle.omega_board.specs.Judging.{ComesLast}
use Rattle.omega_board.proofs.Gathered.{IsTold, told_none, told_more, told_fits}
use Rattle.omega_board.proofs.Parts.{IsFreed}
use Rattle.omega_board.proofs.Standing.{AreGathered, stands_behind, gathered_none, gathered_more, gathered_same}
use Rattle.omega_board.proofs.board.Board.gather_standing.Goals as goal
use Rattle.omega_board.proofs.board.Board.gather_standing.Goals.{in-Some, in_default}

pub loop-key-init : goal.loop-key-init
loop-key-init c =
    let board = c.args.self.now in
    let claim = c.args.claim.now in
    let told = told_none board c.requires.kept claim.machine c.args.free c.requires.free claim.spec.prec in
    let start = subst (λ (items : List TaskKey). AreGathered board.tasks claim.machine claim.victims 0 items × (length items ≤ 0) × IsTold board claim.machine claim.spec.prec items (record { withstands = None; free = c.args.free }))
    (sym c.requires.empty) (gathered_none board.tasks claim.machine claim.victims, omega arith, told) in
    (start.0, start.1, refl, c.requires.empty, start.2)

pub and_victim-found-requires : goal.and_victim-found-requires
and_victim-found-requires c =
    let claim = c.args.claim.now in
    let key = get_or c.as_slice-key-items.result.now c.loop-key.key-index (record { job = 0; index = 0 }) in
    told_fits c.args.self.now c.requires.kept claim.machine c.args.free c.requires.free claim.spec.prec c.loop-key.standing.items key c.in-Some.task c.in-Some.ensures.task
    (c.in-Some.ensures.stands ∙ ap (λ found. stands_behind c.args.self.now.tasks claim.machine found key) c.as_slice.ensures.value)
    c.loop-key.found c.loop-key.invariant.4

pub loop-key-preserved : goal.loop-key-preserved
loop-key-preserved c =
    let i = c.loop-key.key-index in
    let slice = c.as_slice-key-items.result.now in
    let none : TaskKey = record { job = 0; index = 0 } in
    let key = get_or slice i none in
    let tasks = c.args.self.now.tasks in
    let id = c.args.claim.now.machine in
    let victims = c.args.claim.now.victims in
    let below : i < length victims = subst (λ (keys : List TaskKey). i < length keys) c.as_slice-key-items.ensures c.loop-key-test.true in
    let here = sym (ap (λ (keys : List TaskKey). get_or keys i key) (sym c.as_slice-key-items.ensures) ∙ get_or_default slice i key none c.loop-key-test.true) in
    elim c.match-standing_task.branch [
      | in-Some w ↦
          let behind = w.in-Some.ensures.stands ∙ ap (λ found. stands_behind tasks id found key) c.as_slice.ensures.value in
          let told = told_more c.args.self.now c.requires.kept id c.args.free c.requires.free c.args.claim.now.spec.prec c.loop-key.standing.items key w.in-Some.task w.in-Some.ensures.task behind c.loop-key.found
          c.loop-key.invariant.4 in
          let items = ap (λ (v : Vec TaskKey Global). v.items) w.standing-is ∙ w.push_reserved.ensures.items in (
            subst (AreGathered tasks id victims (i + 1)) (sym items)
                (gathered_more tasks id victims i key below here c.loop-key.standing.items behind c.loop-key.invariant.0),
            subst (λ (found : List TaskKey). length found ≤ i + 1) (sym items) (let one = length_push c.loop-key.standing.items key in omega (arith, one, c.loop-key.invariant.1)),
            ap vec_capacity w.standing-is ∙ w.push_reserved.ensures.capacity ∙ c.loop-key.invariant.2,
            subst (λ (found : List TaskKey). ComesLast tasks found c.standing_task.new.last) (sym items) (subst (λ (found : List TaskKey). ComesLast tasks (found ++ key ∷ []) c.standing_task.new.last) c.as_slice.ensures.value w.in-Some.ensures.last),
            subst (λ (found : List TaskKey). IsTold c.args.self.now id c.args.claim.now.spec.prec found c.match-standing_task.found) (sym items) (
              ap (λ (told : StandingVictims). told.withstands) w.found-is ∙ w.and_victim-found.ensures.withstands ∙ told.0,
              subst (IsFreed c.args.self.now id (c.loop-key.standing.items ++ key ∷ [])) (sym (ap (λ (told : StandingVictims). told.free) w.found-is ∙ w.and_victim-found.ensures.free)) told.1,
            ),
          )
      | in_default w ↦
          let items = ap (λ (v : Vec TaskKey Global). v.items) w.standing-is in (
            subst (AreGathered tasks id victims (i + 1)) (sym items)
                (gathered_same tasks id victims i key below here c.loop-key.standing.items (w.in_default.ensures.stands ∙ ap (λ found. stands_behind tasks id found key) c.as_slice.ensures.value) c.loop-key.invariant.0),
            subst (λ (found : List TaskKey). length found ≤ i + 1) (sym items) (omega (arith, c.loop-key.invariant.1)),
            ap vec_capacity w.standing-is ∙ c.loop-key.invariant.2,
            subst (λ (found : List TaskKey). ComesLast tasks found c.standing_task.new.last) (c.as_slice.ensures.value ∙ sym items) w.in_default.ensures.last,
            subst (λ (found : List TaskKey). IsTold c.args.self.now id c.args.claim.now.spec.prec found c.match-standing_task.found) (sym items)
                (subst (IsTold c.args.self.now id c.args.claim.now.spec.prec c.loop-key.standing.items) (sym w.found-is) c.loop-key.invariant.4),
          )
    ]
