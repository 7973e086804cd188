use Rattle.std.proofs.Common.{◌+◌, get_or, sym, ◌∙◌, subst, arith}
use Rattle.std.proofs.lemmas.List.{get_or_default}
use Rattle.omega_model.specs.declared.cells.TaskKey.{TaskKey}
use Rattle.omega_board.proofs.Needing.{Walking, enough_is, walk_none, walk_found, walk_more, walk_bounded, walk_runs, walk_end}
use Rattle.omega_board.proofs.board.Board.needed.Goals as goal

pub loop-n-init : goal.loop-n-init
loop-n-init c =
    walk_none c.args.self.now c.requires.kept c.args.claim.now c.requires.placed c.args.standing.now c.requires.standing c.args.free c.requires.free

pub returns-then-makes_room : goal.returns-then-makes_room
returns-then-makes_room c =
    walk_found c.args.self.now c.requires.kept c.args.claim.now c.requires.placed c.args.standing.now c.requires.standing
    c.loop-n.n c.loop-n.free c.loop-n.auto.n-end (enough_is c.args.claim.now c.args.standing.now c.loop-n.n c.loop-n.free c.makes_room.result c.makes_room.ensures ∙ c.if-makes_room.true) c.loop-n.invariant

pub need_of-requires : goal.need_of-requires
need_of-requires c =
    let standing = c.args.standing.now in
    let none : TaskKey = record { job = 0; index = 0 } in
    walk_runs c.args.self.now c.requires.kept c.args.claim.now c.requires.placed standing c.requires.standing
    c.loop-n.n (get_or standing c.loop-n.n none) c.loop-n-test.true (get_or_default standing c.loop-n.n (get_or standing c.loop-n.n none) none c.loop-n-test.true)

pub plus-free-requires-clause-cpu : goal.plus-free-requires-clause-cpu
plus-free-requires-clause-cpu c =
    let standing = c.args.standing.now in
    let none : TaskKey = record { job = 0; index = 0 } in
    let next = walk_more c.args.self.now c.requires.kept c.args.claim.now c.requires.placed standing c.requires.standing c.loop-n.n (get_or standing c.loop-n.n none) c.loop-n.free c.need_of.result
    c.loop-n-test.true (get_or_default standing c.loop-n.n (get_or standing c.loop-n.n none) none c.loop-n-test.true) c.need_of.ensures (enough_is c.args.claim.now c.args.standing.now c.loop-n.n c.loop-n.free c.makes_room.result c.makes_room.ensures ∙ c.if-makes_room.false) c.loop-n.invariant in
    let bound = walk_bounded c.args.self.now c.requires.kept c.args.claim.now c.requires.placed standing c.requires.standing (c.loop-n.n + 1) _ next in
    omega (arith, bound.0)

pub plus-free-requires-clause-mem : goal.plus-free-requires-clause-mem
plus-free-requires-clause-mem c =
    let standing = c.args.standing.now in
    let none : TaskKey = record { job = 0; index = 0 } in
    let next = walk_more c.args.self.now c.requires.kept c.args.claim.now c.requires.placed standing c.requires.standing c.loop-n.n (get_or standing c.loop-n.n none) c.loop-n.free c.need_of.result
    c.loop-n-test.true (get_or_default standing c.loop-n.n (get_or standing c.loop-n.n none) none c.loop-n-test.true) c.need_of.ensures (enough_is c.args.claim.now c.args.standing.now c.loop-n.n c.loop-n.free c.makes_room.result c.makes_room.ensures ∙ c.if-makes_room.false) c.loop-n.invariant in
    let bound = walk_bounded c.args.self.now c.requires.kept c.args.claim.now c.requires.placed standing c.requires.standing (c.loop-n.n + 1) _ next in
    omega (arith, bound.1.0)

pub plus-free-requires-clause-disk : goal.plus-free-requires-clause-disk
plus-free-requires-clause-disk c =
    let standing = c.args.standing.now in
    let none : TaskKey = record { job = 0; index = 0 } in
    let next = walk_more c.args.self.now c.requires.kept c.args.claim.now c.requires.placed standing c.requires.standing c.loop-n.n (get_or standing c.loop-n.n none) c.loop-n.free c.need_of.result
    c.loop-n-test.true (get_or_default standing c.loop-n.n (get_or standing c.loop-n.n none) none c.loop-n-test.true) c.need_of.ensures (enough_is c.args.claim.now c.args.standing.now c.loop-n.n c.loop-n.free c.makes_room.result c.makes_room.ensures ∙ c.if-makes_room.false) c.loop-n.invariant in
    let bound = walk_bounded c.args.self.now c.requires.kept c.args.claim.now c.requires.placed standing c.requires.standing (c.loop-n.n + 1) _ next in
    omega (arith, bound.1.1)

pub loop-n-preserved : goal.loop-n-preserved
loop-n-preserved c =
    let standing = c.args.standing.now in
    let none : TaskKey = record { job = 0; index = 0 } in
    subst (Walking c.args.self.now c.args.claim.now standing (c.loop-n.n + 1)) (sym c.plus-free.ensures)
    (walk_more c.args.self.now c.requires.kept c.args.claim.now c.requires.placed standing c.requires.standing c.loop-n.n (get_or standing c.loop-n.n none) c.loop-n.free c.need_of.result
    c.loop-n-test.true (get_or_default standing c.loop-n.n (get_or standing c.loop-n.n none) none c.loop-n-test.true) c.need_of.ensures (enough_is c.args.claim.now c.args.standing.now c.loop-n.n c.loop-n.free c.makes_room.result c.makes_room.ensures ∙ c.if-makes_room.false) c.loop-n.invariant)

pub returns : goal.returns
returns c =
    walk_end c.args.self.now c.requires.kept c.args.claim.now c.requires.placed c.args.standing.now c.requires.standing
    c.loop-n.n c.loop-n.free (omega (arith, c.loop-n.auto.n-end, c.loop-n-test.false)) c.loop-n.invariant
