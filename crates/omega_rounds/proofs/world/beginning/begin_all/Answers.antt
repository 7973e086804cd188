use Rattle.std.proofs.Common.{◌≤◌, ◌<◌, length, refl, sym, arith}
use Rattle.std.proofs.lemmas.Option.{slice_get_read}
use Rattle.omega_rounds.proofs.Beginning.{asked_distinct, begun_all, begun_more, begun_none, idle_still, worker_begins}
use Rattle.omega_opening.proofs.Reopened.{quiet_on}
use Rattle.omega_rounds.proofs.world.beginning.begin_all.Goals as goal

pub loop-i-init : goal.loop-i-init
loop-i-init c = record {
  begun = begun_none c.args.wanted.now c.args.cell.now.history c.args.workers.now.items;
  quiet = c.requires.quiet;
}

pub settle-requires : goal.settle-requires
settle-requires c = quiet_on c.loop-i.open_jobs c.args.wanted.now _ _ (sym c.board-board.ensures.current) c.loop-i.invariant.quiet

pub begin-requires-clause-no_work : goal.begin-requires-clause-no_work
begin-requires-clause-no_work c =
    let within : c.loop-i.i < length c.loop-i.workers.items = omega (arith, c.loop-i.invariant.begun.count, c.len-i-end.ensures, c.args.workers.now.ok.0, c.loop-i-test.true) in
    idle_still c.args.wanted.now c.args.cell.now.history c.args.workers.now.items c.loop-i.workers.items c.loop-i.i c.index_mut.result.now c.loop-i.invariant.begun c.requires.no_work
    (slice_get_read c.loop-i.workers.items (length c.loop-i.workers.items) c.loop-i.i c.index_mut.result.now refl within c.index_mut.ensures.value)

pub begin-requires-clause-distinct : goal.begin-requires-clause-distinct
begin-requires-clause-distinct c =
    asked_distinct c.args.wanted.now c.args.cell.now.history _ c.loop-i.i c.in_ok-requests.requests c.requires.asked c.requests.ensures.low c.board-board.ensures.current c.in_ok-requests.ensures.requests

pub loop-i-preserved : goal.loop-i-preserved
loop-i-preserved c =
    let within : c.loop-i.i < length c.loop-i.workers.items = omega (arith, c.loop-i.invariant.begun.count, c.len-i-end.ensures, c.args.workers.now.ok.0, c.loop-i-test.true) in
    record {
      begun = begun_more c.args.wanted.now c.args.cell.now.history c.args.workers.now.items c.loop-i.workers.items c.loop-i.i c.index_mut.result.now c.begin.new.self c.loop-i.invariant.begun
          (slice_get_read c.loop-i.workers.items (length c.loop-i.workers.items) c.loop-i.i c.index_mut.result.now refl within c.index_mut.ensures.value)
          (worker_begins c.args.wanted.now c.args.cell.now.history _ c.loop-i.i c.in_ok-requests.requests c.index_mut.result.now c.begin.new.self c.board-board.ensures.current c.in_ok-requests.ensures.requests
          c.begin.ensures.desk c.begin.ensures.attempts c.in_ok-begin.ensures.left c.in_ok-begin.ensures.synced);
      quiet = quiet_on c.settle.new.self c.args.wanted.now _ _ c.board-board.ensures.current c.settle.ensures.quiet;
    }

pub returns-clause-workers : goal.returns-clause-workers
returns-clause-workers c =
    let whole : length c.loop-i.workers.items ≤ c.loop-i.i = omega (arith, c.loop-i.invariant.begun.count, c.len-i-end.ensures, c.args.workers.now.ok.0, c.loop-i-test.false) in
    begun_all c.args.wanted.now c.args.cell.now.history c.args.workers.now.items c.loop-i.workers.items c.loop-i.i c.loop-i.invariant.begun whole
