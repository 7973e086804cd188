use Rattle.std.proofs.Common.{sym, ◌∙◌}
use Rattle.omega_rounds.proofs.PlayingOn.{played_all, plays_first, plays_more, stopped}
use Rattle.omega_workers.proofs.WorkerCommits.{no_work, some_work}
use Rattle.omega_rounds.proofs.threads.player.Player.play.Goals as goal

pub returns : goal.returns
returns g c = record {
  played = played_all c.args.shared.now.of c.args.self.now c.loop-alloc.self _ c.loop-alloc.invariant
      (no_work c.loop-alloc.self.worker (sym c.has_work.ensures ∙ c.loop-alloc-test.false));
}

pub loop-alloc-init : goal.loop-alloc-init
loop-alloc-init g c = plays_first c.args.shared.now.of c.args.self.now c.requires.may_play

pub attempt-requires-clause-may_play : goal.attempt-requires-clause-may_play
attempt-requires-clause-may_play g c = c.loop-alloc.invariant.may_play

pub attempt-requires-clause-work : goal.attempt-requires-clause-work
attempt-requires-clause-work g c =
    some_work c.loop-alloc.self.worker (sym c.has_work.ensures ∙ c.loop-alloc-test.true)

pub loop-alloc-smaller : goal.loop-alloc-smaller
loop-alloc-smaller g c = c.in-Ok.ensures.fewer

pub loop-alloc-preserved : goal.loop-alloc-preserved
loop-alloc-preserved g c =
    plays_more c.args.shared.now.of c.args.self.now c.loop-alloc.self c.attempt.new.self c.loop-alloc.invariant c.attempt.ensures.plays_on
    c.in-Ok.ensures.may_play c.in-Ok.ensures.spent c.attempt.ensures.failed

pub returns-in_default : goal.returns-in_default
returns-in_default g c = record {
  played = stopped c.args.shared.now.of c.args.self.now c.loop-alloc.self c.attempt.new.self c.loop-alloc.invariant c.attempt.ensures.plays_on;
}
