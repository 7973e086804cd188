use Rattle.std.proofs.Common.{◌∙◌, subst}
use Rattle.omega_rounds.specs.Playing.{TakesTurnFrom}
use Rattle.omega_rounds.proofs.PlayedTurns.{turns_last, turns_more}
use Rattle.omega_rounds.proofs.turns.play_round.Goals as goal

pub returns-then-not-branch-clause-plays : goal.returns-then-not-branch-clause-plays
returns-then-not-branch-clause-plays g c =
    turns_last c.args.world.now c.loop.world c.take_turn.new.world c.loop.invariant.1
    (subst (TakesTurnFrom c.loop.world c.take_turn.new.world) c.if-not-branch.true c.in_ok-take_turn.ensures.turn)

pub loop-preserved : goal.loop-preserved
loop-preserved g c = (
  c.in_ok-take_turn.ensures.stage ∙ c.loop.invariant.0,
  turns_more c.args.world.now c.loop.world c.take_turn.new.world c.in_ok-take_turn.field-0 c.loop.invariant.1 c.in_ok-take_turn.ensures.turn,
)
