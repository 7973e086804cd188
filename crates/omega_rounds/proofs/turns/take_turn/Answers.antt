use Rattle.omega_rounds.proofs.PlayedTurns.{turn_taken}
use Rattle.omega_rounds.proofs.turns.take_turn.Goals as goal

pub returns-clause-turn : goal.returns-clause-turn
returns-clause-turn g c =
    turn_taken c.args.world.now c.sync_all.new.world c.commit_all.new.world c.in_ok-committed.committed c.in_ok-sync_all.ensures.synced c.in_ok-committed.ensures.committed
