use Rattle.omega_workers.specs.Workers.{to_do_of}
use Rattle.omega_rounds.proofs.PlayingOn.{IsPlaying}
use Rattle.omega_rounds.proofs.threads.player.Player.play.Given as goal

abbrev pub invariant-loop-alloc : goal.invariant-loop-alloc
invariant-loop-alloc g l = IsPlaying l.shared.of l.fn.self l.self

abbrev pub decreases-loop-alloc : goal.decreases-loop-alloc
decreases-loop-alloc g l = to_do_of l.self.worker
