use Rattle.std.proofs.Common.{take}
use Rattle.omega_model.specs.Lawful.{rows_of}
use Rattle.omega_pieces.specs.HowFar.{KeepsLives}
use Rattle.omega_pieces.proofs.lives.lives_of.Given as goal

abbrev pub invariant-loop-place : goal.invariant-loop-place
invariant-loop-place l = KeepsLives (rows_of (take l.place l.rounds)) l.by_task l.lives
