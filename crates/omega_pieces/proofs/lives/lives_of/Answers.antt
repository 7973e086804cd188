use Rattle.std.proofs.Common.{ap, arith, List, subst}
use Rattle.std.proofs.lemmas.List.{take_all}
use Rattle.omega_model.specs.Lawful.{rows_of}
use Rattle.omega_model.specs.declared.rows.Row.{Row}
use Rattle.omega_pieces.specs.HowFar.{AreLives}
use Rattle.omega_pieces.proofs.LivesOn.{keeps_none}
use Rattle.omega_pieces.proofs.lives.lives_of.Goals as goal

pub loop-place-init : goal.loop-place-init
loop-place-init c = keeps_none c.new-by_task.result c.new-lives.result c.new-by_task.ensures.empty c.new-lives.ensures.empty

pub loop-place-preserved : goal.loop-place-preserved
loop-place-preserved c = c.in_ok-note_round.ensures c.loop-place.invariant

pub returns : goal.returns
returns c =
    let test = c.loop-place-test.false in
    let len = c.len-place-end.ensures in
    subst (λ (rows : List Row). AreLives rows c.loop-place.lives) (ap rows_of (take_all c.loop-place.place c.args.rounds.now (omega (arith, test, len))))
    c.loop-place.invariant.lives_are
