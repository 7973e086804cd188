use Rattle.std.proofs.Common.{arith, length-drop}
use Rattle.std.proofs.lemmas.List.{take_rest}
use Rattle.omega_io.proofs.Pieces.{appends_more, take_parts}
use Rattle.omega_io.proofs.writing.write_all.Goals as goal

pub loop-done-preserved : goal.loop-done-preserved
loop-done-preserved g c =
    let whole = take_rest c.args.bytes.now c.loop-done.done in
    let piece = rw whole at c.in_ok-done.ensures.appends in
    let fits = rw whole at c.in_ok-done.ensures.fits in
    record {
      within = omega (arith, simp length-drop at fits, c.loop-done-test.true);
      written = rw (take_parts c.loop-done.done c.in_ok-done.field-0 c.args.bytes.now) (appends_more _ _ _ _ _ c.loop-done.invariant.written piece);
      later = omega (arith, c.write.ensures.later);
    }
