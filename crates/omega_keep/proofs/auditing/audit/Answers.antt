use Rattle.std.proofs.Common.{◌≡◌, ◌<◌, get_or, length, subst}
use Rattle.omega_keep.specs.Audited.{IsRefused}
use Rattle.omega_keep.specs.Taking.{Takes}
use Rattle.omega_keep.proofs.Audits.{audited_push, at_default, refused_at, refused_is}
use Rattle.omega_keep.proofs.auditing.audit.Goals as goal

pub returns-in-Err-Refused-clause-refused : goal.returns-in-Err-Refused-clause-refused
returns-in-Err-Refused-clause-refused c =
    let below = subst (λ z. c.loop-place.place < length z) c.as_slice-line-items.ensures c.loop-place-test.true in
    let is = subst (λ z. c.line-item.result ≡ get_or z c.loop-place.place c.line-item.result) c.as_slice-line-items.ensures c.line-item.is in
    refused_at c.args.lines.now c.loop-place.place c.line-item.result c.loop-place.cell.history below (at_default c.args.lines.now c.loop-place.place c.line-item.result below is)
    c.loop-place.invariant.audited
    (subst (λ z. IsRefused c.loop-place.cell.history z) c.as_slice.ensures (refused_is _ c.in-Err-Refused.field-0 c.in-Err-Refused.field-0-is c.in-Err-Refused.ensures.stops))

pub loop-place-preserved : goal.loop-place-preserved
loop-place-preserved c =
    let below = subst (λ z. c.loop-place.place < length z) c.as_slice-line-items.ensures c.loop-place-test.true in
    let is = subst (λ z. c.line-item.result ≡ get_or z c.loop-place.place c.line-item.result) c.as_slice-line-items.ensures c.line-item.is in
    record {
      audited = audited_push c.args.lines.now c.loop-place.place c.line-item.result c.loop-place.cell.history c.take_line.new.cell.history below (at_default c.args.lines.now c.loop-place.place c.line-item.result below is)
          c.loop-place.invariant.audited (subst (λ z. Takes z c.loop-place.cell.history c.take_line.new.cell.history) c.as_slice.ensures c.in-Ok.ensures.takes);
      touches = c.in-Ok.ensures.touches;
    }
