use Rattle.std.proofs.Common.{◌≡◌, sym, ap, ◌∙◌}
use Rattle.std.proofs.lemmas.Slice.Eq.{bytes_eq-Decides}
use Rattle.omega_keep.specs.KeptLines.{entry_text}
use Rattle.omega_keep.specs.Reading.{entry_at}
use Rattle.omega_keep.proofs.Entries.{entry_again, some_is, no_line, true_is_not_false}
use Rattle.omega_keep.proofs.lines.read_entry.Goals as goal

pub returns-in-Err-NoLine-clause-only : goal.returns-in-Err-NoLine-clause-only
returns-in-Err-NoLine-clause-only c = λ entry range answered same. sym (no_line c.in-Err-NoLine.field-0 _ c.in-Err-NoLine.field-0-is c.in-Err-NoLine.ensures.value) ∙ ap entry_at same ∙ entry_again entry range answered

pub returns-then-eq-clause-only : goal.returns-then-eq-clause-only
returns-then-eq-clause-only c = λ entry range answered same. sym c.in-Ok.ensures.value ∙ ap entry_at same ∙ entry_again entry range answered

pub returns-else-eq-clause-only : goal.returns-else-eq-clause-only
returns-else-eq-clause-only c = λ entry range answered same.
    let is = some_is c.in-Ok.entry entry (sym c.in-Ok.ensures.value ∙ ap entry_at same ∙ entry_again entry range answered) in
    let written : c.in_ok-again.again ≡ c.args.line.now = c.in_ok-again.ensures.line ∙ ap entry_text is ∙ sym same in
    absurd (true_is_not_false (sym ((bytes_eq-Decides c.as_slice.result.now c.args.line.now).1 (c.as_slice.ensures ∙ written)) ∙ sym c.eq.ensures ∙ c.if-eq.false))
