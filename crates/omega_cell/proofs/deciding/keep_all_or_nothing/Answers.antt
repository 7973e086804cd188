use Rattle.std.proofs.Common.{◌≡◌, ◌∙◌, true, length, sym, ap, arith, refl, ◌==◌}
use Rattle.omega_model.specs.Reply.{first_refused}
use Rattle.omega_cell.proofs.Judging.{no_refusal}
use Rattle.omega_cell.proofs.deciding.keep_all_or_nothing.Goals as goal

none : (c : goal.Else-place-len) → (first_refused c.args.answered.now.items == length c.args.answered.now.items) ≡ true
none c =
    let place : c.first_refused-place.result ≡ first_refused c.args.answered.now.items = c.first_refused-place.ensures ∙ ap first_refused c.as_slice.ensures.value in
    let long : length c.args.answered.now.items ≡ c.len.result = ap length (sym c.as_slice.ensures.value) ∙ c.as_slice.ensures.len ∙ sym c.len.ensures in
    no_refusal c.args.answered.now.items (omega (arith, c.if-place-len.false, place, long))

pub returns-else-place-len-clause-answered : goal.returns-else-place-len-clause-answered
returns-else-place-len-clause-answered c = rw (none c) refl

pub returns-else-place-len-clause-board : goal.returns-else-place-len-clause-board
returns-else-place-len-clause-board c = rw (none c) refl
