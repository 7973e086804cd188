use Rattle.std.proofs.Common.{◌<◌, arith, subst, sym, ap, ap₂, drop, length, List, ℕ, ◌∙◌}
use Rattle.std.proofs.lemmas.Result.{err_from_is_err_and}
use Rattle.omega_keep.specs.Resumed.{in_common}
use Rattle.omega_model.specs.declared.entries.Entry.{Entry}
use Rattle.omega_rounds.specs.Resuming.{StopsAt}
use Rattle.omega_rounds.proofs.KeptRounds.{appended_agree, checked_adds, checked_agree, checked_ends, stops_round}
use Rattle.omega_rounds.proofs.kept.take_round.Goals as goal

pub returns-in_err-check_lines-clause-refused : goal.returns-in_err-check_lines-clause-refused
returns-in_err-check_lines-clause-refused g c =
    let p = err_from_is_err_and c.from_residual.result c.from_residual.ensures.1 in
    let refusal = c.in_err-check_lines.field-0.0 in
    let more : c.args.from < length c.args.kept.now = subst (λ (l : List (List ℕ)). c.args.from < length l) c.as_slice.ensures c.if-from-as_slice.true in
    let rest = c.split_at-then-from-as_slice.ensures.back ∙ ap (drop c.args.from) c.as_slice-then-from-as_slice.ensures in
    rw (p.1, p.2) (stops_round c.args.from c.args.kept.now c.args.history.now c.requires.within c.requires.agree refusal more
    (subst (λ (l : List (List ℕ)). StopsAt l c.args.from (drop c.args.from c.args.history.now) refusal) rest
    (subst (λ (h : List Entry). StopsAt c.split_at-then-from-as_slice.result.1.now c.args.from h refusal) c.split_at.ensures.back c.in_err-check_lines.ensures.refused)))

pub returns-in_ok-check_lines-clause-agree : goal.returns-in_ok-check_lines-clause-agree
returns-in_ok-check_lines-clause-agree g c =
    let more : c.args.from < length c.args.kept.now = subst (λ (l : List (List ℕ)). c.args.from < length l) c.as_slice.ensures c.if-from-as_slice.true in
    let rest = c.split_at-then-from-as_slice.ensures.back ∙ ap (drop c.args.from) c.as_slice-then-from-as_slice.ensures in
    checked_agree c.args.from c.args.kept.now c.args.history.now c.requires.within c.requires.agree more
    (sym (ap₂ in_common rest c.split_at.ensures.back) ∙ c.in_ok-check_lines.ensures.agree ∙ ap (λ (h : List Entry). length h) c.split_at.ensures.back)

pub returns-in_ok-check_lines-clause-ends : goal.returns-in_ok-check_lines-clause-ends
returns-in_ok-check_lines-clause-ends g c more =
    let rest = c.split_at-then-from-as_slice.ensures.back ∙ ap (drop c.args.from) c.as_slice-then-from-as_slice.ensures in
    checked_ends c.args.from c.args.kept.now c.args.history.now c.requires.within c.requires.agree more
    (sym (ap₂ in_common rest c.split_at.ensures.back) ∙ c.in_ok-check_lines.ensures.agree ∙ ap (λ (h : List Entry). length h) c.split_at.ensures.back)

pub returns-in_ok-check_lines-clause-adds : goal.returns-in_ok-check_lines-clause-adds
returns-in_ok-check_lines-clause-adds g c first =
    let more : c.args.from < length c.args.kept.now = subst (λ (l : List (List ℕ)). c.args.from < length l) c.as_slice.ensures c.if-from-as_slice.true in
    let rest = c.split_at-then-from-as_slice.ensures.back ∙ ap (drop c.args.from) c.as_slice-then-from-as_slice.ensures in
    checked_adds c.args.from c.args.kept.now c.args.history.now c.requires.within c.requires.agree more
    (sym (ap₂ in_common rest c.split_at.ensures.back) ∙ c.in_ok-check_lines.ensures.agree ∙ ap (λ (h : List Entry). length h) c.split_at.ensures.back) first _

pub returns-in_ok-append_lines-clause-agree : goal.returns-in_ok-append_lines-clause-agree
returns-in_ok-append_lines-clause-agree g c =
    let count = ap (λ (l : List (List ℕ)). length l) c.as_slice.ensures in
    appended_agree c.args.from c.args.kept.now c.args.history.now c.requires.within c.requires.agree (omega (arith, count, c.if-from-as_slice.false))
