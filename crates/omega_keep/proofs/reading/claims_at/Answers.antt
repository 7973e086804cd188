use Rattle.std.proofs.Common.{◌≡◌, ◌<◌, ◌-◌, ◌∷◌, [], length, arith}
use Rattle.std.proofs.lemmas.Result.{err_from_is_err_and}
use Rattle.std.proofs.lemmas.List.{length-append}
use Rattle.std.proofs.lemmas.Bool.Decides.{nat_tests}
use Rattle.omega_keep.specs.Reading.{claims_at, claims_from}
use Rattle.omega_keep.proofs.Loops.{claims_go_on, claim_ends, judgement_ends, claims_done, claims_left}
use Rattle.omega_keep.proofs.reading.claims_at.Goals as goal

pub returns-then-is_empty-clause-value : goal.returns-then-is_empty-clause-value
unfolding claims_at
returns-then-is_empty-clause-value c =
    let none : length c.loop.rest.now ≡ 0 = grind (arith, nat_tests, c.is_empty.ensures, c.if-is_empty.true) in
    claims_done c.loop.claims c.loop.reply (length c.args.text.now - c.loop.counter) c.loop.rest.now _ none c.loop.invariant.so_far

pub returns-in_err-claim-clause-value : goal.returns-in_err-claim-clause-value
unfolding claims_at
returns-in_err-claim-clause-value c =
    let some : 0 < length c.loop.rest.now = grind (arith, nat_tests, c.is_empty.ensures, c.if-is_empty.false) in
    let p = err_from_is_err_and c.from_residual.result c.from_residual.ensures.1 in
    rw (p.1, p.2) (claim_ends c.in_err-claim.field-0.0 c.loop.claims c.loop.reply (length c.args.text.now) c.loop.counter c.loop.rest.now (claims_from (length c.args.text.now) c.args.text.now) c.loop-test.true some c.in_err-claim.ensures c.loop.invariant.so_far)

pub returns-in_err-judgement-clause-value : goal.returns-in_err-judgement-clause-value
unfolding claims_at
returns-in_err-judgement-clause-value c =
    let some : 0 < length c.loop.rest.now = grind (arith, nat_tests, c.is_empty.ensures, c.if-is_empty.false) in
    let p = err_from_is_err_and c.from_residual-in_err-judgement.result c.from_residual-in_err-judgement.ensures.1 in
    rw (p.1, p.2) (judgement_ends c.in_err-judgement.field-0.0 c.loop.claims c.loop.reply (length c.args.text.now) c.loop.counter c.loop.rest.now c.in_ok-claim.after.now c.in_ok-claim.claim (claims_from (length c.args.text.now) c.args.text.now) c.loop-test.true some c.in_ok-claim.ensures c.in_err-judgement.ensures c.loop.invariant.so_far)

pub loop-preserved : goal.loop-preserved
loop-preserved c =
    let some : 0 < length c.loop.rest.now = grind (arith, nat_tests, c.is_empty.ensures, c.if-is_empty.false) in
    let one = c.in_ok-push.ensures.ok in
    let two = c.in_ok-push-2.ensures.ok in
    record {
      so_far = rw (one, two) (claims_go_on c.loop.claims c.loop.reply (length c.args.text.now) c.loop.counter c.loop.rest.now c.in_ok-claim.after.now c.in_ok-judgement.after.now c.in_ok-claim.claim c.in_ok-judgement.judgement (claims_from (length c.args.text.now) c.args.text.now) c.loop-test.true some c.in_ok-claim.ensures c.in_ok-judgement.ensures c.loop.invariant.so_far);
      answered = rw (one, two) (omega (arith, length-append c.loop.claims (c.in_ok-claim.claim ∷ []), length-append c.loop.reply (c.in_ok-judgement.judgement ∷ []), c.loop.invariant.answered));
    }

pub returns-then-not-is_empty-clause-value : goal.returns-then-not-is_empty-clause-value
unfolding claims_at
returns-then-not-is_empty-clause-value c =
    let some : 0 < length c.loop.rest.now = grind (arith, nat_tests, c.is_empty-2.ensures, c.if-not-is_empty.true) in
    claims_left c.loop.claims c.loop.reply (length c.args.text.now) c.loop.counter c.loop.rest.now _ c.loop-test.false some c.loop.invariant.so_far

pub returns-clause-value : goal.returns-clause-value
unfolding claims_at
returns-clause-value c =
    let none : length c.loop.rest.now ≡ 0 = grind (arith, nat_tests, c.is_empty-2.ensures, c.if-not-is_empty.false) in
    claims_done c.loop.claims c.loop.reply (length c.args.text.now - c.loop.counter) c.loop.rest.now _ none c.loop.invariant.so_far
