use Rattle.std.proofs.Common.{length, option_and_then, sym, ◌∙◌, ap, arith}
use Rattle.omega_units.specs.Digits.{number_after}
use Rattle.omega_units.proofs.Reading.{room_first, room_behind, bound_grows, number_joined}
use Rattle.omega_units.proofs.digits.read_joined.Goals as goal

pub read_digits-requires : goal.read_digits-requires
read_digits-requires c = room_first (length c.args.front.now) 32 (omega arith)

pub read_digits-requires-2 : goal.read_digits-requires-2
read_digits-requires-2 c = room_behind c.in_ok-value.value (length c.args.front.now) (length c.args.back.now) 32 c.in_ok-value.ensures.bound c.requires

pub returns-in_err-value-clause-value : goal.returns-in_err-value-clause-value
returns-in_err-value-clause-value c =
    c.from_residual.ensures
    ∙ sym (number_joined c.args.front.now c.args.back.now c.if-front-back-eq0.false ∙ ap (λ o. option_and_then (λ n. number_after n c.args.back.now) o) (sym c.in_err-value.ensures.value))

pub returns-clause-value : goal.returns-clause-value
returns-clause-value c =
    c.read_digits-2.ensures.value
    ∙ sym (number_joined c.args.front.now c.args.back.now c.if-front-back-eq0.false ∙ ap (λ o. option_and_then (λ n. number_after n c.args.back.now) o) (sym c.in_ok-value.ensures.value))

pub returns-clause-bound : goal.returns-clause-bound
returns-clause-bound c =
    bound_grows _ _ _ (room_behind c.in_ok-value.value (length c.args.front.now) (length c.args.back.now) 32 c.in_ok-value.ensures.bound c.requires) c.read_digits-2.ensures.bound
