use Rattle.std.proofs.Common.{◌/◌, ◌%◌, arith, refl}
use Rattle.std.proofs.lemmas.Fmt.{decimal_digit}
use Rattle.omega_gen.proofs.jobs.push_thousandths.Goals as goal

pub returns : goal.returns
returns c =
    let amount = c.args.amount in
    rw (
      c.in_ok-write.ensures.bytes,
      decimal_digit (amount / 10) (omega arith),
      decimal_digit (amount % 10) (omega arith),
    )
    refl
