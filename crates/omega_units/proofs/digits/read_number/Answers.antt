use Rattle.std.proofs.Common.{length}
use Rattle.omega_units.proofs.Reading.{room_first, bound_grows}
use Rattle.omega_units.proofs.digits.read_number.Goals as goal

pub read_digits-requires : goal.read_digits-requires
read_digits-requires c = room_first (length c.args.text.now) 32 c.requires

pub returns-clause-bound : goal.returns-clause-bound
returns-clause-bound c = bound_grows _ _ _ (room_first (length c.args.text.now) 32 c.requires) c.read_digits.ensures.bound
