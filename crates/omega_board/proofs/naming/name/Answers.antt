use Rattle.std.proofs.Common.{ap, ◌∙◌}
use Rattle.omega_board.specs.Numbers.{is_among}
use Rattle.omega_board.proofs.Numbers.{one_more}
use Rattle.omega_board.proofs.naming.name.Goals as goal

pub returns : goal.returns
returns c = λ id. ap (λ ids. is_among ids id) c.in_ok-push.ensures.items ∙ one_more c.args.machines.now.items c.args.machine id
