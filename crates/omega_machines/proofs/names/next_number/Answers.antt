use Rattle.std.proofs.Common.{sym}
use Rattle.omega_machines.proofs.Naming.{next_rises, first_rises}
use Rattle.omega_machines.proofs.names.next_number.Goals as goal

pub returns-in-Some : goal.returns-in-Some
returns-in-Some c =
    next_rises c.args.numbers.now c.in-Some.last.now _ c.checked_add.result (sym c.in-Some.ensures.value) c.checked_add.ensures

pub returns-in-None : goal.returns-in-None
returns-in-None c = first_rises c.args.numbers.now 0 (sym c.in-None.ensures.value)
