use Rattle.omega_desk.specs.First.{first_request}
use Rattle.omega_desk.proofs.Desks.{skipped}
use Rattle.omega_desk.proofs.desk.Desk.skip.Goals as goal

pub invariant_of-self : goal.invariant_of-self
invariant_of-self c =
    let d = c.self.inside in
    skipped (first_request d.present) d.waiting.items d.attempts d.taken d.failures c.self.invariant
    (first_request c.next_of-next.result) c.next_of-next.new.waiting.items c.next_of-next.ensures.items c.next_of-next.ensures.rest
