use Rattle.omega_pieces.proofs.ends_due.first_of.Goals as goal

pub returns-in-Some : goal.returns-in-Some
returns-in-Some c = (c.in-Some.ensures.member, λ time key stands. c.in-Some.ensures.least (time, key) stands)
