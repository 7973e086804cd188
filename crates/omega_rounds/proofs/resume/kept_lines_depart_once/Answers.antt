use Rattle.omega_rounds.proofs.Departing.{departs_never, departs_once, departs_whole, whole_front}
use Rattle.omega_rounds.proofs.resume.kept_lines_depart_once.Goals as goal

pub returns-clause-once : goal.returns-clause-once
returns-clause-once c = departs_once

pub returns-clause-never : goal.returns-clause-never
returns-clause-never c = departs_never

pub returns-clause-whole : goal.returns-clause-whole
returns-clause-whole c = departs_whole

pub returns-clause-front : goal.returns-clause-front
returns-clause-front c = whole_front
