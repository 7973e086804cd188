use Rattle.std.proofs.Common.{rules}
use Rattle.std.proofs.lemmas.Slice.Eq.{slice_eq-Decides}
use Rattle.omega_keep.proofs.taking.are_tasks.Goals as goal

pub returns-clause-same : goal.returns-clause-same
returns-clause-same c = (slice_eq-Decides (λ a b. (λ h. search rules, λ h. search rules)) c.args.due.now c.args.keys.now c.eq.result c.eq.ensures).0

pub returns-clause-all : goal.returns-clause-all
returns-clause-all c = (slice_eq-Decides (λ a b. (λ h. search rules, λ h. search rules)) c.args.due.now c.args.keys.now c.eq.result c.eq.ensures).1
