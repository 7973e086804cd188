use Rattle.std.proofs.Common.{◌≡◌, List, sym, subst, length}
use Rattle.omega_laws.specs.VirtualTime.{Timed}
use Rattle.omega_rounds.specs.InTime.{StandsInTime}
use Rattle.omega_workers.specs.declared.steps.Stepped.{Stepped}
use Rattle.omega_rounds.proofs.InTime.{first_commits, first_committed, is_commit_at, wait_within}
use Rattle.omega_rounds.proofs.PlayedTurns.{StepsFrom}
use Rattle.omega_rounds.proofs.clock.commit_first.Goals as goal

pub overflow_sub-sync : goal.overflow_sub-sync
overflow_sub-sync c =
    wait_within c.requires.some.0 c.args.world.now c.args.agenda.now c.args.times.now c.args.scheduler c.args.time c.left.result c.decision.result c.settings.result
    c.requires.some.1 c.requires.first c.left.ensures.wishes c.settings.ensures.is c.decision.ensures

pub unreachable-requires : goal.unreachable-requires
unreachable-requires c =
    let old = c.args.world.now in
    let did = first_commits c.requires.some.0 old c.step.new.self c.args.agenda.now c.args.times.now c.args.scheduler c.args.time c.in_ok-place.field-0
    c.requires.some.1 c.requires.first c.in_ok-place.ensures.step in
    c.in_default.not-Committed (length old.history) (is_commit_at c.in_ok-place.field-0 (length old.history) did.committed)

pub returns-clause-goes : goal.returns-clause-goes
returns-clause-goes c timed goes =
    let old = c.args.world.now in
    let new = c.step.new.self in
    let steps = subst (λ (stepped : Stepped). StepsFrom old.stage old c.args.scheduler new stepped) c.in-Committed.is c.in_ok-place.ensures.step in
    c.in_ok-sync_next.ensures.alone timed c.push.new.self
    (subst (λ (times : List Timed). StandsInTime timed new c.args.agenda.now times (λ other. other ≡ c.args.scheduler) c.args.time) (sym c.in_ok-push.ensures.ok)
    (first_committed timed old new c.args.agenda.now c.args.times.now c.args.scheduler c.args.time c.left.result c.decision.result c.in-Committed.place c.settings.result
    goes c.requires.first c.left.ensures.wishes c.settings.ensures.is c.decision.ensures c.in_ok-place.ensures.stage steps))
