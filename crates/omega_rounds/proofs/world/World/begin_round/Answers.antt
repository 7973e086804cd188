use Rattle.std.proofs.Common.{◌≡◌, ◌+◌, ◌∙◌, List, length, Some, sym, ap, subst}
use Rattle.std.specs.Prelude.{slice_get}
use Rattle.std.specs.List.{fold}
use Rattle.omega_feed.specs.Asked.{Asked}
use Rattle.omega_feed.specs.Open.{OthersAreQuiet}
use Rattle.omega_model.specs.Lawful.{opened}
use Rattle.omega_model.specs.State.{state}
use Rattle.omega_model.specs.Stepping.{BeginsRound}
use Rattle.omega_model.specs.Wanted.{wanted as wanted_tasks, wanted_after}
use Rattle.omega_model.specs.declared.entries.Entry.{Entry}
use Rattle.omega_model.specs.declared.rows.Round.{Round}
use Rattle.omega_model.specs.declared.rows.Row.{Row}
use Rattle.omega_model.specs.declared.rows.TraceTables.{TraceTables}
use Rattle.omega_rounds.specs.Going.{OpensRound}
use Rattle.omega_model.specs.Policy.{schedulers}
use Rattle.omega_rounds.specs.Keeping.{IsWorld, world_at}
use Rattle.omega_rounds.specs.Beginning.{BeginAll, IsAsked}
use Rattle.omega_workers.specs.Workers.{HaveNoWork}
use Rattle.omega_rounds.specs.Stages.{IsInRunOf, WorldState, rows_begun, stage_of}
use Rattle.omega_rounds.proofs.Reopened.{commits_since, opened_within}
use Rattle.omega_opening.proofs.Reopened.{quiet_at_end}
use Rattle.omega_rounds.proofs.WorldBegins.{begins_round, idle_all, indexes_later, is_asked, nobody_works, world_later}
use Rattle.omega_rounds.proofs.WorldSteps.{state_at}
use Rattle.omega_rounds.proofs.world.World.begin_round.Goals as goal

pub open_and_begin-requires-clause-asked : goal.open_and_begin-requires-clause-asked
open_and_begin-requires-clause-asked c =
    let round : Round = c.in-Some.round in
    let next : slice_get c.self.inside.course.rounds c.self.inside.course.begun ≡ Some round = sym c.in_ok-round.ensures ∙ c.in-Some.is in
    subst (λ (a : Asked). IsAsked (record a { tasks = fold wanted_after a.tasks round.rows })) (sym c.reopen_since.ensures.wanted)
    (is_asked c.self.inside.course.settings c.self.inside.course.rounds c.self.inside.course.demand.wanted c.self.inside.course.begun c.self.inside.course.opened_at c.self.inside.crew.cell.history c.self.inside.crew.workers.items round
    c.self.invariant.0 next)

pub open_and_begin-requires-clause-no_work : goal.open_and_begin-requires-clause-no_work
open_and_begin-requires-clause-no_work c =
    idle_all (stage_of c.self.inside.course.settings c.self.inside.course.rounds c.self.inside.course.demand.wanted c.self.inside.course.begun c.self.inside.course.opened_at) c.self.inside.course.demand.wanted.tasks c.self.inside.crew.cell.history
    c.self.inside.crew.workers.items c.self.invariant.0 (ap (λ (w : WorldState). w.to_do) c.self.view_is ∙ c.requires.no_work)

pub reopen_since-requires-clause-within : goal.reopen_since-requires-clause-within
reopen_since-requires-clause-within c =
    opened_within (stage_of c.self.inside.course.settings c.self.inside.course.rounds c.self.inside.course.demand.wanted c.self.inside.course.begun c.self.inside.course.opened_at) c.self.inside.course.demand.wanted.tasks
    c.self.inside.crew.cell.history c.self.inside.crew.workers.items c.self.invariant.0

pub reopen_since-requires-clause-commits : goal.reopen_since-requires-clause-commits
reopen_since-requires-clause-commits c =
    commits_since (stage_of c.self.inside.course.settings c.self.inside.course.rounds c.self.inside.course.demand.wanted c.self.inside.course.begun c.self.inside.course.opened_at) c.self.inside.course.demand.wanted.tasks
    c.self.inside.crew.cell.history c.self.inside.crew.workers.items c.self.invariant.0

pub reopen_since-requires-clause-quiet : goal.reopen_since-requires-clause-quiet
reopen_since-requires-clause-quiet c = c.self.invariant.1

pub invariant_of-world : goal.invariant_of-world
invariant_of-world c =
    let round : Round = c.in-Some.round in
    let asked : Asked = c.self.inside.course.demand.wanted in
    let same : c.reopen_since.new.demand.wanted ≡ asked = c.reopen_since.ensures.wanted in
    let wanted : c.open_and_begin.new.demand.wanted ≡ record asked { tasks = fold wanted_after asked.tasks round.rows } =
    c.in_ok-open_and_begin.ensures.wanted ∙ ap (λ (a : Asked). record a { tasks = fold wanted_after a.tasks round.rows }) same in
    let history : (trace : TraceTables) (rows : List Row) → asked.disks ≡ trace.disks → asked.tasks ≡ wanted_tasks rows
    → c.open_and_begin.new.cell.history ≡ (opened trace rows c.self.inside.crew.cell.history round).history =
    λ trace rows disks tasks. c.in_ok-open_and_begin.ensures.history trace rows (ap (λ (a : Asked). a.disks) same ∙ disks) (ap (λ (a : Asked). a.tasks) same ∙ tasks) in
    let next : slice_get c.self.inside.course.rounds c.self.inside.course.begun ≡ Some round = sym c.in_ok-round.ensures ∙ c.in-Some.is in
    let idle : HaveNoWork c.self.inside.crew.workers.items =
    idle_all (stage_of c.self.inside.course.settings c.self.inside.course.rounds c.self.inside.course.demand.wanted c.self.inside.course.begun c.self.inside.course.opened_at) c.self.inside.course.demand.wanted.tasks c.self.inside.crew.cell.history
    c.self.inside.crew.workers.items c.self.invariant.0 (ap (λ (w : WorldState). w.to_do) c.self.view_is ∙ c.requires.no_work) in
    let begins : BeginAll (record c.self.inside.course.demand.wanted { tasks = fold wanted_after c.self.inside.course.demand.wanted.tasks round.rows }) c.open_and_begin.new.cell.history c.self.inside.crew.workers.items c.open_and_begin.new.workers.items =
    subst (λ (a : Asked). BeginAll a c.open_and_begin.new.cell.history c.self.inside.crew.workers.items c.open_and_begin.new.workers.items) wanted c.in_ok-open_and_begin.ensures.workers in
    let quiet : OthersAreQuiet c.open_and_begin.new.demand.open_jobs c.open_and_begin.new.demand.wanted (state c.open_and_begin.new.cell.history).tasks =
    c.in_ok-open_and_begin.ensures.quiet in (
      subst (λ (h : List Entry). IsWorld (stage_of c.self.inside.course.settings c.self.inside.course.rounds c.open_and_begin.new.demand.wanted (c.self.inside.course.begun + 1) (length h)) c.open_and_begin.new.demand.wanted.tasks c.open_and_begin.new.cell.history c.open_and_begin.new.workers.items)
          (sym c.history.ensures.history)
          (subst (λ (a : Asked). IsWorld (stage_of c.self.inside.course.settings c.self.inside.course.rounds a (c.self.inside.course.begun + 1) (length c.open_and_begin.new.cell.history)) a.tasks c.open_and_begin.new.cell.history c.open_and_begin.new.workers.items)
          (sym wanted)
          (world_later c.self.inside.course.settings c.self.inside.course.rounds c.self.inside.course.demand.wanted c.self.inside.course.begun c.self.inside.course.opened_at c.self.inside.crew.cell.history c.self.inside.crew.workers.items round
          c.self.invariant.0 next c.open_and_begin.new.cell.history c.open_and_begin.new.workers.items idle history begins)),
      quiet_at_end c.open_and_begin.new.demand.open_jobs c.open_and_begin.new.demand.wanted c.open_and_begin.new.cell.history _ c.history.ensures.history quiet,
      indexes_later c.self.inside.course.settings c.self.inside.course.rounds c.self.inside.course.demand.wanted c.self.inside.course.begun c.self.inside.course.opened_at c.self.inside.crew.cell.history c.self.inside.crew.workers.items round
          c.self.invariant.0 next c.open_and_begin.new.cell.history c.open_and_begin.new.workers.items idle history begins (schedulers c.self.inside.course.settings) c.self.inside.crew.indexes.items c.self.invariant.2,
    )

pub returns-clause-run : goal.returns-clause-run
returns-clause-run c =
    let round : Round = c.in-Some.round in
    let asked : Asked = c.self.inside.course.demand.wanted in
    let same : c.reopen_since.new.demand.wanted ≡ asked = c.reopen_since.ensures.wanted in
    let wanted : c.open_and_begin.new.demand.wanted ≡ record asked { tasks = fold wanted_after asked.tasks round.rows } =
    c.in_ok-open_and_begin.ensures.wanted ∙ ap (λ (a : Asked). record a { tasks = fold wanted_after a.tasks round.rows }) same in
    let history : (trace : TraceTables) (rows : List Row) → asked.disks ≡ trace.disks → asked.tasks ≡ wanted_tasks rows
    → c.open_and_begin.new.cell.history ≡ (opened trace rows c.self.inside.crew.cell.history round).history =
    λ trace rows disks tasks. c.in_ok-open_and_begin.ensures.history trace rows (ap (λ (a : Asked). a.disks) same ∙ disks) (ap (λ (a : Asked). a.tasks) same ∙ tasks) in
    let stage = stage_of c.self.inside.course.settings c.self.inside.course.rounds c.self.inside.course.demand.wanted c.self.inside.course.begun c.self.inside.course.opened_at in
    let next : slice_get c.self.inside.course.rounds c.self.inside.course.begun ≡ Some round = sym c.in_ok-round.ensures ∙ c.in-Some.is in
    let idle : HaveNoWork c.self.inside.crew.workers.items =
    idle_all stage c.self.inside.course.demand.wanted.tasks c.self.inside.crew.cell.history
    c.self.inside.crew.workers.items c.self.invariant.0 (ap (λ (w : WorldState). w.to_do) c.self.view_is ∙ c.requires.no_work) in
    let begins : BeginAll (record c.self.inside.course.demand.wanted { tasks = fold wanted_after c.self.inside.course.demand.wanted.tasks round.rows }) c.open_and_begin.new.cell.history c.self.inside.crew.workers.items c.open_and_begin.new.workers.items =
    subst (λ (a : Asked). BeginAll a c.open_and_begin.new.cell.history c.self.inside.crew.workers.items c.open_and_begin.new.workers.items) wanted c.in_ok-open_and_begin.ensures.workers in
    let after : WorldState =
    state_at (stage_of c.self.inside.course.settings c.self.inside.course.rounds c.open_and_begin.new.demand.wanted (c.self.inside.course.begun + 1) (length c.history.result.now)) c.open_and_begin.new.cell.history c.open_and_begin.new.workers.items in
    subst (λ (w : WorldState). (trace : TraceTables) → IsInRunOf w.stage trace → OpensRound trace w after) c.self.view_is
    (λ trace made. record {
      over = nobody_works trace stage c.self.inside.course.demand.wanted.tasks c.self.inside.crew.cell.history c.self.inside.crew.workers.items c.self.invariant.0 idle made;
      begins = λ other is.
          let both : Some round ≡ Some other = sym next ∙ is in
          let same : round ≡ other = cc in
          subst (λ (r : Round). BeginsRound trace (rows_begun stage) r (world_at c.self.inside.crew.cell.history c.self.inside.crew.workers.items) (world_at c.open_and_begin.new.cell.history c.open_and_begin.new.workers.items)) same
          (begins_round c.self.inside.course.settings c.self.inside.course.rounds c.self.inside.course.demand.wanted c.self.inside.course.begun c.self.inside.course.opened_at c.self.inside.crew.cell.history c.self.inside.crew.workers.items round
          c.self.invariant.0 next c.open_and_begin.new.cell.history c.open_and_begin.new.workers.items idle history begins trace made);
    })
