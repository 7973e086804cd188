use Rattle.std.proofs.Common.{ap, take, ◌∙◌}
use Rattle.omega_feed.proofs.Quiet.{all_quiet}
use Rattle.omega_feed.specs.Asked.{Asked}
use Rattle.omega_feed.specs.Rounds.{gathered}
use Rattle.omega_model.specs.Policy.{schedulers}
use Rattle.omega_model.specs.State.{state}
use Rattle.omega_rounds.proofs.NewWorkers.{is_new, nothing_to_do, world_new}
use Rattle.omega_rounds.proofs.world.World.new.Goals as goal

pub invariant_of-result : goal.invariant_of-result
invariant_of-result c = (
  world_new c.args.settings.now c.args.tables c.in_ok-rounds.rounds c.in_ok-events.wanted c.new.result.history c.in_ok-workers.workers.items c.requires
      (c.in_ok-rounds.ensures ∙ ap (gathered c.args.settings.now.window) c.in_ok-events.ensures.events) c.in_ok-events.ensures.wanted c.new.ensures c.in_ok-workers.ensures,
  all_quiet c.new-open_jobs.result c.in_ok-events.wanted (state (take 0 c.new.result.history)).tasks (ap (λ (asked : Asked). asked.tasks) c.in_ok-events.ensures.wanted),
  c.in_ok-indexes.ensures c.new.result.history,
)

pub returns-clause-is_new : goal.returns-clause-is_new
returns-clause-is_new c =
    is_new c.args.settings.now (schedulers c.args.settings.now) c.new.result.history c.in_ok-workers.workers.items c.new.ensures c.in_ok-workers.ensures

pub returns-clause-to_do : goal.returns-clause-to_do
returns-clause-to_do c = nothing_to_do c.args.settings.now (schedulers c.args.settings.now) c.in_ok-workers.workers.items c.in_ok-workers.ensures
