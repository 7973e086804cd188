use Rattle.std.proofs.Common.{◌∙◌, ◌≡◌, true, List, drop, take, refl, sym, ap, subst, arith}
use Rattle.std.specs.Prelude.{All}
use Rattle.std.proofs.lemmas.List.Elements.{All-nil}
use Rattle.omega_feed.proofs.Cutting.{rounds_have}
use Rattle.omega_feed.proofs.Quiet.{all_quiet}
use Rattle.omega_feed.specs.Asked.{Asked}
use Rattle.omega_feed.specs.Rounds.{gathered}
use Rattle.omega_model.specs.Lawful.{rows_of}
use Rattle.omega_model.specs.State.{state}
use Rattle.omega_model.specs.Touches.{is_commit}
use Rattle.omega_model.specs.declared.entries.Entry.{Entry}
use Rattle.omega_free.proofs.FreeWorlds.{begins, none_first}
use Rattle.omega_free.proofs.world.World.new.Goals as goal

pub returns-clause-stands : goal.returns-clause-stands
returns-clause-stands c = record {
  stands = begins c.args.settings.now c.args.tables _ c.new.ensures c.in_ok-events.ensures.wanted
      (c.in_ok-rounds.ensures ∙ ap (gathered c.args.settings.now.window) c.in_ok-events.ensures.events) refl c.new-3.ensures
      c.in_ok-workers.ensures.count c.in_ok-workers.ensures.new;
  keeps = record {
    range = c.requires;
    next = c.in_ok-next.ensures;
    within = omega arith;
    commits = subst (λ (h : List Entry). All (λ entry. is_commit entry ≡ true) (drop 0 h)) (sym c.new.ensures) (All-nil (λ entry. is_commit entry ≡ true));
    quiet = all_quiet c.new-open_jobs.result c.in_ok-events.wanted (state (take 0 c.new.result.history)).tasks (ap (λ (asked : Asked). asked.tasks) c.in_ok-events.ensures.wanted);
    indexes = c.new-2.ensures c.new.result.history;
  };
  rounds = c.in_ok-rounds.ensures ∙ ap (gathered c.args.settings.now.window) c.in_ok-events.ensures.events;
  ends = c.in_ok-own.ensures c.args.tables
      (ap rows_of (c.in_ok-rounds.ensures ∙ ap (gathered c.args.settings.now.window) c.in_ok-events.ensures.events)
      ∙ rounds_have c.args.tables c.args.settings.now.window c.requires.window.0);
  due = none_first c.args.settings.now.ends c.args.tables;
}
