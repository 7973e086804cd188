use Rattle.std.proofs.Common.{List, Option, ℕ, ap, subst}
use Rattle.std.proofs.lemmas.Result.{err_from_is_err_and}
use Rattle.omega_keep.specs.Keeping.{Adds}
use Rattle.omega_model.specs.Lawful.{Lawful}
use Rattle.omega_rounds.specs.Resuming.{LeavesKept, lines_behind}
use Rattle.omega_rounds.specs.Stages.{Stage}
use Rattle.omega_top.proofs.GoneOn.{keeps_whole, stops_from, stops_whole}
use Rattle.omega_top.proofs.NewWorlds.{in_run, is_over}
use Rattle.omega_top.proofs.Clocks.{resume_not_free}
use Rattle.omega_top.proofs.Ordering.{by_resume}
use Rattle.omega_top.proofs.TellingTimes.{nothing_told}
use Rattle.omega_top.proofs.resuming.resumed.Goals as goal

pub returns-in_err-world-clause-refused : goal.returns-in_err-world-clause-refused
returns-in_err-world-clause-refused g c =
    let p = err_from_is_err_and c.from_residual-in_err-world.result c.from_residual-in_err-world.ensures.1 in
    let refusal = c.in_err-world.field-0.0 in
    let now = g.P.Keeper.kept c.resume_turns.new.keeper in
    rw (p.1, p.2) (stops_from c.args.input.settings c.args.input.trace c.in-Ok.world.stage c.in-Ok.ensures.stage (g.P.Keeper.kept c.args.keeper.now) now c.in_ok-kept.kept
    c.in_ok-kept.ensures.lines refusal c.in_err-world.ensures.refused
    (subst (λ (list : Option (List (List ℕ))). LeavesKept c.in-Ok.world.stage c.in_ok-kept.kept list now refusal) c.load.ensures.list c.in_err-world.ensures.rounds))

pub returns-in-Ok-whole_run-clause-kept : goal.returns-in-Ok-whole_run-clause-kept
returns-in-Ok-whole_run-clause-kept g c =
    let now = g.P.Keeper.kept c.resume_turns.new.keeper in
    let history = c.in_ok-world.world.history in
    rw c.in-Ok-whole_run.ensures.history (keeps_whole (g.P.Keeper.kept c.args.keeper.now) now c.in_ok-kept.kept history c.in_ok-kept.ensures.lines c.in_ok-world.ensures.agreed
    (subst (λ (list : Option (List (List ℕ))). Adds (lines_behind c.in_ok-kept.kept history) list now) c.load.ensures.list c.in_ok-world.ensures.kept))

pub returns-clause-refused : goal.returns-clause-refused
returns-clause-refused g c =
    let settings = c.args.input.settings in
    let trace = c.args.input.trace in
    let now = g.P.Keeper.kept c.resume_turns.new.keeper in
    let history = c.in_ok-world.world.history in
    let new = c.in-Ok.ensures.stage in
    let made = in_run settings trace c.in-Ok.world.stage new in
    stops_whole settings trace (g.P.Keeper.kept c.args.keeper.now) now history
    (keeps_whole (g.P.Keeper.kept c.args.keeper.now) now c.in_ok-kept.kept history c.in_ok-kept.ensures.lines c.in_ok-world.ensures.agreed
    (subst (λ (list : Option (List (List ℕ))). Adds (lines_behind c.in_ok-kept.kept history) list now) c.load.ensures.list c.in_ok-world.ensures.kept))
    (subst (λ (stage : Stage). Lawful stage.settings trace history) new (c.in_ok-world.ensures.lawful trace made))
    c.in_ok-world.ensures.turns

pub returns-in-Ok-whole_run-clause-run : goal.returns-in-Ok-whole_run-clause-run
returns-in-Ok-whole_run-clause-run g c =
    let settings = c.args.input.settings in
    let trace = c.args.input.trace in
    let new = c.in-Ok.ensures.stage in
    let made = in_run settings trace c.in-Ok.world.stage new in
    let run = c.in_ok-world.ensures in
    c.in-Ok-whole_run.ensures.run settings trace (resume_not_free settings c.requires.command)
    (is_over settings trace c.in-Ok.world.stage c.in_ok-world.world (ap (λ (at : Stage). at.settings) new) made run.source run.settings run.last (run.lawful trace made)
    (by_resume settings.command _ trace _ c.requires.command run.turns))
    (nothing_told settings trace _ settings.command c.requires.command)
