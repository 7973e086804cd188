use Rattle.std.proofs.Common.{ap, sym, ◌∙◌}
use Rattle.std.specs.List.{list_any}
use Rattle.omega_model.specs.Wanted.{is_named}
use Rattle.omega_feed.proofs.Parts.{named_in_part}
use Rattle.omega_feed.proofs.tasks.WantedTasks.contains.Goals as goal

pub returns-in-Some : goal.returns-in-Some
returns-in-Some c = c.contains.ensures ∙ ap (list_any (is_named c.args.key)) c.in-Some.ensures.part ∙ named_in_part c.args.key c.args.self.now

pub returns-in-None : goal.returns-in-None
returns-in-None c = sym (sym (named_in_part c.args.key c.args.self.now) ∙ ap (list_any (is_named c.args.key)) c.in-None.ensures.none)
