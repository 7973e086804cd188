use Rattle.omega_model.specs.declared.settings.Command.TheVariants.{Replay}
use Rattle.omega_laws.proofs.AnyCommand.{lawful_back, lawful_too, resume_prints}
use Rattle.omega_laws.proofs.commands.resumed_runs_are_replays.Goals as goal

pub returns-clause-lawful : goal.returns-clause-lawful
returns-clause-lawful c settings = lawful_too settings Replay

pub returns-clause-no_more : goal.returns-clause-no_more
returns-clause-no_more c settings = lawful_back settings Replay

pub returns-clause-report : goal.returns-clause-report
returns-clause-report c = resume_prints
