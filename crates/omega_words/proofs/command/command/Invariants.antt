use Rattle.std.proofs.Common.{◌≡◌, map, drop}
use Rattle.clap.specs.Words.{app_of}
use Rattle.omega_words.specs.Taken.{app_of_choices}
use Rattle.omega_words.specs.Choices.{choice_of}
use Rattle.omega_words.proofs.Building.{with_rest}
use Rattle.omega_words.proofs.command.command.Given as goal

abbrev pub invariant-loop-choice : goal.invariant-loop-choice
invariant-loop-choice l = with_rest (app_of l.command) (drop l.choice-index l.choices) ≡ app_of_choices (map choice_of l.fn.choices)
