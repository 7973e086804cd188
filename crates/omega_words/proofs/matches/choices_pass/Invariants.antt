use Rattle.std.proofs.Common.{◌≡◌, drop, map}
use Rattle.clap.specs.Words.{found_of, rows_of}
use Rattle.omega_words.specs.Choices.{choice_of, texts_of}
use Rattle.omega_words.specs.Taken.{are_values}
use Rattle.omega_words.proofs.matches.choices_pass.Given as goal

abbrev pub invariant-loop-choice : goal.invariant-loop-choice
invariant-loop-choice l = are_values (map choice_of (drop l.choice-index l.choices)) (texts_of (rows_of (found_of l.fn.matches))) ≡ are_values (map choice_of l.fn.choices) (texts_of (rows_of (found_of l.fn.matches)))
