use Rattle.std.proofs.Common.{refl}
use Rattle.omega_words.specs.Built.{built_words}
use Rattle.omega_words.proofs.choices.commands.Goals as goal

pub returns : goal.returns
unfolding built_words
returns c = refl
