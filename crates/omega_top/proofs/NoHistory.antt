-- What holds of the history without entries.
use Rattle.std.proofs.Common.{[]}
use Rattle.std.proofs.lemmas.Option.{none-some}
use Rattle.omega_model.specs.Legal.{Legal}
use Rattle.omega_model.specs.Turns.{InTurns}
use Rattle.omega_top.proofs.Runs.{sound_of}
use Rattle.omega_top.specs.SoundHistory.{IsSoundHistory}

legal_empty : Legal []
legal_empty place entry is = absurd (none-some entry is)

pub turns_empty : InTurns []
turns_empty place entry is = absurd (none-some entry is)

pub sound_empty : IsSoundHistory []
sound_empty = sound_of [] legal_empty
