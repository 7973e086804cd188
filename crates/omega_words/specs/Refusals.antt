-- Refused words as the end of a run.
use Rattle.omega_model.specs.declared.results.Status.{Status}
use Rattle.omega_model.specs.declared.results.Status.TheVariants as status
use Rattle.omega_words.specs.declared.WordsRefusal.{WordsRefusal}
use Rattle.omega_words.specs.declared.WordsRefusal.TheVariants.{Usage, NoMemory}

-- the status by which a run ends after a refusal of its words
abbrev pub status_of : WordsRefusal → Status
status_of Usage = status.Usage
status_of NoMemory = status.NoMemory
