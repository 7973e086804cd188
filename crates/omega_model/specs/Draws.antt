-- Where a plan begins to look: a word of its scheduler's generator, taken into the list of machines.
use Rattle.std.specs.Prelude.{ℕ, ◌==◌, ◌%◌, if◌then◌else◌}
use Rattle.rand_pcg.specs.Lcg.{Lcg, started, increment_of, advance}
use Rattle.rand_pcg.specs.Pcg.{multiplier_64, pcg32}
use Rattle.omega_model.specs.declared.settings.Settings.{Settings}

-- the generator `Lcg64Xsh32` of a seed and a stream, when it is new
abbrev pub new_generator : ℕ → ℕ → Lcg
new_generator seed stream = started 64 multiplier_64 seed (increment_of 64 stream)

-- the word of this number, from 0, of a generator
abbrev pub word_at : Lcg → ℕ → ℕ
word_at generator number = (pcg32 (advance 64 multiplier_64 number generator)).0

-- a word as a place in a list of so many machines; 0 where it has none
abbrev pub place_in_list : ℕ → ℕ → ℕ
place_in_list word machines = if machines == 0 then 0 else word % machines

-- the place in the list of machines at which a scheduler's attempt of this number, from 0, begins
abbrev pub drawn_start : Settings → ℕ → ℕ → ℕ → ℕ
drawn_start settings scheduler attempt machines =
    place_in_list (word_at (new_generator settings.seed scheduler) attempt) machines
