-- How many attempts a scheduler can still make in a round.
use Rattle.std.specs.Prelude.{ℕ, ◌*◌, ◌-◌, length}
use Rattle.omega_model.specs.Work.{Standing}
use Rattle.omega_model.specs.declared.settings.Settings.{Settings}

-- so many tries for each request that remains, without those that the first of them has had
abbrev pub attempts_left : Settings → Standing → ℕ
attempts_left settings standing = length standing.requests * settings.tries - standing.taken
