-- The ranges of the settings.
use Rattle.std.specs.Prelude.{ℕ, ◌≤◌, ⊤}
use Rattle.omega_model.specs.declared.settings.Extra.{Extra}
use Rattle.omega_model.specs.declared.settings.Extra.TheVariants.{Max, Cap, Relative}
use Rattle.omega_model.specs.declared.settings.Settings.{Settings}

-- a percentage is at most 100
abbrev pub IsPercentage : Extra → Type 0
IsPercentage Max = ⊤
IsPercentage Relative = ⊤
IsPercentage (Cap percent) = percent ≤ 100

-- a number lies from one bound up to another
abbrev pub IsFrom : ℕ → ℕ → ℕ → Type 0
IsFrom low high number = (low ≤ number) × (number ≤ high)

-- the settings are such as the words can say
pub record IsInRange (settings : Settings) : Type 0 where
  pub batch : IsFrom 1 30 settings.batch
  pub extra : IsPercentage settings.extra
  pub tries : IsFrom 1 100 settings.tries
  pub give_up : IsFrom 1 1000 settings.give_up
  pub window : IsFrom 1 1099511627776 settings.window
  pub machines : settings.machines ≤ 4096
  pub jobs : settings.jobs ≤ 20000
  pub t_job : settings.t_job ≤ 1000000000
  pub t_task : settings.t_task ≤ 1000000000
  pub service_t_job : settings.service_t_job ≤ 1000000000
  pub service_t_task : settings.service_t_task ≤ 1000000000
