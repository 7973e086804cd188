-- How many schedulers there are, and how each of them works.
use Rattle.std.specs.Prelude.{ℕ, Bool, true, false, ◌+◌, ◌==◌, if◌then◌else◌}
use Rattle.omega_model.specs.declared.claims.Mode.TheVariants.{Incremental}
use Rattle.omega_model.specs.declared.claims.Policy.{Policy}
use Rattle.omega_model.specs.declared.settings.Preempt.{Preempt}
use Rattle.omega_model.specs.declared.settings.Preempt.TheVariants.{Nobody, Service, All}
use Rattle.omega_model.specs.declared.settings.Settings.{Settings}

-- one scheduler for services, the batch ones, and one for MapReduce
abbrev pub schedulers : Settings → ℕ
schedulers settings = settings.batch + 2

-- whether a scheduler may evict tasks
abbrev pub may_preempt : Preempt → ℕ → Bool
may_preempt Nobody scheduler = false
may_preempt Service scheduler = scheduler == 0
may_preempt All scheduler = true

-- MapReduce transactions are always incremental; all else is as the settings say
abbrev pub policy_of : Settings → ℕ → Policy
policy_of settings scheduler = record {
  rule = settings.rule;
  mode = (if scheduler == settings.batch + 1 then Incremental else settings.mode);
  preempt = may_preempt settings.preempt scheduler;
}
