-- Runs of some trace.
use Rattle.std.proofs.Common.{◌≡◌, ℕ, List, [], Option, arith}
use Rattle.omega_model.specs.Limits.{IsWithinLimits}
use Rattle.omega_model.specs.Trace.{no_rows}
use Rattle.omega_model.specs.declared.results.Status.TheVariants.{NoMemory}
use Rattle.omega_model.specs.declared.settings.Settings.{Settings}
use Rattle.omega_tables.specs.Reading.{status_of}
use Rattle.omega_tables.specs.declared.refusal.ReadRefusal.{ReadRefusal}
use Rattle.omega_tables.specs.declared.refusal.ReadRefusal.TheVariants.{Fault, TooLong as Long, BadRow as Bad, TooMany as Many, NoMemory as Memory}
use Rattle.omega_top.specs.Answers.{IsSomeRun}
use Rattle.omega_top.specs.FreeAnswers.{IsSomeFreeRun}

-- a trace without rows is within the limits
pub no_rows-within : IsWithinLimits no_rows
no_rows-within = record { rows = omega arith; machines = omega arith }

-- a run that a refusal of the reading ends is one of a trace without rows
pub refused_run : (settings : Settings) (refusal : ReadRefusal) (before now : Option (List ℕ)) → now ≡ before
    → IsSomeRun settings [] (status_of refusal) before now
refused_run settings (Fault table) before now stays = record { trace = no_rows; within = no_rows-within; whole = tt; ordered = tt; written = record { report = []; is_report = tt; written = stays } }
refused_run settings (Long table) before now stays = record { trace = no_rows; within = no_rows-within; whole = tt; ordered = tt; written = record { report = []; is_report = tt; written = stays } }
refused_run settings (Bad table row column cause) before now stays = record { trace = no_rows; within = no_rows-within; whole = tt; ordered = tt; written = record { report = []; is_report = tt; written = stays } }
refused_run settings (Many kind number) before now stays = record { trace = no_rows; within = no_rows-within; whole = tt; ordered = tt; written = record { report = []; is_report = tt; written = stays } }
refused_run settings Memory before now stays = record { trace = no_rows; within = no_rows-within; whole = tt; ordered = tt; written = record { report = []; is_report = tt; written = stays } }

-- so is one that want of memory ends before the reading
pub no_memory_run : (settings : Settings) (before now : Option (List ℕ)) → now ≡ before → IsSomeRun settings [] NoMemory before now
no_memory_run settings before now stays = record { trace = no_rows; within = no_rows-within; whole = tt; ordered = tt; written = record { report = []; is_report = tt; written = stays } }

-- the same by the free clock
pub refused_free_run : (settings : Settings) (refusal : ReadRefusal) (before now : Option (List ℕ)) → now ≡ before
    → IsSomeFreeRun settings [] (status_of refusal) before now
refused_free_run settings (Fault table) before now stays = record { trace = no_rows; within = no_rows-within; laws = tt; written = record { report = []; is_report = tt; written = stays } }
refused_free_run settings (Long table) before now stays = record { trace = no_rows; within = no_rows-within; laws = tt; written = record { report = []; is_report = tt; written = stays } }
refused_free_run settings (Bad table row column cause) before now stays = record { trace = no_rows; within = no_rows-within; laws = tt; written = record { report = []; is_report = tt; written = stays } }
refused_free_run settings (Many kind number) before now stays = record { trace = no_rows; within = no_rows-within; laws = tt; written = record { report = []; is_report = tt; written = stays } }
refused_free_run settings Memory before now stays = record { trace = no_rows; within = no_rows-within; laws = tt; written = record { report = []; is_report = tt; written = stays } }

pub no_memory_free_run : (settings : Settings) (before now : Option (List ℕ)) → now ≡ before → IsSomeFreeRun settings [] NoMemory before now
no_memory_free_run settings before now stays = record { trace = no_rows; within = no_rows-within; laws = tt; written = record { report = []; is_report = tt; written = stays } }
