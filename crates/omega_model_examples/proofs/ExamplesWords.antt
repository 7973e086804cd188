-- Worked words: which are plain, and which settings they give.
use Rattle.std.proofs.Common.{◌≡◌, List, ℕ, [], ◌∷◌, true, false, refl, codes}
use Rattle.omega_model.specs.Options.{WordTable, choice, is_value, whole_table, a_number, a_path}
use Rattle.omega_model.specs.PlainWords.{is_plain, is_plain_value}
use Rattle.omega_model.specs.WordSettings.{default_settings, folder_of, kept_of, settings_of}
use Rattle.omega_model.specs.declared.claims.Mode.TheVariants.{Incremental, Gang}
use Rattle.omega_model.specs.declared.claims.Rule.TheVariants.{Fine, Coarse}
use Rattle.omega_model.specs.declared.settings.Clock.TheVariants as clock
use Rattle.omega_model.specs.declared.settings.Command.TheVariants.{Replay, Run, Generate, Audit}
use Rattle.omega_model.specs.declared.settings.Ends.TheVariants as ends
use Rattle.omega_model.specs.declared.settings.Extra.TheVariants.{Cap, Relative}
use Rattle.omega_model.specs.declared.settings.Format.TheVariants as format
use Rattle.omega_model.specs.declared.settings.Preempt.TheVariants.{Nobody, All}

-- ---- words that are plain

command_alone : is_plain whole_table (codes "replay" ∷ []) ≡ true
command_alone = refl

with_options : is_plain whole_table (codes "generate" ∷ codes "--jobs" ∷ codes "20000" ∷ codes "--seed" ∷ codes "007" ∷ []) ≡ true
with_options = refl

greatest_seed : is_plain whole_table (codes "run" ∷ codes "--seed" ∷ codes "18446744073709551615" ∷ []) ≡ true
greatest_seed = refl

odd_folder : is_plain whole_table (codes "run" ∷ codes "--tables" ∷ codes "a --seed" ∷ []) ≡ true
odd_folder = refl

-- ---- and words that aren't

no_words : is_plain whole_table [] ≡ false
no_words = refl

no_command : is_plain whole_table (codes "--seed" ∷ codes "5" ∷ []) ≡ false
no_command = refl

two_commands : is_plain whole_table (codes "replay" ∷ codes "run" ∷ []) ≡ false
two_commands = refl

other_command : is_plain whole_table (codes "help" ∷ []) ≡ false
other_command = refl

command_behind : is_plain whole_table (codes "--seed" ∷ codes "5" ∷ codes "replay" ∷ []) ≡ false
command_behind = refl

twice : is_plain whole_table (codes "run" ∷ codes "--seed" ∷ codes "1" ∷ codes "--seed" ∷ codes "1" ∷ []) ≡ false
twice = refl

other_option : is_plain whole_table (codes "run" ∷ codes "--speed" ∷ codes "1" ∷ []) ≡ false
other_option = refl

no_value : is_plain whole_table (codes "run" ∷ codes "--batch" ∷ []) ≡ false
no_value = refl

joined : is_plain whole_table (codes "run" ∷ codes "--seed=5" ∷ []) ≡ false
joined = refl

too_small : is_plain whole_table (codes "run" ∷ codes "--batch" ∷ codes "0" ∷ []) ≡ false
too_small = refl

too_great : is_plain whole_table (codes "run" ∷ codes "--batch" ∷ codes "31" ∷ []) ≡ false
too_great = refl

too_great_seed : is_plain whole_table (codes "run" ∷ codes "--seed" ∷ codes "18446744073709551616" ∷ []) ≡ false
too_great_seed = refl

sign : is_plain whole_table (codes "run" ∷ codes "--seed" ∷ codes "+5" ∷ []) ≡ false
sign = refl

blank : is_plain whole_table (codes "run" ∷ codes "--seed" ∷ codes "5 " ∷ []) ≡ false
blank = refl

nothing : is_plain whole_table (codes "run" ∷ codes "--seed" ∷ [] ∷ []) ≡ false
nothing = refl

long : is_plain whole_table (codes "run" ∷ codes "--seed" ∷ codes "0000000000000000000000000000000000000005" ∷ []) ≡ false
long = refl

other_name : is_plain whole_table (codes "run" ∷ codes "--rule" ∷ codes "loose" ∷ []) ≡ false
other_name = refl

-- a folder that is empty or looks like an option is a value, but not of plain words
empty_folder : is_plain_value a_path [] ≡ false
empty_folder = refl

hyphen : is_plain whole_table (codes "run" ∷ codes "--tables" ∷ codes "-x" ∷ []) ≡ false
hyphen = refl

any_folder : is_value a_path (codes "-x") ≡ true
any_folder = refl

-- ---- another table

-- one command, and one option
abbrev small : WordTable
small = record { commands = codes "replay" ∷ []; choices = choice (codes "seed") (a_number 0 9) ∷ [] }

in_table : is_plain small (codes "replay" ∷ codes "--seed" ∷ codes "5" ∷ []) ≡ true
in_table = refl

command_of_another : is_plain small (codes "run" ∷ []) ≡ false
command_of_another = refl

option_of_another : is_plain small (codes "replay" ∷ codes "--batch" ∷ codes "5" ∷ []) ≡ false
option_of_another = refl

-- ---- settings

the_defaults : default_settings ≡ record {
  command = Replay;
  seed = 0;
  batch = 1;
  rule = Fine;
  mode = Incremental;
  preempt = Nobody;
  extra = Relative;
  tries = 5;
  give_up = 1000;
  window = 300000000;
  format = format.Text;
  machines = 64;
  jobs = 500;
  t_job = 100000;
  t_task = 5000;
  service_t_job = 100000;
  service_t_task = 5000;
  clock = clock.Rounds;
  times = false;
  ends = ends.Trace;
}
the_defaults = refl

of_another_command : settings_of (codes "audit" ∷ []) ≡ record default_settings { command = Audit }
of_another_command = refl

of_a_command : settings_of (codes "generate" ∷ []) ≡ record default_settings { command = Generate }
of_a_command = refl

-- the values of all options
abbrev many : List (List ℕ)
many =
    codes "run" ∷ codes "--service-t-task" ∷ codes "15" ∷ codes "--t-job" ∷ codes "16" ∷ codes "--kept" ∷ codes "kept.db" ∷ codes "--jobs" ∷ codes "7" ∷ codes "--machines" ∷ codes "8" ∷ codes "--format" ∷ codes "json"
    ∷ codes "--window" ∷ codes "9" ∷ codes "--give-up" ∷ codes "10" ∷ codes "--tries" ∷ codes "11" ∷ codes "--cap" ∷ codes "12"
    ∷ codes "--extra" ∷ codes "cap" ∷ codes "--preempt" ∷ codes "all" ∷ codes "--mode" ∷ codes "gang" ∷ codes "--rule"
    ∷ codes "coarse" ∷ codes "--batch" ∷ codes "13" ∷ codes "--seed" ∷ codes "14" ∷ codes "--tables" ∷ codes "data"
    ∷ codes "--times" ∷ codes "yes" ∷ codes "--clock" ∷ codes "free" ∷ codes "--ends" ∷ codes "own" ∷ []

of_many : settings_of many ≡ record {
  command = Run;
  seed = 14;
  batch = 13;
  rule = Coarse;
  mode = Gang;
  preempt = All;
  extra = Cap 12;
  tries = 11;
  give_up = 10;
  window = 9;
  format = format.Json;
  machines = 8;
  jobs = 7;
  t_job = 16;
  t_task = 5000;
  service_t_job = 16;
  service_t_task = 15;
  clock = clock.Free;
  times = true;
  ends = ends.Own;
}
of_many = refl

many_are_plain : is_plain whole_table many ≡ true
many_are_plain = refl

folder_of_many : folder_of many ≡ codes "data"
folder_of_many = refl

kept_of_many : kept_of many ≡ codes "kept.db"
kept_of_many = refl

default_kept : kept_of (codes "resume" ∷ []) ≡ codes "omega.db"
default_kept = refl

default_folder : folder_of (codes "run" ∷ []) ≡ codes "."
default_folder = refl
