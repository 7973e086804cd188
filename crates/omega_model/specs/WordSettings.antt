-- The settings that texts give: each option's value, or its default where no text is given.
use Rattle.std.specs.Prelude.{ℕ, Bool, false, List, Option, None, codes, unwrap_or, if◌then◌else◌}
use Rattle.std.specs.Option.{option_and_then, option_map_or}
use Rattle.std.specs.Str.{bytes_eq}
use Rattle.omega_model.specs.Options.{Values, a_number, choice_at, dashed, number_from, whole_table}
use Rattle.omega_model.specs.PlainWords.{text_given}
use Rattle.omega_model.specs.declared.claims.Mode.{Mode}
use Rattle.omega_model.specs.declared.claims.Mode.TheVariants.{Incremental, Gang}
use Rattle.omega_model.specs.declared.claims.Rule.{Rule}
use Rattle.omega_model.specs.declared.claims.Rule.TheVariants.{Fine, Coarse}
use Rattle.omega_model.specs.declared.settings.Clock.{Clock}
use Rattle.omega_model.specs.declared.settings.Clock.TheVariants as clock
use Rattle.omega_model.specs.declared.settings.Command.{Command}
use Rattle.omega_model.specs.declared.settings.Command.TheVariants.{Replay, Run, Generate, Simulate, Resume, Audit}
use Rattle.omega_model.specs.declared.settings.Ends.{Ends}
use Rattle.omega_model.specs.declared.settings.Ends.TheVariants.{Trace, Own}
use Rattle.omega_model.specs.declared.settings.Extra.{Extra}
use Rattle.omega_model.specs.declared.settings.Extra.TheVariants.{Max, Cap, Relative}
use Rattle.omega_model.specs.declared.settings.Format.{Format}
use Rattle.omega_model.specs.declared.settings.Format.TheVariants as format
use Rattle.omega_model.specs.declared.settings.Preempt.{Preempt}
use Rattle.omega_model.specs.declared.settings.Preempt.TheVariants.{Nobody, Service, All}
use Rattle.omega_model.specs.declared.settings.Settings.{Settings}

-- the number that a text writes, where the values are numbers and it is one of them
abbrev pub number_in : Values → List ℕ → Option ℕ
number_in (a_number low high) text = number_from low high text
number_in _ text = None

-- the number that a text writes as a value of the option of this name
abbrev pub number_named : List ℕ → List ℕ → Option ℕ
number_named name text =
    option_and_then (λ option. number_in option.values text) (choice_at whole_table (dashed name))

-- the number that is given to the option of this name, or its default
abbrev pub number_given : (List ℕ → Option (List ℕ)) → List ℕ → ℕ → ℕ
number_given texts name default = unwrap_or (option_and_then (number_named name) (texts name)) default

-- whether there is a text and it is this one
abbrev pub is_text : List ℕ → Option (List ℕ) → Bool
is_text name text = option_map_or (λ given. bytes_eq given name) text false

-- what each word says; no text, as any other text, stands for the default
abbrev pub command_of : Option (List ℕ) → Command
command_of text =
    if is_text (codes "run") text then Run
    else (if is_text (codes "generate") text then Generate
    else (if is_text (codes "simulate") text then Simulate
    else (if is_text (codes "resume") text then Resume
    else (if is_text (codes "audit") text then Audit else Replay))))

abbrev pub rule_of : Option (List ℕ) → Rule
rule_of text = if is_text (codes "coarse") text then Coarse else Fine

abbrev pub mode_of : Option (List ℕ) → Mode
mode_of text = if is_text (codes "gang") text then Gang else Incremental

abbrev pub preempt_of : Option (List ℕ) → Preempt
preempt_of text =
    if is_text (codes "service") text then Service else (if is_text (codes "all") text then All else Nobody)

-- with the percentage that another option says
abbrev pub extra_of : ℕ → Option (List ℕ) → Extra
extra_of percent text =
    if is_text (codes "max") text then Max else (if is_text (codes "cap") text then Cap percent else Relative)

abbrev pub format_of : Option (List ℕ) → Format
format_of text = if is_text (codes "json") text then format.Json else format.Text

abbrev pub clock_of : Option (List ℕ) → Clock
clock_of text = if is_text (codes "free") text then clock.Free else clock.Rounds

abbrev pub ends_of : Option (List ℕ) → Ends
ends_of text = if is_text (codes "own") text then Own else Trace

-- the settings, where `texts` has the text that each option is given
abbrev pub settings_by : (List ℕ → Option (List ℕ)) → Settings
settings_by texts = record {
  command = command_of (texts (codes "command"));
  seed = number_given texts (codes "seed") 0;
  batch = number_given texts (codes "batch") 1;
  rule = rule_of (texts (codes "rule"));
  mode = mode_of (texts (codes "mode"));
  preempt = preempt_of (texts (codes "preempt"));
  extra = extra_of (number_given texts (codes "cap") 60) (texts (codes "extra"));
  tries = number_given texts (codes "tries") 5;
  give_up = number_given texts (codes "give-up") 1000;
  window = number_given texts (codes "window") 300000000;
  format = format_of (texts (codes "format"));
  machines = number_given texts (codes "machines") 64;
  jobs = number_given texts (codes "jobs") 500;
  t_job = number_given texts (codes "t-job") 100000;
  t_task = number_given texts (codes "t-task") 5000;
  service_t_job = number_given texts (codes "service-t-job") (number_given texts (codes "t-job") 100000);
  service_t_task = number_given texts (codes "service-t-task") (number_given texts (codes "t-task") 5000);
  clock = clock_of (texts (codes "clock"));
  times = is_text (codes "yes") (texts (codes "times"));
  ends = ends_of (texts (codes "ends"));
}

-- the folder of the tables
abbrev pub folder_by : (List ℕ → Option (List ℕ)) → List ℕ
folder_by texts = unwrap_or (texts (codes "tables")) (codes ".")

-- the path of what is kept
abbrev pub kept_by : (List ℕ → Option (List ℕ)) → List ℕ
kept_by texts = unwrap_or (texts (codes "kept")) (codes "omega.db")

-- the settings, the folder and the path of what is kept, of plain words
abbrev pub settings_of : List (List ℕ) → Settings
settings_of words = settings_by (text_given words)

abbrev pub folder_of : List (List ℕ) → List ℕ
folder_of words = folder_by (text_given words)

abbrev pub kept_of : List (List ℕ) → List ℕ
kept_of words = kept_by (text_given words)

-- the settings where nothing is given
abbrev pub default_settings : Settings
default_settings = settings_by (λ _. None)
