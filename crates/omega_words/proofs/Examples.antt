-- Worked words: which are taken, and what is read of them.
use Rattle.std.proofs.Common.{◌≡◌, [], ◌∷◌, true, false, refl, codes}
use Rattle.clap.proofs.OnLiterals.{clap_on_literals}
use Rattle.omega_model.specs.Options.{whole_table}
use Rattle.omega_model.specs.PlainWords.{is_plain}
use Rattle.omega_model.specs.WordSettings.{default_settings}
use Rattle.omega_model.specs.declared.claims.Rule.TheVariants.{Coarse}
use Rattle.omega_model.specs.declared.settings.Clock.TheVariants as clock
use Rattle.omega_model.specs.declared.settings.Command.TheVariants.{Audit, Generate, Resume, Run, Simulate}
use Rattle.omega_model.specs.declared.settings.Ends.TheVariants.{Own}
use Rattle.omega_words.specs.Built.{built_words}
use Rattle.omega_words.specs.Taken.{folder_in, is_taken, kept_in, settings_in}
use Rattle.omega_words.proofs.Sound.{is_sound}

whole_is_sound : is_sound whole_table ≡ true
whole_is_sound = refl

-- ---- the commands

run_is_taken : is_taken built_words (codes "run" ∷ []) ≡ true
unfolding built_words clap_on_literals
run_is_taken = refl

of_run : settings_in built_words (codes "run" ∷ codes "--rule=coarse" ∷ []) ≡ record default_settings { command = Run; rule = Coarse }
unfolding built_words clap_on_literals
of_run = refl

of_resume : settings_in built_words (codes "resume" ∷ codes "--rule" ∷ codes "coarse" ∷ []) ≡ record default_settings { command = Resume; rule = Coarse }
unfolding built_words clap_on_literals
of_resume = refl

other_command : is_taken built_words (codes "resumed" ∷ []) ≡ false
unfolding built_words clap_on_literals
other_command = refl

-- ---- decision times

services_decide_as_others : settings_in built_words (codes "simulate" ∷ codes "--t-job" ∷ codes "7" ∷ codes "--service-t-task=9" ∷ [])
    ≡ record default_settings { command = Simulate; t_job = 7; service_t_job = 7; service_t_task = 9 }
unfolding built_words clap_on_literals
services_decide_as_others = refl

too_long_a_decision : is_taken built_words (codes "simulate" ∷ codes "--t-task" ∷ codes "1000000001" ∷ []) ≡ false
unfolding built_words clap_on_literals
too_long_a_decision = refl

-- ---- the clock and its times

of_the_free_clock : settings_in built_words (codes "simulate" ∷ codes "--clock=free" ∷ codes "--times" ∷ codes "yes" ∷ [])
    ≡ record default_settings { command = Simulate; clock = clock.Free; times = true }
unfolding built_words clap_on_literals
of_the_free_clock = refl

other_clock : is_taken built_words (codes "simulate" ∷ codes "--clock" ∷ codes "rounded" ∷ []) ≡ false
unfolding built_words clap_on_literals
other_clock = refl

-- ---- how tasks end

of_own_ends : settings_in built_words (codes "simulate" ∷ codes "--ends" ∷ codes "own" ∷ []) ≡ record default_settings { command = Simulate; ends = Own }
unfolding built_words clap_on_literals
of_own_ends = refl

of_ends_of_the_trace : settings_in built_words (codes "simulate" ∷ codes "--ends=trace" ∷ []) ≡ record default_settings { command = Simulate }
unfolding built_words clap_on_literals
of_ends_of_the_trace = refl

other_ends : is_taken built_words (codes "simulate" ∷ codes "--ends" ∷ codes "rows" ∷ []) ≡ false
unfolding built_words clap_on_literals
other_ends = refl

-- ---- what is kept

of_audit : settings_in built_words (codes "audit" ∷ codes "--kept" ∷ codes "k.db" ∷ []) ≡ record default_settings { command = Audit }
unfolding built_words clap_on_literals
of_audit = refl

kept_named : kept_in built_words (codes "audit" ∷ codes "--kept" ∷ codes "k.db" ∷ []) ≡ codes "k.db"
unfolding built_words clap_on_literals
kept_named = refl

kept_unnamed : kept_in built_words (codes "audit" ∷ []) ≡ codes "omega.db"
unfolding built_words clap_on_literals
kept_unnamed = refl

-- ---- what is generated

machines_are_taken : is_taken built_words (codes "generate" ∷ codes "--machines" ∷ codes "4096" ∷ []) ≡ true
unfolding built_words clap_on_literals
machines_are_taken = refl

too_many_machines : is_taken built_words (codes "generate" ∷ codes "--machines" ∷ codes "4097" ∷ []) ≡ false
unfolding built_words clap_on_literals
too_many_machines = refl

too_many_jobs : is_plain built_words (codes "generate" ∷ codes "--jobs" ∷ codes "20001" ∷ []) ≡ false
unfolding built_words
too_many_jobs = refl

of_generated : settings_in built_words (codes "generate" ∷ codes "--jobs=0" ∷ codes "--machines" ∷ codes "1" ∷ [])
    ≡ record default_settings { command = Generate; machines = 1; jobs = 0 }
unfolding built_words clap_on_literals
of_generated = refl

-- ---- words that are taken, though they aren't plain

joined : is_taken whole_table (codes "run" ∷ codes "--seed=5" ∷ []) ≡ true
unfolding clap_on_literals
joined = refl

of_joined : settings_in built_words (codes "replay" ∷ codes "--tries=7" ∷ []) ≡ record default_settings { tries = 7 }
unfolding built_words clap_on_literals
of_joined = refl

command_behind : is_taken whole_table (codes "--seed" ∷ codes "5" ∷ codes "replay" ∷ []) ≡ true
unfolding clap_on_literals
command_behind = refl

escaped : is_taken whole_table (codes "--" ∷ codes "replay" ∷ []) ≡ true
unfolding clap_on_literals
escaped = refl

hyphen : is_taken whole_table (codes "replay" ∷ codes "--tables=-x" ∷ []) ≡ true
unfolding clap_on_literals
hyphen = refl

folder_of_hyphen : folder_in whole_table (codes "replay" ∷ codes "--tables=-x" ∷ []) ≡ codes "-x"
unfolding clap_on_literals
folder_of_hyphen = refl

no_text : is_taken whole_table (codes "replay" ∷ codes "--tables" ∷ [] ∷ []) ≡ true
unfolding clap_on_literals
no_text = refl

-- ---- words that aren't taken

no_words : is_taken whole_table [] ≡ false
unfolding clap_on_literals
no_words = refl

two_commands : is_taken whole_table (codes "replay" ∷ codes "run" ∷ []) ≡ false
unfolding clap_on_literals
two_commands = refl

twice : is_taken whole_table (codes "replay" ∷ codes "--seed=1" ∷ codes "--seed=1" ∷ []) ≡ false
unfolding clap_on_literals
twice = refl

help : is_taken whole_table (codes "replay" ∷ codes "--help" ∷ []) ≡ false
unfolding clap_on_literals
help = refl

help_word : is_taken whole_table (codes "help" ∷ []) ≡ false
unfolding clap_on_literals
help_word = refl

too_great : is_taken whole_table (codes "replay" ∷ codes "--batch=31" ∷ []) ≡ false
unfolding clap_on_literals
too_great = refl

looks_like_an_option : is_taken whole_table (codes "replay" ∷ codes "--tables" ∷ codes "-x" ∷ []) ≡ false
unfolding clap_on_literals
looks_like_an_option = refl
