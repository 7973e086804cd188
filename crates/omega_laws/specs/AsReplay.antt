-- Settings of a `replay` that are others but for the command.
use Rattle.omega_model.specs.declared.settings.Command.{Command}
use Rattle.omega_model.specs.declared.settings.Command.TheVariants.{Replay}
use Rattle.omega_model.specs.declared.settings.Settings.{Settings}

-- the same settings with this command
abbrev pub with_command : Command → Settings → Settings
with_command command settings = record settings { command = command }

-- the same settings of a `replay`
abbrev pub as_replay : Settings → Settings
as_replay settings = with_command Replay settings
