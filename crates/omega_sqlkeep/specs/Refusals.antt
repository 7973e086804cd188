-- What a database refuses.
use Rattle.sqlite.specs.declared.error.Error.{Error}
use Rattle.sqlite.specs.declared.error.Error.TheVariants.{SqliteFailure}
use Rattle.sqlite.specs.declared.error.ErrorCode.TheVariants.{OutOfMemory}

-- what a database answers where memory ran out
abbrev pub out_of_memory : Error
out_of_memory = SqliteFailure OutOfMemory
