-- What a keeper works over.
use Rattle.std.specs.Prelude.{ℕ, IsSome}
use Rattle.sqlite.specs.Held.{Held}
use Rattle.omega_sqlkeep.specs.declared.file.FileKeeper.{FileKeeper}
use Rattle.omega_sqlkeep.specs.declared.sql.SqlKeeper.{SqlKeeper}

-- the connection that a keeper works over
abbrev pub connection_of : {S : Type 0} → SqlKeeper S → Held S
connection_of keeper = keeper.connection

-- how many of a keeper's calls have failed
abbrev pub faults_of : {S : Type 0} → SqlKeeper S → ℕ
faults_of keeper = keeper.faults

-- a keeper has its file open
abbrev pub HasOpened : FileKeeper → Type 0
HasOpened keeper = IsSome keeper.file
