-- What the reading of tables may answer.
use Rattle.std.specs.Prelude.{◌≡◌, ◌<◌, ℕ, List, [], length, Option, Some, None, IfSome, ⊤}
use Rattle.omega_io.specs.Edge.{Rose}
use Rattle.omega_model.specs.Refusals.{first_refusal, longest_table, refusal_before, table_refusal, trace_refusal}
use Rattle.omega_model.specs.Trace.{place_of, tables_in_order}
use Rattle.omega_model.specs.declared.rows.Table.{Table}
use Rattle.omega_model.specs.declared.results.Status.{Status}
use Rattle.omega_model.specs.declared.results.Status.TheVariants as status
use Rattle.omega_model.specs.declared.rows.TraceTables.{TraceTables}
use Rattle.omega_tables.specs.declared.refusal.ReadRefusal.{ReadRefusal}
use Rattle.omega_tables.specs.declared.refusal.ReadRefusal.TheVariants.{Fault, TooLong, BadRow, TooMany, NoMemory}

-- the status by which a run ends after a refusal
abbrev pub status_of : ReadRefusal → Status
status_of (Fault table) = status.ReadFault table
status_of (TooLong table) = status.TooLong table
status_of (BadRow table row column cause) = status.BadRow table row column cause
status_of (TooMany kind number) = status.TooMany kind number
status_of NoMemory = status.NoMemory

-- why one table's bytes weren't read: its count of faults rose, or more bytes are left than a table may have; memory may run out at any time
abbrev pub StopsReading : Table → Option (List ℕ) → ℕ → ℕ → ReadRefusal → Type 0
StopsReading table left before now (Fault other) = (other ≡ table) × Rose before now
StopsReading table left before now (TooLong other) = (other ≡ table) × IfSome left (λ bytes. longest_table < length bytes)
StopsReading table left before now (BadRow other row column cause) = ⊥
StopsReading table left before now (TooMany kind number) = ⊥
StopsReading table left before now NoMemory = ⊤

-- the answer is this refusal, which stands; memory may run out at any time
abbrev pub Stands : Option Status → ReadRefusal → Type 0
Stands refusal (Fault table) = ⊥
Stands refusal (TooLong table) = refusal ≡ Some (status.TooLong table)
Stands refusal (BadRow table row column cause) = refusal ≡ Some (status.BadRow table row column cause)
Stands refusal (TooMany kind number) = refusal ≡ Some (status.TooMany kind number)
Stands refusal NoMemory = ⊤

-- why rows that were all read are refused; memory may run out at any time
abbrev pub StopsRows : TraceTables → ReadRefusal → Type 0
StopsRows trace (Fault table) = ⊥
StopsRows trace (TooLong table) = ⊥
StopsRows trace (BadRow table row column cause) = ⊥
StopsRows trace (TooMany kind number) = trace_refusal trace ≡ Some (status.TooMany kind number)
StopsRows trace NoMemory = ⊤

-- why a table with these bytes wasn't read: a read of it failed, or its refusal stands
abbrev pub StopsAt : Table → List ℕ → ReadRefusal → Type 0
StopsAt table bytes (Fault other) = other ≡ table
StopsAt table bytes (TooLong other) = Stands (table_refusal table bytes) (TooLong other)
StopsAt table bytes (BadRow other row column cause) = Stands (table_refusal table bytes) (BadRow other row column cause)
StopsAt table bytes (TooMany kind number) = Stands (table_refusal table bytes) (TooMany kind number)
StopsAt table bytes NoMemory = ⊤

-- the refusal is of this table; memory may run out at any time
abbrev pub Names : Table → ReadRefusal → Type 0
Names table (Fault other) = other ≡ table
Names table (TooLong other) = other ≡ table
Names table (BadRow other row column cause) = other ≡ table
Names table (TooMany kind number) = ⊥
Names table NoMemory = ⊤

-- the reading came to the table at this place: those before it are at their end, where they tell it, and those behind it are as they were
pub record CameTo (place : ℕ) (rest rest_now : Table → Option (List ℕ)) (count count_now : Table → ℕ) : Type 0 where
  pub before : (table : Table) → place_of table < place → IfSome (rest table) (λ bytes. rest_now table ≡ Some [])
  pub rests : (table : Table) → place < place_of table → rest_now table ≡ rest table
  pub counts : (table : Table) → place < place_of table → count_now table ≡ count table

-- how far the reading came: to the table that is refused, or through all; where memory ran out, to some place
abbrev pub StoppedIn : (Table → Option (List ℕ)) → (Table → Option (List ℕ)) → (Table → ℕ) → (Table → ℕ) → ReadRefusal → Type 0
StoppedIn rest rest_now count count_now (Fault table) = CameTo (place_of table) rest rest_now count count_now
StoppedIn rest rest_now count count_now (TooLong table) = CameTo (place_of table) rest rest_now count count_now
StoppedIn rest rest_now count count_now (BadRow table row column cause) = CameTo (place_of table) rest rest_now count count_now
StoppedIn rest rest_now count count_now (TooMany kind number) = CameTo (length tables_in_order) rest rest_now count count_now
StoppedIn rest rest_now count count_now NoMemory = (place : ℕ) × CameTo place rest rest_now count count_now

-- the answer comes first for these bytes: before a fault no refusal of an earlier table stands
abbrev pub ComesFirst : (Table → List ℕ) → ReadRefusal → Type 0
ComesFirst bytes (Fault table) = refusal_before table bytes ≡ None
ComesFirst bytes (TooLong table) = Stands (first_refusal bytes) (TooLong table)
ComesFirst bytes (BadRow table row column cause) = Stands (first_refusal bytes) (BadRow table row column cause)
ComesFirst bytes (TooMany kind number) = Stands (first_refusal bytes) (TooMany kind number)
ComesFirst bytes NoMemory = ⊤

-- a fault of a table is answered only where that table's count rose
abbrev pub HasCause : (Table → ℕ) → (Table → ℕ) → ReadRefusal → Type 0
HasCause before now (Fault table) = Rose (before table) (now table)
HasCause before now (TooLong table) = ⊤
HasCause before now (BadRow table row column cause) = ⊤
HasCause before now (TooMany kind number) = ⊤
HasCause before now NoMemory = ⊤
