-- What a run leaves of the tables that it didn't come to.
use Rattle.std.specs.Prelude.{◌≡◌, ℕ, List, length, Option, ⊤}
use Rattle.omega_model.specs.Trace.{place_of, tables_in_order}
use Rattle.omega_model.specs.declared.results.Status.{Status}
use Rattle.omega_model.specs.declared.results.Status.TheVariants.{Done, Usage, ReadFault, TooLong, BadRow, TooMany, BadKept, KeepFault, WriteFault, NoMemory}
use Rattle.omega_model.specs.declared.rows.Table.{Table}
use Rattle.omega_tables.specs.Reading.{CameTo}
use Rattle.omega_top.specs.Reads.{StayUnread}

-- no folder was entered, nothing was read of any table, and no count of faults moved
pub record AreUntouched (entered entered_now : Option (Option (List ℕ))) (rest rest_now : Table → Option (List ℕ)) (count count_now : Table → ℕ) : Type 0 where
  pub folder : entered_now ≡ entered
  pub tables : StayUnread rest rest_now count count_now

-- how far the reading came in a run that ended so. Where a table is refused, those before it are at their
-- ends, where they tell it, and those behind it are as they were; where there is too much in all of them, all
-- are at their ends
abbrev pub ReadsNoFurther : (Table → Option (List ℕ)) → (Table → Option (List ℕ)) → (Table → ℕ) → (Table → ℕ) → Status → Type 0
ReadsNoFurther rest rest_now count count_now (ReadFault table) = CameTo (place_of table) rest rest_now count count_now
ReadsNoFurther rest rest_now count count_now (TooLong table) = CameTo (place_of table) rest rest_now count count_now
ReadsNoFurther rest rest_now count count_now (BadRow table row column cause) = CameTo (place_of table) rest rest_now count count_now
ReadsNoFurther rest rest_now count count_now (TooMany kind number) = CameTo (length tables_in_order) rest rest_now count count_now
ReadsNoFurther rest rest_now count count_now Done = ⊤
ReadsNoFurther rest rest_now count count_now Usage = ⊤
ReadsNoFurther rest rest_now count count_now (BadKept number) = ⊤
ReadsNoFurther rest rest_now count count_now KeepFault = ⊤
ReadsNoFurther rest rest_now count count_now WriteFault = ⊤
ReadsNoFurther rest rest_now count count_now NoMemory = ⊤
