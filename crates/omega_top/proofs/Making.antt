-- Tables that are made are refused for want of memory alone.
use Rattle.std.proofs.Common.{◌≡◌, List, ℕ, None, Result, Ok, Err, refl}
use Rattle.std.specs.Prelude.{IfErr}
use Rattle.omega_io.specs.Edge.{Rose}
use Rattle.omega_model.specs.Refusals.{first_refusal}
use Rattle.omega_model.specs.declared.rows.Table.{Table}
use Rattle.omega_tables.specs.Reading.{ComesFirst, HasCause}
use Rattle.omega_tables.specs.declared.refusal.ReadRefusal.{ReadRefusal}
use Rattle.omega_tables.specs.declared.refusal.ReadRefusal.TheVariants.{Fault, TooLong, BadRow, TooMany, NoMemory}

-- so it is where no refusal stands and no count rose
pub only_memory : (bytes : Table → List ℕ) (before now : Table → ℕ) (refusal : ReadRefusal)
    → first_refusal bytes ≡ None → ((table : Table) → ¬ Rose (before table) (now table))
    → ComesFirst bytes refusal → HasCause before now refusal → refusal ≡ NoMemory
only_memory bytes before now NoMemory clean stays first cause = refl
only_memory bytes before now (Fault table) clean stays first cause = absurd (stays table cause)
only_memory bytes before now (TooLong table) clean stays first cause = cc
only_memory bytes before now (BadRow table row column reason) clean stays first cause = cc
only_memory bytes before now (TooMany kind number) clean stays first cause = cc

-- the same of a whole answer
pub wants_memory : {A : Type 0} (bytes : Table → List ℕ) (before now : Table → ℕ) (answer : Result A ReadRefusal)
    → first_refusal bytes ≡ None → ((table : Table) → ¬ Rose (before table) (now table))
    → IfErr answer (λ refusal. ComesFirst bytes refusal) → IfErr answer (λ refusal. HasCause before now refusal)
    → IfErr answer (λ refusal. refusal ≡ NoMemory)
wants_memory bytes before now (Ok made) clean stays first cause = tt
wants_memory bytes before now (Err refusal) clean stays first cause = only_memory bytes before now refusal clean stays first cause
