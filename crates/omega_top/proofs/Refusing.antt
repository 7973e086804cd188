-- A refusal of the reading as the status that is answered.
use Rattle.std.proofs.Common.{List, ℕ}
use Rattle.omega_model.specs.declared.rows.Table.{Table}
use Rattle.omega_tables.specs.declared.refusal.ReadRefusal.{ReadRefusal}
use Rattle.omega_tables.specs.declared.refusal.ReadRefusal.TheVariants.{Fault, TooLong, BadRow, TooMany, NoMemory}
use Rattle.omega_tables.specs.Reading.{ComesFirst, status_of}
use Rattle.omega_top.specs.Answers.{Answers}

-- a refusal that comes first is what may be answered
pub answers_refusal : (bytes : Table → List ℕ) (refusal : ReadRefusal) → ComesFirst bytes refusal → Answers bytes (status_of refusal)
answers_refusal bytes (Fault table) first = first
answers_refusal bytes (TooLong table) first = first
answers_refusal bytes (BadRow table row column cause) first = first
answers_refusal bytes (TooMany kind number) first = first
answers_refusal bytes NoMemory first = first
