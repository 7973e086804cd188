-- Tables that a run didn't come to.
use Rattle.std.proofs.Common.{◌≡◌, ◌∙◌, ℕ, List, [], Option, Some, Result, Ok, Err, refl, subst, sym, arith}
use Rattle.std.specs.Prelude.{IfErr, IfSome}
use Rattle.omega_model.specs.Trace.{place_of}
use Rattle.omega_model.specs.declared.results.Status.{Status}
use Rattle.omega_model.specs.declared.results.Status.TheVariants as status
use Rattle.omega_model.specs.declared.rows.Table.{Table}
use Rattle.omega_model.specs.declared.settings.Command.{Command}
use Rattle.omega_tables.specs.Reading.{CameTo, StoppedIn, status_of}
use Rattle.omega_tables.specs.declared.refusal.ReadRefusal.{ReadRefusal}
use Rattle.omega_tables.specs.declared.refusal.ReadRefusal.TheVariants.{Fault, TooLong, BadRow, TooMany, NoMemory}
use Rattle.omega_top.specs.Resumes.{EndsBy}
use Rattle.omega_top.specs.Unread.{AreUntouched, ReadsNoFurther}

-- tables of which nothing is done are untouched
pub untouched : (entered : Option (Option (List ℕ))) (rest : Table → Option (List ℕ)) (count : Table → ℕ)
    → AreUntouched entered entered rest rest count count
untouched entered rest count = record { folder = refl; tables = record { rests = λ table. refl; counts = λ table. refl } }

-- where memory wants before any table is read, the reading came to the first one
pub stopped_before : {A : Type 0} (rest : Table → Option (List ℕ)) (count : Table → ℕ) (answer : Result A ReadRefusal)
    → IfErr answer (λ refusal. refusal ≡ NoMemory) → IfErr answer (λ refusal. StoppedIn rest rest count count refusal)
stopped_before rest count (Ok made) only = tt
stopped_before rest count (Err refusal) only =
    subst (StoppedIn rest rest count count) (sym only)
    (0, record { before = λ table below. absurd (omega (arith, below)); rests = λ table above. refl; counts = λ table above. refl })

module _ (rest rest_now : Table → Option (List ℕ)) (count count_now : Table → ℕ) where
  -- a refusal of the reading as the status that is answered
  pub stops_there : (refusal : ReadRefusal) → StoppedIn rest rest_now count count_now refusal
      → ReadsNoFurther rest rest_now count count_now (status_of refusal)
  stops_there (Fault table) came = came
  stops_there (TooLong table) came = came
  stops_there (BadRow table row column cause) came = came
  stops_there (TooMany kind number) came = came
  stops_there NoMemory came = tt

  -- a run whose tables were read refuses none of them
  pub ends_no_further : (command : Command) (status : Status) → EndsBy command status → ReadsNoFurther rest rest_now count count_now status
  ends_no_further command status.Done ends = tt
  ends_no_further command status.WriteFault ends = tt
  ends_no_further command status.NoMemory ends = tt
  ends_no_further command (status.BadKept number) ends = tt
  ends_no_further command status.KeepFault ends = tt
  ends_no_further command status.Usage ends = absurd ends
  ends_no_further command (status.ReadFault table) ends = absurd ends
  ends_no_further command (status.TooLong table) ends = absurd ends
  ends_no_further command (status.BadRow table row column cause) ends = absurd ends
  ends_no_further command (status.TooMany kind number) ends = absurd ends

-- entering a folder leaves what is told of the tables, and so how far the reading came
module _ (rest rest_then rest_now : Table → Option (List ℕ)) (count count_then count_now : Table → ℕ)
    (rests : (table : Table) → rest_then table ≡ rest table) (counts : (table : Table) → count_then table ≡ count table) where
  entered_came : (place : ℕ) → CameTo place rest_then rest_now count_then count_now → CameTo place rest rest_now count count_now
  entered_came place came = record {
    before = λ table below. subst (λ (left : Option (List ℕ)). IfSome left (λ bytes. rest_now table ≡ Some [])) (rests table) (came.before table below);
    rests = λ table above. came.rests table above ∙ rests table;
    counts = λ table above. came.counts table above ∙ counts table;
  }

  pub entered_no_further : (status : Status) → ReadsNoFurther rest_then rest_now count_then count_now status
      → ReadsNoFurther rest rest_now count count_now status
  entered_no_further (status.ReadFault table) came = entered_came (place_of table) came
  entered_no_further (status.TooLong table) came = entered_came (place_of table) came
  entered_no_further (status.BadRow table row column cause) came = entered_came (place_of table) came
  entered_no_further (status.TooMany kind number) came = entered_came 6 came
  entered_no_further status.Done came = tt
  entered_no_further status.Usage came = tt
  entered_no_further (status.BadKept number) came = tt
  entered_no_further status.KeepFault came = tt
  entered_no_further status.WriteFault came = tt
  entered_no_further status.NoMemory came = tt
