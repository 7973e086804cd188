-- Tables without a refusal and no fault leave two answers.
use Rattle.std.proofs.Common.{◌≡◌, ◌⊎◌, List, [], ℕ, Option, None, inl, inr, refl, sym, subst}
use Rattle.std.specs.Prelude.{IfSome}
use Rattle.omega_io.specs.Edge.{Rose}
use Rattle.omega_keep.specs.Keeping.{Rose as RoseOfKeeper}
use Rattle.omega_model.specs.Refusals.{first_refusal}
use Rattle.omega_model.specs.declared.entries.Entry.{Entry}
use Rattle.omega_model.specs.declared.results.Status.{Status}
use Rattle.omega_model.specs.declared.results.Status.TheVariants.{Done, Usage, ReadFault, TooLong, BadRow, TooMany, BadKept, KeepFault, WriteFault, NoMemory}
use Rattle.omega_model.specs.declared.rows.Table.{Table}
use Rattle.omega_model.specs.declared.rows.TraceTables.{TraceTables}
use Rattle.omega_model.specs.declared.settings.Settings.{Settings}
use Rattle.omega_rounds.specs.Resuming.{AreRoundsInTurns, DepartAt}
use Rattle.omega_rounds.proofs.Departing.{departs_never, no_lines}
use Rattle.omega_top.specs.Answers.{Answers, EndsRun, HasReadCause, NoneRose}
use Rattle.omega_top.specs.Audits.{IsNotOfKept}
use Rattle.omega_top.specs.Resumes.{IsResume, KeepsRounds, ResumeAnswers}

-- no lines are those of first rounds too
are_rounds : (settings : Settings) (trace : TraceTables) (kept : List (List ℕ)) → (kept ≡ []) ⊎ AreRoundsInTurns settings trace kept
    → AreRoundsInTurns settings trace kept
are_rounds settings trace kept (inl none) = subst (AreRoundsInTurns settings trace) (sym none) (no_lines settings trace)
are_rounds settings trace kept (inr rounds) = rounds

-- where no refusal stands and no count rose, all was done or memory ran out, or what is kept stands in the way
module _ (bytes : Table → List ℕ) (before middle now : Table → ℕ) (sink_before sink_now : ℕ)
    (clean : first_refusal bytes ≡ None) (none : NoneRose before now sink_before sink_now)
    (same : (table : Table) → middle table ≡ before table) where
  completes_but : (status : Status) → Answers bytes status → HasReadCause middle now status → (status ≡ WriteFault → Rose sink_before sink_now)
      → ((place : ℕ) → status ≡ BadKept place → ⊥) → (status ≡ KeepFault → ⊥)
      → (status ≡ Done) ⊎ (status ≡ NoMemory)
  completes_but Done first read write kept keeper = inl refl
  completes_but NoMemory first read write kept keeper = inr refl
  completes_but WriteFault first read write kept keeper = absurd (none.sink (write refl))
  completes_but (ReadFault table) first read write kept keeper =
      absurd (none.tables table (subst (λ (count : ℕ). Rose count (now table)) (same table) read))
  completes_but Usage first read write kept keeper = absurd first
  completes_but (TooLong table) first read write kept keeper = cc
  completes_but (BadRow table row column cause) first read write kept keeper = cc
  completes_but (TooMany kind number) first read write kept keeper = cc
  completes_but (BadKept place) first read write kept keeper = absurd (kept place refl)
  completes_but KeepFault first read write kept keeper = absurd (keeper refl)

  -- which it doesn't where nothing kept is used
  pub completes : (status : Status) → IsNotOfKept status → Answers bytes status → HasReadCause middle now status → (status ≡ WriteFault → Rose sink_before sink_now)
      → (status ≡ Done) ⊎ (status ≡ NoMemory)
  completes status kept first read write =
      completes_but status first read write (λ place is. subst IsNotOfKept is kept) (λ is. subst IsNotOfKept is kept)

  -- nor where what is kept are lines of whole rounds of the run, and the keeper didn't fail
  pub completes_resume : (settings : Settings) (trace : TraceTables) (list list_now : Option (List (List ℕ))) (history : List Entry) (status : Status)
      (written written_now : Option (List ℕ)) (keep_before keep_now : ℕ)
      → IsResume settings trace list list_now history status written written_now → KeepsRounds settings trace list
      → ¬ RoseOfKeeper keep_before keep_now → (status ≡ KeepFault → RoseOfKeeper keep_before keep_now)
      → Answers bytes status → HasReadCause middle now status → (status ≡ WriteFault → Rose sink_before sink_now)
      → (status ≡ Done) ⊎ (status ≡ NoMemory)
  completes_resume settings trace list list_now history status written written_now keep_before keep_now resume keeps stays cause first read write =
      completes_but status first read write
      (λ place is.
      let lines : resume.kept ≡ keeps.kept = subst (λ (told : Option (List (List ℕ))). IfSome told (λ told. resume.kept ≡ told)) keeps.told resume.told in
      let departs : DepartAt settings trace resume.kept place = subst (ResumeAnswers settings trace resume.kept history) is resume.answers in
      departs_never settings trace keeps.kept place (are_rounds settings trace keeps.kept keeps.rounds)
      (subst (λ (kept : List (List ℕ)). DepartAt settings trace kept place) lines departs))
      (λ is. stays (cause is))

-- so does a run whose tables were read, where the sink didn't fail
pub ends_well : (sink_before sink_now : ℕ) (status : Status) → EndsRun status → ¬ Rose sink_before sink_now
    → (status ≡ WriteFault → Rose sink_before sink_now) → (status ≡ Done) ⊎ (status ≡ NoMemory)
ends_well sink_before sink_now Done ends stays write = inl refl
ends_well sink_before sink_now NoMemory ends stays write = inr refl
ends_well sink_before sink_now WriteFault ends stays write = absurd (stays (write refl))
ends_well sink_before sink_now Usage ends stays write = absurd ends
ends_well sink_before sink_now (ReadFault table) ends stays write = absurd ends
ends_well sink_before sink_now (TooLong table) ends stays write = absurd ends
ends_well sink_before sink_now (BadRow table row column cause) ends stays write = absurd ends
ends_well sink_before sink_now (TooMany kind number) ends stays write = absurd ends
ends_well sink_before sink_now (BadKept number) ends stays write = absurd ends
ends_well sink_before sink_now KeepFault ends stays write = absurd ends
