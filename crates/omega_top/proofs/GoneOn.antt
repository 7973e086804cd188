-- Runs that go on from what a keeper has.
use Rattle.std.proofs.Common.{◌≡◌, ◌∙◌, ℕ, List, [], ◌++◌, length, Option, Some, None, inl, inr, refl, sym, ap, subst}
use Rattle.std.proofs.lemmas.List.{append-nil, take-append-drop}
use Rattle.std.specs.Prelude.{◌==◌, ◌⊎◌, IfSome, option_map, unwrap_or, if◌then◌else◌}
use Rattle.std.proofs.lemmas.Bool.{eqb-true}
use Rattle.omega_model.proofs.Lists.{by_answer}
use Rattle.omega_model.specs.Feed.{rounds}
use Rattle.omega_model.specs.Lawful.{Lawful}
use Rattle.omega_model.specs.Trace.{no_rows}
use Rattle.omega_model.specs.Turns.{InTurns}
use Rattle.omega_model.specs.declared.entries.Entry.{Entry}
use Rattle.omega_model.specs.declared.results.Status.{Status}
use Rattle.omega_model.specs.declared.results.Status.TheVariants as status
use Rattle.omega_model.specs.declared.rows.TraceTables.{TraceTables}
use Rattle.omega_model.specs.declared.settings.Settings.{Settings}
use Rattle.omega_keep.specs.Keeping.{Adds}
use Rattle.omega_keep.specs.Resumed.{ends_round, in_common, lines_of, refused_for}
use Rattle.omega_laws.proofs.FirstRounds.{all_first}
use Rattle.omega_rounds.specs.Resuming.{AppendsRounds, AreRoundsInTurns, DepartAt, LeavesKept, RefusesKept, lines_behind, status_of}
use Rattle.omega_rounds.specs.Stages.{IsInRunOf, Stage, first_stage}
use Rattle.omega_rounds.specs.declared.kept.ResumeRefusal.{ResumeRefusal}
use Rattle.omega_rounds.specs.declared.kept.ResumeRefusal.TheVariants.{BadKept, KeepFault, NoMemory}
use Rattle.omega_rounds.proofs.KeptRounds.{common_told}
use Rattle.omega_tables.specs.Reading.{status_of as status_of_reading}
use Rattle.omega_tables.specs.declared.refusal.ReadRefusal.{ReadRefusal}
use Rattle.omega_tables.specs.declared.refusal.ReadRefusal.TheVariants as reading
use Rattle.omega_top.specs.Answers.{IfReported}
use Rattle.omega_top.specs.Replayed.{IsReplayed}
use Rattle.omega_top.specs.Resumes.{GrowsByRounds, IsResume, IsSomeResume, KeepsWhole, StopsFrom, StopsLoading, StopsResume}
use Rattle.omega_top.proofs.AuditedLines.{told_list}
use Rattle.omega_top.proofs.Replayed.{replayed_none}
use Rattle.omega_top.proofs.SomeRun.{no_rows-within}

-- a list that stays has grown by nothing
adds_none : (list : Option (List (List ℕ))) → Adds [] list list
adds_none None = refl
adds_none (Some lines) = ap (λ (l : List (List ℕ)). Some l) (sym (append-nil lines))

-- ---- lines that are accepted

-- all of them are the first lines of the history
accepted_all : (history : List Entry) (kept : List (List ℕ)) → refused_for history kept ≡ None → in_common kept history ≡ length kept
accepted_all history kept none =
    by_answer (in_common kept history == length kept) (λ same. eqb-true (in_common kept history) (length kept) same)
    (λ other.
    let some : Some (in_common kept history) ≡ None =
    subst (λ b. (if b then (if ends_round history (length kept) then None else Some (length kept)) else Some (in_common kept history)) ≡ None → Some (in_common kept history) ≡ None) (sym other)
    (λ e. e) none in
    absurd (cc))

-- with those behind them they are all of its lines
accepted_whole : (history : List Entry) (kept : List (List ℕ)) → refused_for history kept ≡ None → kept ++ lines_behind kept history ≡ lines_of history
accepted_whole history kept none =
    ap (λ (front : List (List ℕ)). front ++ lines_behind kept history) (common_told kept history (accepted_all history kept none))
    ∙ take-append-drop (length kept) (lines_of history)

-- a list to which these are added is that of the whole history
whole_adds : (before : Option (List (List ℕ))) (kept : List (List ℕ)) (history : List Entry) → IfSome before (λ list. kept ≡ list) → refused_for history kept ≡ None
    → option_map (λ list. lines_of history) before ≡ option_map (λ list. list ++ lines_behind kept history) before
whole_adds None kept history told none = refl
whole_adds (Some list) kept history told none =
    ap (λ (l : List (List ℕ)). Some l)
    (sym (accepted_whole history kept none) ∙ ap (λ (l : List (List ℕ)). l ++ lines_behind kept history) told)

pub keeps_whole : (before now : Option (List (List ℕ))) (kept : List (List ℕ)) (history : List Entry) → IfSome before (λ list. kept ≡ list) → refused_for history kept ≡ None
    → Adds (lines_behind kept history) before now → KeepsWhole before now history
keeps_whole before now kept history told none adds = record {
  kept = kept;
  told = told;
  accepted = none;
  leaves = adds ∙ sym (whole_adds before kept history told none);
}

-- ---- how a run stops

module _ (settings : Settings) (trace : TraceTables) where
  pub grows_none : (before now : Option (List (List ℕ))) → now ≡ before → GrowsByRounds settings trace before now
  grows_none before now stays = record {
    added = [];
    adds = subst (λ (list : Option (List (List ℕ))). Adds [] before list) (sym stays) (adds_none before);
    whole = inl refl;
  }

  -- a run stops before it compares lines
  pub stops_unread : (before now : Option (List (List ℕ))) → now ≡ before → (kept : List (List ℕ)) → IfSome before (λ list. kept ≡ list)
      → (status : Status) → StopsLoading status → StopsFrom settings trace before now status
  stops_unread before now stays kept told (status.BadKept place) stops = absurd stops
  stops_unread before now stays kept told status.KeepFault stops =
      record { kept = kept; told = told; stops = tt; answers = tt; leaves = grows_none before now stays }
  stops_unread before now stays kept told status.NoMemory stops =
      record { kept = kept; told = told; stops = tt; answers = tt; leaves = grows_none before now stays }
  stops_unread before now stays kept told status.Done stops = absurd stops
  stops_unread before now stays kept told status.WriteFault stops = absurd stops
  stops_unread before now stays kept told status.Usage stops = absurd stops
  stops_unread before now stays kept told (status.ReadFault table) stops = absurd stops
  stops_unread before now stays kept told (status.TooLong table) stops = absurd stops
  stops_unread before now stays kept told (status.BadRow table row column cause) stops = absurd stops
  stops_unread before now stays kept told (status.TooMany kind number) stops = absurd stops

  -- also where nothing was loaded
  pub stops_loading : (before now : Option (List (List ℕ))) → now ≡ before → (status : Status) → StopsLoading status → StopsFrom settings trace before now status
  stops_loading before now stays status stops = stops_unread before now stays (unwrap_or before []) (told_list before) status stops

  -- ---- the run itself

  -- what holds of each trace in whose run a world at its first stage is holds of this one
  of_stage : (Holds : Settings → TraceTables → Type 0) (stage : Stage) → stage ≡ first_stage settings trace
      → ((other : TraceTables) → IsInRunOf stage other → Holds stage.settings other) → Holds settings trace
  of_stage Holds stage is all =
      subst (λ (at : Stage). Holds at.settings trace) is (all trace (subst (λ (at : Stage). IsInRunOf at trace) (sym is) refl))

  grown_told : (before : Option (List (List ℕ))) (kept added : List (List ℕ)) → IfSome before (λ list. kept ≡ list)
      → AreRoundsInTurns settings trace (kept ++ added) → IfSome (option_map (λ list. list ++ added) before) (AreRoundsInTurns settings trace)
  grown_told None kept added told whole = tt
  grown_told (Some list) kept added told whole = subst (λ (l : List (List ℕ)). AreRoundsInTurns settings trace (l ++ added)) told whole

  -- what it leaves at the keeper where it stops on the way
  grows_by : (stage : Stage) → stage ≡ first_stage settings trace → (before now : Option (List (List ℕ))) (kept : List (List ℕ))
      → IfSome before (λ list. kept ≡ list) → AppendsRounds stage kept before now → GrowsByRounds settings trace before now
  grows_by stage is before now kept told appends = record {
    added = appends.added;
    adds = appends.adds;
    whole = elim appends.whole [
      | inl none ↦ inl none
      | inr whole ↦ inr (subst (λ (list : Option (List (List ℕ))). IfSome list (AreRoundsInTurns settings trace)) (sym appends.adds)
          (grown_told before kept appends.added told (of_stage (λ one other. AreRoundsInTurns one other (kept ++ appends.added)) stage is whole)))
    ];
  }

  pub stops_from : (stage : Stage) → stage ≡ first_stage settings trace → (before now : Option (List (List ℕ))) (kept : List (List ℕ))
      → IfSome before (λ list. kept ≡ list) → (refusal : ResumeRefusal) → RefusesKept stage kept refusal → LeavesKept stage kept before now refusal
      → StopsFrom settings trace before now (status_of refusal)
  stops_from stage is before now kept told (BadKept place) refuses leaves = record {
    kept = kept;
    told = told;
    stops = tt;
    answers = of_stage (λ one other. DepartAt one other kept place) stage is refuses;
    leaves = leaves;
  }
  stops_from stage is before now kept told KeepFault refuses leaves =
      record { kept = kept; told = told; stops = tt; answers = tt; leaves = grows_by stage is before now kept told leaves }
  stops_from stage is before now kept told NoMemory refuses leaves =
      record { kept = kept; told = told; stops = tt; answers = tt; leaves = grows_by stage is before now kept told leaves }

  -- the lines of its whole history are those of its first rounds
  whole_told : (before : Option (List (List ℕ))) (history : List Entry) → Lawful settings trace history → InTurns history
      → IfSome (option_map (λ list. lines_of history) before) (AreRoundsInTurns settings trace)
  whole_told None history lawful turns = tt
  whole_told (Some list) history lawful turns = record {
    count = length (rounds trace settings.window);
    history = history;
    played = all_first settings trace history lawful turns;
    told = refl;
  }

  -- a run that went on to its end and then wants memory
  pub stops_whole : (before now : Option (List (List ℕ))) (history : List Entry) → KeepsWhole before now history
      → Lawful settings trace history → InTurns history
      → StopsFrom settings trace before now status.NoMemory
  stops_whole before now history keeps lawful turns = record {
    kept = keeps.kept;
    told = keeps.told;
    stops = tt;
    answers = tt;
    leaves = record {
      added = lines_behind keeps.kept history;
      adds = keeps.leaves ∙ whole_adds before keeps.kept history keeps.told keeps.accepted;
      whole = inr (subst (λ (list : Option (List (List ℕ))). IfSome list (AreRoundsInTurns settings trace)) (sym keeps.leaves)
          (whole_told before history lawful turns));
    };
  }

  -- ---- as it is answered

  -- a run that stopped didn't reach its report
  stops_unreported : (status : Status) → StopsResume status → IfReported ⊥ status
  stops_unreported (status.BadKept place) stops = tt
  stops_unreported status.KeepFault stops = tt
  stops_unreported status.NoMemory stops = tt
  stops_unreported status.Done stops = stops
  stops_unreported status.WriteFault stops = stops
  stops_unreported status.Usage stops = absurd stops
  stops_unreported (status.ReadFault table) stops = absurd stops
  stops_unreported (status.TooLong table) stops = absurd stops
  stops_unreported (status.BadRow table row column cause) stops = absurd stops
  stops_unreported (status.TooMany kind number) stops = absurd stops

  pub stopped_resume : (before now : Option (List (List ℕ))) (status : Status) (written : Option (List ℕ)) → StopsFrom settings trace before now status
      → IsResume settings trace before now [] status written written
  stopped_resume before now status written stops = record {
    kept = stops.kept;
    told = stops.told;
    answers = stops.answers;
    leaves = stops.leaves;
    replayed = replayed_none settings trace status written written (stops_unreported status stops.stops) refl;
  }

  -- one that reached its report
  pub reported_resume : (before now : Option (List (List ℕ))) (history : List Entry) (answer : Status) (written written_now : Option (List ℕ))
      → KeepsWhole before now history → (answer ≡ status.Done) ⊎ (answer ≡ status.WriteFault)
      → IsReplayed settings trace history answer written written_now
      → IsResume settings trace before now history answer written written_now
  reported_resume before now history answer written written_now keeps (inl done) as_replayed =
      subst (λ (s : Status). IsReplayed settings trace history s written written_now → IsResume settings trace before now history s written written_now) (sym done)
      (λ same. record { kept = keeps.kept; told = keeps.told; answers = keeps.accepted; leaves = keeps.leaves; replayed = same }) as_replayed
  reported_resume before now history answer written written_now keeps (inr fault) as_replayed =
      subst (λ (s : Status). IsReplayed settings trace history s written written_now → IsResume settings trace before now history s written written_now) (sym fault)
      (λ same. record { kept = keeps.kept; told = keeps.told; answers = keeps.accepted; leaves = keeps.leaves; replayed = same }) as_replayed

  -- one whose tables are refused
  pub refused_resume : (list : Option (List (List ℕ))) (refusal : ReadRefusal) (written : Option (List ℕ))
      → IsResume settings trace list list [] (status_of_reading refusal) written written
  refused_resume list (reading.Fault table) written =
      record { kept = unwrap_or list []; told = told_list list; answers = tt; leaves = refl; replayed = replayed_none settings trace (status.ReadFault table) written written tt refl }
  refused_resume list (reading.TooLong table) written =
      record { kept = unwrap_or list []; told = told_list list; answers = tt; leaves = refl; replayed = replayed_none settings trace (status.TooLong table) written written tt refl }
  refused_resume list (reading.BadRow table row column cause) written =
      record { kept = unwrap_or list []; told = told_list list; answers = tt; leaves = refl; replayed = replayed_none settings trace (status.BadRow table row column cause) written written tt refl }
  refused_resume list (reading.TooMany kind number) written =
      record { kept = unwrap_or list []; told = told_list list; answers = tt; leaves = refl; replayed = replayed_none settings trace (status.TooMany kind number) written written tt refl }
  refused_resume list reading.NoMemory written =
      record { kept = unwrap_or list []; told = told_list list; answers = tt; leaves = grows_none list list refl; replayed = replayed_none settings trace status.NoMemory written written tt refl }

  -- one that wants memory before its tables are read
  pub no_memory_resume : (before now : Option (List (List ℕ))) (written : Option (List ℕ)) → now ≡ before
      → IsResume settings trace before now [] status.NoMemory written written
  no_memory_resume before now written stays = stopped_resume before now status.NoMemory written (stops_loading before now stays status.NoMemory tt)

-- also of some trace
pub refused_some_resume : (settings : Settings) (list : Option (List (List ℕ))) (refusal : ReadRefusal) (written : Option (List ℕ))
    → IsSomeResume settings list list [] (status_of_reading refusal) written written
refused_some_resume settings list refusal written =
    record { trace = no_rows; within = no_rows-within; resume = refused_resume settings no_rows list refusal written }

pub no_memory_some_resume : (settings : Settings) (before now : Option (List (List ℕ))) (written : Option (List ℕ)) → now ≡ before
    → IsSomeResume settings before now [] status.NoMemory written written
no_memory_some_resume settings before now written stays =
    record { trace = no_rows; within = no_rows-within; resume = no_memory_resume settings no_rows before now written stays }
