-- What a run answers that goes on from the lines that a keeper has, and what it leaves there.
use Rattle.std.specs.Prelude.{◌≡◌, ◌⊎◌, ℕ, List, [], Option, Some, None, IfSome, option_map, ⊤}
use Rattle.omega_keep.specs.Keeping.{Adds}
use Rattle.omega_keep.specs.Resumed.{lines_of, refused_for}
use Rattle.omega_model.specs.Limits.{IsWithinLimits}
use Rattle.omega_model.specs.declared.entries.Entry.{Entry}
use Rattle.omega_model.specs.declared.results.Status.{Status}
use Rattle.omega_model.specs.declared.results.Status.TheVariants.{Done, Usage, ReadFault, TooLong, BadRow, TooMany, BadKept, KeepFault, WriteFault, NoMemory}
use Rattle.omega_model.specs.declared.rows.TraceTables.{TraceTables}
use Rattle.omega_model.specs.declared.settings.Command.{Command}
use Rattle.omega_model.specs.declared.settings.Command.TheVariants.{Audit, Generate, Replay, Resume, Run, Simulate}
use Rattle.omega_model.specs.declared.settings.Settings.{Settings}
use Rattle.omega_rounds.specs.Resuming.{AreRoundsInTurns, DepartAt}
use Rattle.omega_top.specs.Replayed.{IsReplayed}

-- what may be answered to kept lines of a run: that they are those of whole rounds of the history, from the
-- first one on; or the place at which they depart from the run, as its first rounds tell
abbrev pub ResumeAnswers : Settings → TraceTables → List (List ℕ) → List Entry → Status → Type 0
ResumeAnswers settings trace kept history Done = refused_for history kept ≡ None
ResumeAnswers settings trace kept history WriteFault = refused_for history kept ≡ None
ResumeAnswers settings trace kept history (BadKept place) = DepartAt settings trace kept place
ResumeAnswers settings trace kept history KeepFault = ⊤
ResumeAnswers settings trace kept history NoMemory = ⊤
ResumeAnswers settings trace kept history Usage = ⊤
ResumeAnswers settings trace kept history (ReadFault table) = ⊤
ResumeAnswers settings trace kept history (TooLong table) = ⊤
ResumeAnswers settings trace kept history (BadRow table row column cause) = ⊤
ResumeAnswers settings trace kept history (TooMany kind number) = ⊤

-- to a keeper's list some lines were added, if it is told: none, or such that it is now that of the first rounds
-- of the run
pub record GrowsByRounds (settings : Settings) (trace : TraceTables) (before now : Option (List (List ℕ))) : Type 0 where
  pub added : List (List ℕ)
  pub adds : Adds added before now
  pub whole : (added ≡ []) ⊎ IfSome now (AreRoundsInTurns settings trace)

-- what a keeper's list is after such a run: the lines of the whole history, where that is answered; where the
-- run stopped in the middle, those of more whole rounds; and else as it was
abbrev pub LeavesList : Settings → TraceTables → List Entry → Option (List (List ℕ)) → Option (List (List ℕ)) → Status → Type 0
LeavesList settings trace history before now Done = now ≡ option_map (λ list. lines_of history) before
LeavesList settings trace history before now WriteFault = now ≡ option_map (λ list. lines_of history) before
LeavesList settings trace history before now (BadKept place) = now ≡ before
LeavesList settings trace history before now KeepFault = GrowsByRounds settings trace before now
LeavesList settings trace history before now NoMemory = GrowsByRounds settings trace before now
LeavesList settings trace history before now Usage = now ≡ before
LeavesList settings trace history before now (ReadFault table) = now ≡ before
LeavesList settings trace history before now (TooLong table) = now ≡ before
LeavesList settings trace history before now (BadRow table row column cause) = now ≡ before
LeavesList settings trace history before now (TooMany kind number) = now ≡ before

-- a run that goes on from some lines, which are the keeper's list where it tells that, and that is for the rest one
-- of `replay`
pub record IsResume (settings : Settings) (trace : TraceTables) (list list_now : Option (List (List ℕ))) (history : List Entry) (status : Status)
    (written written_now : Option (List ℕ)) : Type 0 where
  pub kept : List (List ℕ)
  pub told : IfSome list (λ lines. kept ≡ lines)
  pub answers : ResumeAnswers settings trace kept history status
  pub leaves : LeavesList settings trace history list list_now status
  pub replayed : IsReplayed settings trace history status written written_now

-- whatever the tables tell, there is a trace within the limits of which it is such a run: the one trace of the
-- history, the report and the kept lines
pub record IsSomeResume (settings : Settings) (list list_now : Option (List (List ℕ))) (history : List Entry) (status : Status)
    (written written_now : Option (List ℕ)) : Type 0 where
  pub trace : TraceTables
  pub within : IsWithinLimits trace
  pub resume : IsResume settings trace list list_now history status written written_now

-- the list of a keeper is told, and has no line yet or those of the first rounds of a trace in turns
pub record KeepsRounds (settings : Settings) (trace : TraceTables) (list : Option (List (List ℕ))) : Type 0 where
  pub kept : List (List ℕ)
  pub told : list ≡ Some kept
  pub rounds : (kept ≡ []) ⊎ AreRoundsInTurns settings trace kept

-- why a keeper's lines aren't loaded: it failed, or memory ran out
abbrev pub StopsLoading : Status → Type 0
StopsLoading KeepFault = ⊤
StopsLoading NoMemory = ⊤
StopsLoading (BadKept place) = ⊥
StopsLoading Done = ⊥
StopsLoading WriteFault = ⊥
StopsLoading Usage = ⊥
StopsLoading (ReadFault table) = ⊥
StopsLoading (TooLong table) = ⊥
StopsLoading (BadRow table row column cause) = ⊥
StopsLoading (TooMany kind number) = ⊥

-- why a run stops that goes on from kept lines and whose tables were read
abbrev pub StopsResume : Status → Type 0
StopsResume (BadKept place) = ⊤
StopsResume KeepFault = ⊤
StopsResume NoMemory = ⊤
StopsResume Done = ⊥
StopsResume WriteFault = ⊥
StopsResume Usage = ⊥
StopsResume (ReadFault table) = ⊥
StopsResume (TooLong table) = ⊥
StopsResume (BadRow table row column cause) = ⊥
StopsResume (TooMany kind number) = ⊥

-- why a run stops whose tables were read: for want of memory, and on `resume` also for kept lines that are
-- refused and for a keeper that failed
abbrev pub StopsBy : Command → Status → Type 0
StopsBy Resume status = StopsResume status
StopsBy Replay status = status ≡ NoMemory
StopsBy Run status = status ≡ NoMemory
StopsBy Generate status = status ≡ NoMemory
StopsBy Simulate status = status ≡ NoMemory
StopsBy Audit status = status ≡ NoMemory

-- how a run ends whose tables were read
abbrev pub EndsBy : Command → Status → Type 0
EndsBy command Done = ⊤
EndsBy command WriteFault = ⊤
EndsBy command NoMemory = ⊤
EndsBy command (BadKept place) = command ≡ Resume
EndsBy command KeepFault = command ≡ Resume
EndsBy command Usage = ⊥
EndsBy command (ReadFault table) = ⊥
EndsBy command (TooLong table) = ⊥
EndsBy command (BadRow table row column cause) = ⊥
EndsBy command (TooMany kind number) = ⊥

-- a run went on from what a keeper handed out, which are the lines of whole rounds of its history, to the
-- end: the keeper's list is that of the whole history
pub record KeepsWhole (before now : Option (List (List ℕ))) (history : List Entry) : Type 0 where
  pub kept : List (List ℕ)
  pub told : IfSome before (λ list. kept ≡ list)
  pub accepted : refused_for history kept ≡ None
  pub leaves : now ≡ option_map (λ list. lines_of history) before

-- a run that goes on from what a keeper handed out stopped before its end: why, and what the keeper's list is then
pub record StopsFrom (settings : Settings) (trace : TraceTables) (before now : Option (List (List ℕ))) (status : Status) : Type 0 where
  pub kept : List (List ℕ)
  pub told : IfSome before (λ list. kept ≡ list)
  pub stops : StopsResume status
  pub answers : ResumeAnswers settings trace kept [] status
  pub leaves : LeavesList settings trace [] before now status

-- a keeper's list stays, and its count of faults
pub record StaysAtKeeper (before now : Option (List (List ℕ))) (count count_now : ℕ) : Type 0 where
  pub list : now ≡ before
  pub faults : count_now ≡ count
