-- Turns of the schedulers of a world, one step after the other.
use Rattle.std.proofs.Common.{◌≡◌, ◌≤◌, ◌<◌, ◌+◌, ℕ, Bool, true, false, List, ◌++◌, length, refl, sym, ap, subst, arith, ◌∙◌}
use Rattle.std.specs.Prelude.{◌||◌}
use Rattle.omega_model.specs.Lawful.{opened}
use Rattle.omega_model.specs.Policy.{schedulers}
use Rattle.omega_model.specs.Stepping.{Step}
use Rattle.omega_model.specs.World.{NobodySynced}
use Rattle.omega_model.specs.declared.entries.Entry.{Entry}
use Rattle.omega_model.specs.declared.rows.Row.{Row}
use Rattle.omega_model.specs.declared.rows.Round.{Round}
use Rattle.omega_model.specs.declared.rows.TraceTables.{TraceTables}
use Rattle.omega_model.specs.declared.settings.Settings.{Settings}
use Rattle.omega_rounds.specs.Going.{IsRoundOver, LeavesToDo, answer_of}
use Rattle.omega_laws.specs.NextCommit.{NobodyHasWork}
use Rattle.omega_rounds.specs.Halves.{Committing, IdleBelow, Syncing}
use Rattle.omega_rounds.specs.Playing.{BeginsTurn, CommitsInTurn, CommitsTurn, IsRoundNow, PlaysRound, SyncsTurn, TakesTurnFrom}
use Rattle.omega_workers.specs.WorkerSteps.{is_committed}
use Rattle.omega_rounds.specs.Stages.{IsInRunOf, Stage, WorldState, rows_begun, world_of}
use Rattle.omega_rounds.specs.Taking.{Taking}
use Rattle.omega_workers.specs.declared.steps.Stepped.{Stepped}
use Rattle.omega_workers.specs.declared.steps.Stepped.TheVariants.{Synced, Committed, Idle}
use Rattle.omega_laws.proofs.RoundGrows.{round_ends}
use Rattle.omega_rounds.proofs.TwoHalves.{commit_last, commit_step, commits_only, idle_more, sync_first, sync_last, sync_step}

-- a step in the run of each trace in whose run a stage is
abbrev pub StepsFrom : Stage → WorldState → ℕ → WorldState → Stepped → Type 0
StepsFrom stage old scheduler new stepped =
    (trace : TraceTables) → IsInRunOf stage trace
    → Step stage.settings trace (rows_begun stage) stage.opened_at (world_of old) scheduler (world_of new) (answer_of stepped)

-- it is one in the round that is under way
pub step_now : (stage : Stage) (old new : WorldState) (scheduler : ℕ) (stepped : Stepped) → StepsFrom stage old scheduler new stepped
    → (trace : TraceTables) (before : List Row) (start : List Entry) (round : Round) → IsRoundNow trace before start round stage
    → Step stage.settings trace (before ++ round.rows) (length (opened trace before start round).history) (world_of old) scheduler (world_of new) (answer_of stepped)
step_now stage old new scheduler stepped steps trace before start round now =
    subst (λ (n : ℕ). Step stage.settings trace (before ++ round.rows) n (world_of old) scheduler (world_of new) (answer_of stepped)) now.opened
    (subst (λ (rs : List Row). Step stage.settings trace rs stage.opened_at (world_of old) scheduler (world_of new) (answer_of stepped)) now.rows
    (steps trace now.made))

-- no more can follow than before
no_more : (old new : WorldState) (stepped : Stepped) → LeavesToDo old new stepped → new.to_do ≤ old.to_do
no_more old new Idle leaves = omega (arith, leaves)
no_more old new Synced leaves = omega (arith, leaves)
no_more old new (Committed place) leaves = omega (arith, leaves)

-- the first half up to a scheduler
pub record IsSyncing (old now : WorldState) (next : ℕ) : Type 0 where
  pub stage : now.stage ≡ old.stage
  pub to_do : now.to_do ≤ old.to_do
  pub syncing : (trace : TraceTables) (before : List Row) (start : List Entry) (round : Round) → IsRoundNow trace before start round old.stage
      → NobodySynced (world_of old)
      → Syncing old.stage.settings trace (before ++ round.rows) (length (opened trace before start round).history) old.history (world_of now) next

pub syncing_none : (world : WorldState) → IsSyncing world world 0
syncing_none world = record {
  stage = refl;
  to_do = omega arith;
  syncing = λ trace before start round now nobody.
      sync_first world.stage.settings trace (before ++ round.rows) (length (opened trace before start round).history) (world_of world) nobody;
}

pub syncing_more : (old now new : WorldState) (next : ℕ) (stepped : Stepped) → IsSyncing old now next
    → new.stage ≡ now.stage → StepsFrom now.stage now next new stepped → LeavesToDo now new stepped
    → IsSyncing old new (next + 1)
syncing_more old now new next stepped is stage steps leaves = record {
  stage = stage ∙ is.stage;
  to_do = let before : now.to_do ≤ old.to_do = is.to_do in let more : new.to_do ≤ now.to_do = no_more now new stepped leaves in omega (arith, before, more);
  syncing = λ trace before start round at nobody.
      sync_step old.stage.settings trace (before ++ round.rows) (length (opened trace before start round).history) old.history (world_of now) (world_of new) next (answer_of stepped)
      (is.syncing trace before start round at nobody)
      (step_now old.stage now new next stepped (subst (λ (s : Stage). StepsFrom s now next new stepped) is.stage steps) trace before start round at);
}

pub syncing_all : (old now : WorldState) (count : ℕ) → IsSyncing old now count → count ≡ schedulers old.stage.settings → SyncsTurn old now
syncing_all old now count is all trace before start round turn begins =
    let taking : Taking old.stage.settings trace before start round old.history turn 0 = begins.taking in
    let syncing : Syncing old.stage.settings trace (before ++ round.rows) (length (opened trace before start round).history) old.history (world_of now) (schedulers old.stage.settings) =
    subst (λ (n : ℕ). Syncing old.stage.settings trace (before ++ round.rows) (length (opened trace before start round).history) old.history (world_of now) n) all
    (is.syncing trace before start round begins.now begins.nobody) in
    record {
      now = subst (IsRoundNow trace before start round) (sym is.stage) begins.now;
      committing = subst (λ (s : Settings). Committing s trace before start round (world_of now) turn 0) (ap (λ (s : Stage). s.settings) (sym is.stage))
          (sync_last old.stage.settings trace before start round old.history (world_of now) turn taking syncing);
    }

-- the second half up to a scheduler
pub record IsCommitting (old now : WorldState) (committed : Bool) (next : ℕ) : Type 0 where
  pub stage : now.stage ≡ old.stage
  pub to_do : now.to_do ≤ old.to_do
  pub fewer : committed ≡ true → now.to_do < old.to_do
  pub committing : (trace : TraceTables) (before : List Row) (start : List Entry) (round : Round) (turn : ℕ)
      → CommitsInTurn trace before start round old turn 0
      → Committing old.stage.settings trace before start round (world_of now) turn next
  pub idle : committed ≡ false → (trace : TraceTables) (before : List Row) (start : List Entry) (round : Round) (turn : ℕ)
      → CommitsInTurn trace before start round old turn 0
      → IdleBelow old.stage.settings trace (before ++ round.rows) (length (opened trace before start round).history) now.history next

pub committing_none : (world : WorldState) → IsCommitting world world false 0
committing_none world = record {
  stage = refl;
  to_do = omega arith;
  fewer = λ some. absurd (cc);
  committing = λ trace before start round turn commits. commits.committing;
  idle = λ none trace before start round turn commits scheduler below. absurd (omega arith);
}

fewer_more : (old now new : WorldState) (committed : Bool) (stepped : Stepped) → LeavesToDo now new stepped
    → now.to_do ≤ old.to_do → (committed ≡ true → now.to_do < old.to_do) → (is_committed stepped || committed) ≡ true → new.to_do < old.to_do
fewer_more old now new committed Idle leaves most fewer some = let before : now.to_do < old.to_do = fewer some in omega (arith, leaves, before)
fewer_more old now new committed Synced leaves most fewer some = let before : now.to_do < old.to_do = fewer some in omega (arith, leaves, before)
fewer_more old now new committed (Committed place) leaves most fewer some = omega (arith, leaves, most)

-- where nobody has committed the scheduler has no work
idle_step : (stage : Stage) (now new : WorldState) (committed : Bool) (next : ℕ) (stepped : Stepped) → (is_committed stepped || committed) ≡ false
    → next < schedulers stage.settings
    → (trace : TraceTables) (before : List Row) (start : List Entry) (round : Round) (turn : ℕ)
    → Committing stage.settings trace before start round (world_of now) turn next
    → Step stage.settings trace (before ++ round.rows) (length (opened trace before start round).history) (world_of now) next (world_of new) (answer_of stepped)
    → (committed ≡ false → IdleBelow stage.settings trace (before ++ round.rows) (length (opened trace before start round).history) now.history next)
    → IdleBelow stage.settings trace (before ++ round.rows) (length (opened trace before start round).history) new.history (next + 1)
idle_step stage now new committed next Idle none known trace before start round turn committing step idle =
    idle_more stage.settings trace (before ++ round.rows) (length (opened trace before start round).history) (world_of now) (world_of new) next (idle none) step
idle_step stage now new committed next Synced none known trace before start round turn committing step idle =
    absurd (commits_only stage.settings trace before start round (world_of now) (world_of new) turn next known committing step)
idle_step stage now new committed next (Committed place) none known trace before start round turn committing step idle = absurd (cc)

pub committing_more : (old now new : WorldState) (committed : Bool) (next : ℕ) (stepped : Stepped) → IsCommitting old now committed next
    → next < schedulers old.stage.settings
    → new.stage ≡ now.stage → StepsFrom now.stage now next new stepped → LeavesToDo now new stepped
    → IsCommitting old new (is_committed stepped || committed) (next + 1)
committing_more old now new committed next stepped is known stage steps leaves =
    let from : StepsFrom old.stage now next new stepped = subst (λ (s : Stage). StepsFrom s now next new stepped) is.stage steps in
    record {
      stage = stage ∙ is.stage;
      to_do = let before : now.to_do ≤ old.to_do = is.to_do in let more : new.to_do ≤ now.to_do = no_more now new stepped leaves in omega (arith, before, more);
      fewer = fewer_more old now new committed stepped leaves is.to_do is.fewer;
      committing = λ trace before start round turn commits.
          commit_step old.stage.settings trace before start round (world_of now) (world_of new) turn next (answer_of stepped) known
          (is.committing trace before start round turn commits)
          (step_now old.stage now new next stepped from trace before start round commits.now);
      idle = λ none trace before start round turn commits.
          idle_step old.stage now new committed next stepped none known trace before start round turn (is.committing trace before start round turn commits)
          (step_now old.stage now new next stepped from trace before start round commits.now)
          (λ nobody. is.idle nobody trace before start round turn commits);
    }

-- nobody has work in the round that is under way
pub over_now : (world : WorldState) (trace : TraceTables) (before : List Row) (start : List Entry) (round : Round) → IsRoundNow trace before start round world.stage
    → NobodyHasWork world.stage.settings trace (before ++ round.rows) (length (opened trace before start round).history) world.history
    → IsRoundOver trace world
over_now world trace before start round now nobody =
    subst (λ (rs : List Row). NobodyHasWork world.stage.settings trace rs world.stage.opened_at world.history) (sym now.rows)
    (subst (λ (n : ℕ). NobodyHasWork world.stage.settings trace (before ++ round.rows) n world.history) (sym now.opened) nobody)

pub committing_all : (old now : WorldState) (committed : Bool) (count : ℕ) → IsCommitting old now committed count → count ≡ schedulers old.stage.settings
    → CommitsTurn old now committed
committing_all old now committed count is all trace before start round turn commits =
    let same : old.stage ≡ now.stage = sym is.stage in
    let now_is : IsRoundNow trace before start round now.stage = subst (IsRoundNow trace before start round) same commits.now in
    let committing : Committing old.stage.settings trace before start round (world_of now) turn (schedulers old.stage.settings) =
    subst (λ (n : ℕ). Committing old.stage.settings trace before start round (world_of now) turn n) all (is.committing trace before start round turn commits) in (
      record {
        now = now_is;
        committing = subst (λ (s : Settings). Committing s trace before start round (world_of now) turn (schedulers s)) (ap (λ (s : Stage). s.settings) same) committing;
      },
      λ none. over_now now trace before start round now_is
          (subst (λ (s : Settings). NobodyHasWork s trace (before ++ round.rows) (length (opened trace before start round).history) now.history) (ap (λ (s : Stage). s.settings) same)
          (subst (λ (n : ℕ). IdleBelow old.stage.settings trace (before ++ round.rows) (length (opened trace before start round).history) now.history n) all
          (is.idle none trace before start round turn commits))),
    )

-- a turn in two halves
pub turn_taken : (old middle new : WorldState) (committed : Bool) → SyncsTurn old middle → CommitsTurn middle new committed → TakesTurnFrom old new committed
turn_taken old middle new committed syncs commits trace before start round turn begins =
    let last = commits trace before start round turn (syncs trace before start round turn begins) in
    let around = commit_last new.stage.settings trace before start round (world_of new) turn last.0.committing in
    (record { now = last.0.now; taking = around.0; nobody = around.1 }, last.1)

-- turns up to some moment of a round
abbrev pub TakesTurns : WorldState → WorldState → Type 0
TakesTurns old now =
    (trace : TraceTables) (before : List Row) (start : List Entry) (round : Round)
    → BeginsTurn trace before start round old 0 → (turn : ℕ) × BeginsTurn trace before start round now turn

pub turns_none : (world : WorldState) → TakesTurns world world
turns_none world trace before start round begins = (0, begins)

pub turns_more : (old now new : WorldState) (committed : Bool) → TakesTurns old now → TakesTurnFrom now new committed → TakesTurns old new
turns_more old now new committed takes turn trace before start round begins =
    let so_far = takes trace before start round begins in
    (so_far.0 + 1, (turn trace before start round so_far.0 so_far.1).0)

-- after a turn in which nobody commits the round is played
pub turns_last : (old now new : WorldState) → TakesTurns old now → TakesTurnFrom now new false → PlaysRound old new
turns_last old now new takes turn trace before start round begins =
    let so_far = takes trace before start round begins in
    let last = turn trace before start round so_far.0 so_far.1 in
    let over : IsRoundOver trace new = last.1 refl in
    let idle : NobodyHasWork new.stage.settings trace (before ++ round.rows) (length (opened trace before start round).history) new.history =
    subst (λ (n : ℕ). NobodyHasWork new.stage.settings trace (before ++ round.rows) n new.history) last.0.now.opened
    (subst (λ (rs : List Row). NobodyHasWork new.stage.settings trace rs new.stage.opened_at new.history) last.0.now.rows over) in
    (last.0.taking.turns, (over, round_ends new.stage.settings trace before start round new.history last.0.taking.so_far idle))
