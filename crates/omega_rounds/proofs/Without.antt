-- What stays as it was in a history that goes on without a commit of a scheduler.
use Rattle.std.proofs.Common.{◌≡◌, ◌≤◌, ◌+◌, ℕ, false, List, [], ◌∷◌, ◌++◌, length, take, refl, sym, ap, subst, ◌∙◌, arith, append_assoc, append-nil, length-append}
use Rattle.std.proofs.lemmas.Bool.{eqb-false}
use Rattle.std.proofs.lemmas.List.{take-append-le}
use Rattle.omega_model.proofs.Growing.{by_place_push_where}
use Rattle.omega_model.proofs.Remaining.{none_among}
use Rattle.omega_model.specs.Lawful.{after_last}
use Rattle.omega_model.specs.Work.{commits_of, is_commit_of}
use Rattle.omega_model.specs.declared.entries.Entry.{Entry}
use Rattle.omega_model.specs.declared.entries.Entry.TheVariants.{Round, MachineAdd, MachineUpdate, MachineRemove, AttrSet, AttrDelete, End, Commit}
use Rattle.omega_model.specs.declared.rows.Row.{Row}
use Rattle.omega_model.specs.declared.rows.TraceTables.{TraceTables}
use Rattle.omega_model.specs.declared.settings.Settings.{Settings}
use Rattle.omega_model.specs.declared.wishes.Request.{Request}
use Rattle.omega_plan.specs.Indexes.{AreIndexesOf}
use Rattle.omega_plan.specs.declared.indexes.Indexes.{Indexes}
use Rattle.omega_desk.specs.Desks.{DeskState}
use Rattle.omega_shared.specs.Commits.{GoesOnWithout}
use Rattle.omega_laws.specs.NextCommit.{attempt_txn}
use Rattle.omega_rounds.specs.Players.{IsOwnDesk, MayStand, OwnMayStand}
use Rattle.omega_workers.specs.Workers.{IsWorker, synced_of}
use Rattle.omega_workers.specs.declared.worker.Worker.{Worker}
use Rattle.omega_workers.proofs.CommitCounts.{commits_other, indexes_on, synced_longer}
use Rattle.omega_rounds.proofs.DeskCommits.{own_desk_other}
use Rattle.omega_laws.proofs.LastCommits.{after_last-none}

-- what stays with each entry that is no commit of a scheduler stays in a history that goes on without one
module _ (scheduler : ℕ) (P : List Entry → Type 0)
    (stays : (history : List Entry) (entry : Entry) → is_commit_of scheduler entry ≡ false → P history → P (history ++ entry ∷ [])) where
  stays_after : (history later : List Entry) → commits_of scheduler later ≡ 0 → P history → P (history ++ later)
  stays_after history [] none holds = subst P (sym (append-nil history)) holds
  stays_after history (entry ∷ later) none holds =
      let parts = none_among scheduler entry later none in
      subst P (append_assoc history (entry ∷ []) later)
      (stays_after (history ++ entry ∷ []) later parts.1 (stays history entry parts.0 holds))

  pub stays_without : (old new : List Entry) → GoesOnWithout scheduler old new → P old → P new
  stays_without old new on holds = subst P (sym on.goes_on) (stays_after old on.later on.others holds)

-- an entry that is no commit of the scheduler may stand anywhere
other_may_stand : (settings : Settings) (opened_at scheduler : ℕ) (before : List Entry) (entry : Entry)
    → is_commit_of scheduler entry ≡ false → MayStand settings opened_at scheduler before entry
other_may_stand settings opened_at scheduler before (Round number) other = tt
other_may_stand settings opened_at scheduler before (MachineAdd machine cap) other = tt
other_may_stand settings opened_at scheduler before (MachineUpdate machine cap) other = tt
other_may_stand settings opened_at scheduler before (MachineRemove machine) other = tt
other_may_stand settings opened_at scheduler before (AttrSet machine name value) other = tt
other_may_stand settings opened_at scheduler before (AttrDelete machine name) other = tt
other_may_stand settings opened_at scheduler before (End key machine) other = tt
other_may_stand settings opened_at scheduler before (Commit by seen txn reply) other = λ same. absurd (eqb-false by scheduler other same)

module _ (scheduler : ℕ) (old new : List Entry) (on : GoesOnWithout scheduler old new) where
  -- the history is no shorter
  pub longer_without : length old ≤ length new
  longer_without =
      let count : length new ≡ length old + length on.later = ap length on.goes_on ∙ length-append old on.later in
      omega (arith, count)

  -- it begins alike
  pub front_without : (count : ℕ) → count ≤ length old → take count new ≡ take count old
  front_without count within = ap (take count) on.goes_on ∙ take-append-le count old on.later within

  -- the scheduler has as many commits
  pub commits_without : commits_of scheduler new ≡ commits_of scheduler old
  commits_without =
      stays_without scheduler (λ history. commits_of scheduler history ≡ commits_of scheduler old)
      (λ history entry other same. commits_other scheduler history entry other ∙ same) old new on refl

  -- its last one is the same
  pub after_last-without : after_last scheduler new ≡ after_last scheduler old
  after_last-without =
      stays_without scheduler (λ history. after_last scheduler history ≡ after_last scheduler old)
      (λ history entry other same. after_last-none scheduler history entry other ∙ same) old new on refl

  -- indexes are its indexes
  pub indexes_without : (indexes : Indexes) → AreIndexesOf old indexes → AreIndexesOf new indexes
  indexes_without indexes are = indexes_on indexes old new (on.later, on.goes_on) are

  -- the scheduler's worker is its worker
  pub worker_without : (settings : Settings) (worker : Worker) → IsWorker settings old scheduler worker → IsWorker settings new scheduler worker
  worker_without settings worker is = record {
    settings = is.settings;
    scheduler = is.scheduler;
    attempts = is.attempts ∙ sym commits_without;
    tries = is.tries;
    seen = synced_longer (synced_of worker) (length old) (length new) longer_without is.seen;
  }

  -- its attempt, after some of the old history, is the same
  pub attempt_without : (settings : Settings) (seen : ℕ) (request : Request) → seen ≤ length old
      → attempt_txn settings old scheduler seen request ≡ attempt_txn settings new scheduler seen request
  attempt_without settings seen request within = rw (commits_without, front_without seen within) refl

  -- its desk is right
  pub desk_without : (settings : Settings) (trace : TraceTables) (rows : List Row) (opened_at : ℕ) (desk : DeskState) → opened_at ≤ length old
      → IsOwnDesk settings trace rows opened_at old scheduler desk → IsOwnDesk settings trace rows opened_at new scheduler desk
  desk_without settings trace rows opened_at desk within is =
      (stays_without scheduler (λ history. (opened_at ≤ length history) × IsOwnDesk settings trace rows opened_at history scheduler desk)
      (λ history entry other both. (
        let more = length-append history (entry ∷ []) in let here = both.0 in omega (arith, more, here),
        own_desk_other settings trace rows opened_at history both.0 scheduler entry other desk both.1,
      )) old new on (within, is)).1

  -- and its commits may stand where they do
  pub stand_without : (settings : Settings) (opened_at : ℕ) → OwnMayStand settings opened_at scheduler old → OwnMayStand settings opened_at scheduler new
  stand_without settings opened_at stand =
      stays_without scheduler (OwnMayStand settings opened_at scheduler)
      (λ history entry other here. by_place_push_where (λ place. opened_at ≤ place) (MayStand settings opened_at scheduler) history entry here
      (other_may_stand settings opened_at scheduler history entry other)) old new on stand
