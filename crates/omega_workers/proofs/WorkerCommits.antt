-- A worker whose scheduler commits.
use Rattle.std.proofs.Common.{◌≡◌, ◌≢◌, ◌≤◌, ◌<◌, ◌+◌, ℕ, true, false, List, [], ◌∷◌, ◌++◌, length, take, Option, Some, None, refl, sym, ap, subst, ◌∙◌}
use Rattle.std.specs.Prelude.{slice_get, is_some}
use Rattle.omega_model.specs.State.{reply_of}
use Rattle.omega_model.specs.Work.{Standing, after_outcomes, commits_of, moved_on, outcomes_of}
use Rattle.omega_model.specs.declared.claims.Outcome.{Outcome}
use Rattle.omega_model.specs.declared.claims.Txn.{Txn}
use Rattle.omega_model.specs.declared.entries.Entry.{Entry}
use Rattle.omega_model.specs.declared.entries.Entry.TheVariants.{Commit}
use Rattle.omega_model.specs.declared.settings.Settings.{Settings}
use Rattle.omega_model.specs.declared.wishes.Request.{Request}
use Rattle.omega_desk.specs.Desks.{AnswersFirst, DeskState, IsSameDesk, left_at}
use Rattle.omega_desk.specs.Walks.{are_wished}
use Rattle.omega_workers.specs.AttemptsLeft.{attempts_left}
use Rattle.omega_laws.specs.NextCommit.{attempt_txn}
use Rattle.omega_workers.specs.Workers.{has_work, IsWorker, SyncedWithin, synced_of, to_do_of}
use Rattle.omega_workers.specs.WorkerSteps.{CommitsFirst, attempt_outcomes}
use Rattle.omega_workers.specs.declared.plans.Plan.{Plan}
use Rattle.omega_workers.specs.declared.worker.Worker.{Worker}
use Rattle.omega_workers.proofs.Answering.{planned_answers}
use Rattle.omega_workers.proofs.AttemptsLeft.{attempt_less}
use Rattle.omega_workers.proofs.CommitCounts.{commits_own}
use Rattle.omega_workers.proofs.HavingPlans.{unsynced}

-- no request is the first where none is left
pub first_none : (requests : List Request) → None ≡ slice_get requests 0 → requests ≡ []
first_none [] none = refl
first_none (request ∷ rest) none = absurd (cc)

-- so where a worker has no work
pub no_work : (worker : Worker) → has_work worker ≡ false → worker.desk.requests ≡ []
no_work worker idle = none_there worker.desk.requests idle where
  none_there : (requests : List Request) → is_some (slice_get requests 0) ≡ false → requests ≡ []
  none_there [] none = refl
  none_there (request ∷ rest) none = absurd (cc)

-- and some are where it has work
pub some_work : (worker : Worker) → has_work worker ≡ true → worker.desk.requests ≢ []
some_work worker works = some_there worker.desk.requests works where
  some_there : (requests : List Request) → is_some (slice_get requests 0) ≡ true → requests ≢ []
  some_there [] some = absurd (cc)
  some_there (request ∷ rest) some = λ none. absurd (cc none)

-- the first request and the others
pub first_some : (requests : List Request) (request : Request) → Some request ≡ slice_get requests 0
    → (rest : List Request) × (requests ≡ request ∷ rest)
first_some [] request is = absurd (cc)
first_some (first ∷ rest) request is = let same : first ≡ request = cc in (rest, ap (λ (r : Request). r ∷ rest) same)

-- what a standing moves on to
pub moved_to : (settings : Settings) (standing next : Standing) (requests : List Request) (request : Request) (rest : List Request) (outcomes : List Outcome)
    → requests ≡ request ∷ rest → after_outcomes settings standing requests outcomes ≡ Some next
    → next ≡ moved_on settings standing request rest outcomes
moved_to settings standing next requests request rest outcomes is moved =
    let both : Some (moved_on settings standing request rest outcomes) ≡ Some next =
    sym (ap (λ (rs : List Request). after_outcomes settings standing rs outcomes) is) ∙ moved in
    cc

-- outcomes of the attempt on the first request
pub answers_first : (settings : Settings) (scheduler : ℕ) (before held : List Entry) (seen : ℕ) (requests : List Request) (request : Request) (txn : Txn) (outcomes : List Outcome)
    → Some request ≡ slice_get requests 0
    → txn ≡ attempt_txn settings before scheduler seen request
    → outcomes ≡ outcomes_of txn.claims (reply_of held seen txn)
    → AnswersFirst requests outcomes
answers_first settings scheduler before held seen requests request txn outcomes first is are =
    let parts = first_some requests request first in
    let planned : Txn = attempt_txn settings before scheduler seen request in
    subst (λ (rs : List Request). AnswersFirst rs outcomes) (sym parts.1)
    (subst (λ (os : List Outcome). are_wished os request.wishes ≡ true)
    (sym (are ∙ ap (λ (t : Txn). outcomes_of t.claims (reply_of held seen t)) is))
    (planned_answers settings scheduler (commits_of scheduler before) (take seen before) request.wishes (reply_of held seen planned)))

-- a worker before its commit, and what the cell and the desk say after it
pub record IsCommitting (settings : Settings) (scheduler : ℕ) (before after : List Entry) (old : Worker) (desk : DeskState) (request : Request) (txn : Txn) (outcomes : List Outcome) : Type 0 where
  pub worker : IsWorker settings before scheduler old
  pub seen : ℕ
  pub synced : synced_of old ≡ Some seen
  pub tries : 1 ≤ settings.tries
  pub first : Some request ≡ slice_get old.desk.requests 0
  pub is : txn ≡ attempt_txn settings before scheduler seen request
  pub appended : after ≡ before ++ Commit scheduler seen txn (reply_of before seen txn) ∷ []
  pub outcome : outcomes ≡ outcomes_of txn.claims (reply_of before seen txn)
  pub same : IsSameDesk old.desk desk
  pub attempts : desk.attempts ≡ old.desk.attempts + 1
  pub moved : after_outcomes old.desk.settings (left_at old.desk) old.desk.requests outcomes ≡ Some (left_at desk)

module _ (settings : Settings) (scheduler : ℕ) (before after : List Entry) (old : Worker) (desk : DeskState) (request : Request) (txn : Txn) (outcomes : List Outcome)
    (on : IsCommitting settings scheduler before after old desk request txn outcomes) where
  left_moved : after_outcomes settings (left_at old.desk) old.desk.requests outcomes ≡ Some (left_at desk)
  left_moved = subst (λ (s : Settings). after_outcomes s (left_at old.desk) old.desk.requests outcomes ≡ Some (left_at desk)) on.worker.settings on.moved

  pub worker_after : (plan : Option Plan) → plan ≡ None → IsWorker settings after scheduler (record { desk = desk; plan = plan })
  worker_after plan none =
      let parts = first_some old.desk.requests request on.first in
      let next = moved_to settings (left_at old.desk) (left_at desk) old.desk.requests request parts.0 outcomes parts.1 left_moved in
      let less = attempt_less settings (left_at old.desk) request parts.0 outcomes on.tries parts.1 on.worker.tries in
      let entry : Entry = Commit scheduler on.seen txn (reply_of before on.seen txn) in
      subst (λ (h : List Entry). IsWorker settings h scheduler (record { desk = desk; plan = plan })) (sym on.appended) (record {
        settings = on.same.settings ∙ on.worker.settings;
        scheduler = on.same.scheduler ∙ on.worker.scheduler;
        attempts = on.attempts ∙ ap (λ (n : ℕ). n + 1) on.worker.attempts
            ∙ sym (commits_own scheduler on.seen txn (reply_of before on.seen txn) before);
        tries = subst (λ (s : Standing). s.taken < settings.tries) (sym next) less.1;
        seen = subst (λ (o : Option ℕ). SyncedWithin o (length (before ++ entry ∷ []))) (sym (unsynced (record { desk = desk; plan = plan }) none)) tt;
      })

  pub commits_first : (plan : Option Plan) → plan ≡ None → (place : ℕ) → place ≡ length before
      → CommitsFirst settings scheduler before old after (record { desk = desk; plan = plan }) place
  commits_first plan none place at_end =
      let parts = first_some old.desk.requests request on.first in
      record {
        request = request;
        rest = parts.0;
        work = parts.1;
        seen = on.seen;
        synced_before = on.synced;
        at_end = at_end;
        appended = on.appended
            ∙ ap (λ (t : Txn). before ++ Commit scheduler on.seen t (reply_of before on.seen t) ∷ []) on.is;
        spent = unsynced (record { desk = desk; plan = plan }) none;
        moved = subst (λ (os : List Outcome). after_outcomes settings (left_at old.desk) old.desk.requests os ≡ Some (left_at desk))
            (on.outcome ∙ ap (λ (t : Txn). outcomes_of t.claims (reply_of before on.seen t)) on.is) left_moved;
      }

-- fewer attempts are left after a commit
pub fewer_left : (settings : Settings) (scheduler : ℕ) (before after : List Entry) (old new : Worker) (place : ℕ) → 1 ≤ settings.tries
    → IsWorker settings before scheduler old → IsWorker settings after scheduler new
    → CommitsFirst settings scheduler before old after new place → to_do_of new < to_do_of old
fewer_left settings scheduler before after old new place tries was is did =
    let outcomes : List Outcome = attempt_outcomes settings before scheduler did.seen did.request in
    let next = moved_to settings (left_at old.desk) (left_at new.desk) old.desk.requests did.request did.rest outcomes did.work did.moved in
    let less = attempt_less settings (left_at old.desk) did.request did.rest outcomes tries did.work was.tries in
    let fewer : attempts_left settings (left_at new.desk) < attempts_left settings (left_at old.desk) =
    subst (λ (s : Standing). attempts_left settings s < attempts_left settings (left_at old.desk)) (sym next) less.0 in
    subst (λ (s : Settings). attempts_left s (left_at new.desk) < attempts_left old.desk.settings (left_at old.desk)) (sym is.settings)
    (subst (λ (s : Settings). attempts_left settings (left_at new.desk) < attempts_left s (left_at old.desk)) (sym was.settings) fewer)
