-- A player that plays on, by what its turns bring.
use Rattle.std.proofs.Common.{◌≡◌, ◌≢◌, ◌≤◌, ◌<◌, ◌+◌, ◌*◌, ◌-◌, ℕ, Bool, true, List, [], ◌∷◌, length, length-append, Some, None, refl, sym, ap, subst, arith, ◌∙◌, Option}
use Rattle.std.specs.Prelude.{slice_get}
use Rattle.atomic_table.specs.Seated.{TableId}
use Rattle.omega_model.proofs.Growing.{by_place_push_where}
use Rattle.omega_model.specs.Lawful.{after_last}
use Rattle.omega_model.specs.Policy.{schedulers}
use Rattle.omega_model.specs.Ranges.{IsInRange}
use Rattle.omega_model.specs.Work.{after_outcomes, commits_of}
use Rattle.omega_model.specs.declared.claims.Reply.{Reply}
use Rattle.omega_model.specs.declared.claims.Txn.{Txn}
use Rattle.omega_model.specs.declared.entries.Entry.{Entry}
use Rattle.omega_model.specs.declared.rows.Row.{Row}
use Rattle.omega_model.specs.declared.rows.TraceTables.{TraceTables}
use Rattle.omega_model.specs.declared.settings.Settings.{Settings}
use Rattle.omega_model.specs.declared.wishes.Request.{Request}
use Rattle.omega_plan.specs.Indexes.{AreIndexesOf}
use Rattle.omega_desk.specs.Desks.{AnswersFirst, DeskState, IsSameDesk, left_at}
use Rattle.omega_shared.specs.Commits.{GoesOnWithout, commit_after}
use Rattle.omega_shared.specs.Passes.{PassState}
use Rattle.omega_shared.specs.Turns.{Commits, SpendsTurn}
use Rattle.omega_laws.specs.NextCommit.{attempt}
use Rattle.omega_workers.specs.AttemptsLeft.{attempts_left}
use Rattle.omega_rounds.specs.Players.{HasPlayed, IsOwnDesk, MayPlay, MayStand, OwnMayStand}
use Rattle.omega_rounds.specs.PlayingOn.{IsSynced, PlansFirst, PlaysOn}
use Rattle.omega_workers.specs.Workers.{IsWorker, synced_of, to_do_of, SyncedWithin}
use Rattle.omega_workers.specs.WorkerSteps.{CommitsFirst, IsFirstAttempt}
use Rattle.omega_workers.specs.Plans.{IsPlan}
use Rattle.omega_workers.specs.declared.plans.Plan.{Plan}
use Rattle.omega_rounds.specs.declared.threads.player.Player.{Player}
use Rattle.omega_rounds.proofs.DeskCommits.{own_desk_own}
use Rattle.omega_laws.proofs.LastCommits.{after_last-within}
use Rattle.omega_workers.proofs.CommitCounts.{indexes_on}
use Rattle.omega_workers.proofs.HavingPlans.{seen_there, unsynced}
use Rattle.omega_workers.proofs.WorkerCommits.{IsCommitting, answers_first, commits_first, fewer_left, worker_after}
use Rattle.omega_rounds.proofs.Without.{after_last-without, attempt_without, desk_without, indexes_without, longer_without, worker_without, stand_without}

-- a turn after which the pass has seen commits of others, the desk is as before, and the indexes are those of
-- what the pass has seen
pub plays_on_without : (old new : Player) → IsWorker old.worker.desk.settings old.pass.seen old.pass.number old.worker
    → SpendsTurn old.pass new.pass → GoesOnWithout old.pass.number old.pass.seen new.pass.seen
    → new.worker.desk ≡ old.worker.desk → AreIndexesOf new.pass.seen new.indexes
    → SyncedWithin (synced_of new.worker) (length new.pass.seen)
    → PlaysOn old new
plays_on_without old new worker turn on same indexes seen =
    let settings : Settings = old.worker.desk.settings in
    let here = worker_without old.pass.number old.pass.seen new.pass.seen on settings old.worker worker in
    record {
      of = turn.of;
      number = turn.number;
      first_length = turn.first_length;
      within = longer_without old.pass.number old.pass.seen new.pass.seen on;
      worker = record {
        settings = ap (λ (d : DeskState). d.settings) same;
        scheduler = ap (λ (d : DeskState). d.scheduler) same ∙ worker.scheduler ∙ sym turn.number;
        attempts = ap (λ (d : DeskState). d.attempts) same ∙ here.attempts ∙ ap (λ (n : ℕ). commits_of n new.pass.seen) (sym turn.number);
        tries = subst (λ (d : DeskState). d.taken < settings.tries) (sym same) worker.tries;
        seen = seen;
      };
      indexes = indexes;
      desk = λ trace rows opened_at within is.
          subst (λ (d : DeskState). IsOwnDesk settings trace rows opened_at new.pass.seen new.pass.number d) (sym same)
          (subst (λ (n : ℕ). IsOwnDesk settings trace rows opened_at new.pass.seen n old.worker.desk) (sym turn.number)
          (desk_without old.pass.number old.pass.seen new.pass.seen on settings trace rows opened_at old.worker.desk within is));
      commits = λ opened_at within stand.
          subst (λ (n : ℕ). OwnMayStand settings opened_at n new.pass.seen) (sym turn.number)
          (stand_without old.pass.number old.pass.seen new.pass.seen on settings opened_at stand);
    }

-- also where it has no plan then
pub plays_on_none : (old new : Player) → IsWorker old.worker.desk.settings old.pass.seen old.pass.number old.worker
    → SpendsTurn old.pass new.pass → GoesOnWithout old.pass.number old.pass.seen new.pass.seen
    → new.worker.desk ≡ old.worker.desk → AreIndexesOf new.pass.seen new.indexes → new.worker.plan ≡ None
    → PlaysOn old new
plays_on_none old new worker turn on same indexes none =
    plays_on_without old new worker turn on same indexes
    (subst (λ (synced : Option ℕ). SyncedWithin synced (length new.pass.seen)) (sym (unsynced new.worker none)) tt)

-- what is planned at its desk after all that its pass has seen is a player's attempt
pub plans_first : (player : Player) (plan : Plan) → IsWorker player.worker.desk.settings player.pass.seen player.pass.number player.worker
    → plan.seen ≡ length player.pass.seen → IsPlan player.pass.seen player.worker.desk plan → PlansFirst player plan.txn
plans_first player plan worker all is =
    subst (λ (n : ℕ). IsFirstAttempt player.worker.desk.settings player.pass.seen n (length player.pass.seen) player.worker.desk plan.txn) worker.scheduler
    (subst (λ (seen : ℕ). IsFirstAttempt player.worker.desk.settings player.pass.seen player.worker.desk.scheduler seen player.worker.desk plan.txn) all is.txn)

-- its plan was made after all that its pass has seen
pub planned_all : (shared : TableId) (player : Player) (plan : Plan) → IsSynced shared player → Some plan ≡ player.worker.plan
    → plan.seen ≡ length player.pass.seen
planned_all shared player plan synced there =
    let both : Some plan.seen ≡ Some (length player.pass.seen) = sym (seen_there player.worker plan there) ∙ synced.all in cc

-- what a commit was answered is for the first request at the desk
pub takes_answers : (old : Player) → IsWorker old.worker.desk.settings old.pass.seen old.pass.number old.worker
    → (new : PassState) (txn : Txn) (reply : Reply) → PlansFirst old txn → Commits old.pass new (length old.pass.seen) txn reply
    → AnswersFirst old.worker.desk.requests reply.outcomes
takes_answers old worker new txn reply plans did =
    answers_first old.worker.desk.settings old.pass.number did.before did.before (length old.pass.seen) old.worker.desk.requests plans.request txn reply.outcomes
    (sym (ap (λ (rs : List Request). slice_get rs 0) plans.work))
    (plans.is ∙ attempt_without old.pass.number old.pass.seen did.before did.others old.worker.desk.settings (length old.pass.seen) plans.request (omega arith))
    did.answers.outcomes

-- a player before a commit, and what its pass and its desk say after it
pub record PlayerCommits (old new : Player) (txn : Txn) (reply : Reply) : Type 0 where
  pub shared : TableId
  pub synced : IsSynced shared old
  pub plans : PlansFirst old txn
  pub turn : SpendsTurn old.pass new.pass
  pub commits : Commits old.pass new.pass (length old.pass.seen) txn reply
  pub same : IsSameDesk old.worker.desk new.worker.desk
  pub attempts : new.worker.desk.attempts ≡ old.worker.desk.attempts + 1
  pub moved : after_outcomes old.worker.desk.settings (left_at old.worker.desk) old.worker.desk.requests reply.outcomes ≡ Some (left_at new.worker.desk)
  pub indexes : new.indexes ≡ old.indexes
  pub spent : new.worker.plan ≡ None

module _ (old new : Player) (txn : Txn) (reply : Reply) (did : PlayerCommits old new txn reply) where
  abbrev settings : Settings
  settings = old.worker.desk.settings

  abbrev number : ℕ
  number = old.pass.number

  abbrev before : List Entry
  before = did.commits.before

  -- the worker beside what was there before the commit
  worker_before : IsWorker settings before number old.worker
  worker_before = worker_without number old.pass.seen before did.commits.others settings old.worker did.synced.worker

  committing : IsCommitting settings number before new.pass.seen old.worker new.worker.desk did.plans.request txn reply.outcomes
  committing = record {
    worker = worker_before;
    tries = did.synced.range.tries.0;
    seen = length old.pass.seen;
    synced = did.synced.all;
    first = sym (ap (λ (rs : List Request). slice_get rs 0) did.plans.work);
    is = did.plans.is ∙ attempt_without number old.pass.seen before did.commits.others settings (length old.pass.seen) did.plans.request (omega arith);
    appended = did.commits.commit_seen;
    outcome = did.commits.answers.outcomes;
    same = did.same;
    attempts = did.attempts;
    moved = did.moved;
  }

  worker_next : IsWorker settings new.pass.seen number new.worker
  worker_next = worker_after settings number before new.pass.seen old.worker new.worker.desk did.plans.request txn reply.outcomes committing
      new.worker.plan did.spent

  -- the indexes are those of what was there, and so of what is there now
  indexes_next : AreIndexesOf new.pass.seen new.indexes
  indexes_next =
      subst (AreIndexesOf new.pass.seen) (sym did.indexes)
      (indexes_on old.indexes before new.pass.seen (commit_after before number (length old.pass.seen) txn ∷ [], did.commits.commit_seen)
      (indexes_without number old.pass.seen before did.commits.others old.indexes did.synced.indexes))

  first_next : CommitsFirst settings number before old.worker new.pass.seen new.worker reply.place
  first_next =
      commits_first settings number before new.pass.seen old.worker new.worker.desk did.plans.request txn reply.outcomes committing
      new.worker.plan did.spent reply.place did.commits.answers.place

  -- it had seen all that its pass had
  seen_all : first_next.seen ≡ length old.pass.seen
  seen_all = let both : Some first_next.seen ≡ Some (length old.pass.seen) = sym first_next.synced_before ∙ did.synced.all in cc

  -- fewer attempts are left
  pub fewer_after : to_do_of new.worker < to_do_of old.worker
  fewer_after = fewer_left settings number before new.pass.seen old.worker new.worker reply.place did.synced.range.tries.0 worker_before worker_next first_next

  -- the history before the commit is no shorter than what was seen
  longer : length old.pass.seen ≤ length before
  longer = longer_without number old.pass.seen before did.commits.others

  -- the commit may stand where it does
  commit_stands : (opened_at : ℕ) → opened_at ≤ length old.pass.seen → OwnMayStand settings opened_at number old.pass.seen
      → OwnMayStand settings opened_at number new.pass.seen
  commit_stands opened_at within stand =
      let seen = seen_all in
      let last : after_last number before ≤ length old.pass.seen =
      subst (λ (n : ℕ). n ≤ length old.pass.seen) (sym (after_last-without number old.pass.seen before did.commits.others))
      (after_last-within number old.pass.seen) in
      let more = longer in
      subst (OwnMayStand settings opened_at number) (sym first_next.appended)
      (by_place_push_where (λ place. opened_at ≤ place) (MayStand settings opened_at number) before
      (attempt settings before number first_next.seen first_next.request)
      (stand_without number old.pass.seen before did.commits.others settings opened_at stand)
      (λ same. record {
        known = did.synced.known;
        there = omega (arith, seen, more);
        rows = omega (arith, seen, within);
        own = omega (arith, seen, last);
        answered = refl;
      }))

  -- the desk is right after it
  desk_after : (trace : TraceTables) (rows : List Row) (opened_at : ℕ) → opened_at ≤ length old.pass.seen
      → IsOwnDesk settings trace rows opened_at old.pass.seen number old.worker.desk
      → IsOwnDesk settings trace rows opened_at new.pass.seen number new.worker.desk
  desk_after trace rows opened_at within is =
      let more = longer in
      subst (λ (h : List Entry). IsOwnDesk settings trace rows opened_at h number new.worker.desk) (sym first_next.appended)
      (own_desk_own settings trace rows opened_at before (omega (arith, more, within)) number first_next.seen first_next.request
      old.worker.desk new.worker.desk first_next.rest
      (desk_without number old.pass.seen before did.commits.others settings trace rows opened_at old.worker.desk within is)
      first_next.work first_next.moved)

  -- a player that commits plays on
  pub plays_on_commit : PlaysOn old new
  plays_on_commit =
      let more : length before ≤ length new.pass.seen = commit_longer in
      let first = longer in record {
        of = did.turn.of;
        number = did.turn.number;
        first_length = did.turn.first_length;
        within = omega (arith, first, more);
        worker = subst (λ (n : ℕ). IsWorker settings new.pass.seen n new.worker) (sym did.turn.number) worker_next;
        indexes = indexes_next;
        desk = λ trace rows opened_at within is.
            subst (λ (n : ℕ). IsOwnDesk settings trace rows opened_at new.pass.seen n new.worker.desk) (sym did.turn.number)
            (desk_after trace rows opened_at within is);
        commits = λ opened_at within stand.
            subst (λ (n : ℕ). OwnMayStand settings opened_at n new.pass.seen) (sym did.turn.number)
            (commit_stands opened_at within stand);
      } where
        commit_longer : length before ≤ length new.pass.seen
        commit_longer = subst (λ (h : List Entry). length before ≤ length h) (sym did.commits.commit_seen)
            (let count = length-append before (commit_after before number (length old.pass.seen) txn ∷ []) in omega (arith, count))

-- a player that plays on twice plays on
pub plays_on_both : (old now new : Player) → PlaysOn old now → PlaysOn now new → PlaysOn old new
plays_on_both old now new first second =
    let same : now.worker.desk.settings ≡ old.worker.desk.settings = first.worker.settings in
    let longer : length old.pass.seen ≤ length now.pass.seen = first.within in
    let later : length now.pass.seen ≤ length new.pass.seen = second.within in
    record {
      of = second.of ∙ first.of;
      number = second.number ∙ first.number;
      first_length = second.first_length ∙ first.first_length;
      within = omega (arith, longer, later);
      worker = subst (λ (s : Settings). IsWorker s new.pass.seen new.pass.number new.worker) same second.worker;
      indexes = second.indexes;
      desk = λ trace rows opened_at within is.
          subst (λ (s : Settings). IsOwnDesk s trace rows opened_at new.pass.seen new.pass.number new.worker.desk) same
          (second.desk trace rows opened_at (omega (arith, within, longer))
          (subst (λ (s : Settings). IsOwnDesk s trace rows opened_at now.pass.seen now.pass.number now.worker.desk) (sym same) (first.desk trace rows opened_at within is)));
      commits = λ opened_at within stand.
          subst (λ (s : Settings). OwnMayStand s opened_at new.pass.number new.pass.seen) same
          (second.commits opened_at (omega (arith, within, longer))
          (subst (λ (s : Settings). OwnMayStand s opened_at now.pass.number now.pass.seen) (sym same) (first.commits opened_at within stand)));
    }

-- while a request is left, so is an attempt
some_left : (requests : List Request) (tries taken : ℕ) → requests ≢ [] → taken < tries → 0 < length requests * tries - taken
some_left [] tries taken work less = absurd (work refl)
some_left (request ∷ rest) tries taken work less = grind arith

-- a player that may play and has work has turns left
module _ (shared : TableId) (old : Player) (may : MayPlay shared old) (work : old.worker.desk.requests ≢ []) where
  pub two_turns : 1 < old.pass.turns
  two_turns =
      let enough = may.turns in
      let some = some_left old.worker.desk.requests old.worker.desk.settings.tries old.worker.desk.taken work may.worker.tries in
      omega (arith, enough, some)

  pub one_turn : 0 < old.pass.turns
  one_turn = let two = two_turns in omega (arith, two)

  -- once its scheduler has synced after all that its pass has seen, it may commit
  pub synced_now : (now : Player) → PlaysOn old now → now.pass.turns + 1 ≡ old.pass.turns → now.worker.desk ≡ old.worker.desk
      → synced_of now.worker ≡ Some (length now.pass.seen) → IsSynced shared now
  synced_now now on turn desk all =
      let same : now.worker.desk.settings ≡ old.worker.desk.settings = on.worker.settings in
      let two = two_turns in
      record {
        range = subst IsInRange (sym same) may.range;
        of = on.of ∙ may.of;
        left = omega (arith, two, turn);
        known = subst (λ (s : Settings). now.pass.number < schedulers s) (sym same)
            (subst (λ (n : ℕ). n < schedulers old.worker.desk.settings) (sym on.number) may.known);
        worker = subst (λ (s : Settings). IsWorker s now.pass.seen now.pass.number now.worker) (sym same) on.worker;
        indexes = on.indexes;
        all = all;
      }

-- a player that has made an attempt in two turns may play on
pub may_play_after : (shared : TableId) (old now new : Player) → MayPlay shared old → PlaysOn old new
    → now.pass.turns + 1 ≡ old.pass.turns → now.worker.desk ≡ old.worker.desk
    → new.pass.turns + 1 ≡ now.pass.turns → to_do_of new.worker < to_do_of now.worker → MayPlay shared new
may_play_after shared old now new may on turn desk spent fewer =
    let same : new.worker.desk.settings ≡ old.worker.desk.settings = on.worker.settings in
    let enough = may.turns in
    let less : to_do_of new.worker < to_do_of old.worker = subst (λ (d : DeskState). to_do_of new.worker < attempts_left d.settings (left_at d)) desk fewer in
    record {
      of = on.of ∙ may.of;
      range = subst IsInRange (sym same) may.range;
      known = subst (λ (s : Settings). new.pass.number < schedulers s) (sym same)
          (subst (λ (n : ℕ). n < schedulers old.worker.desk.settings) (sym on.number) may.known);
      worker = subst (λ (s : Settings). IsWorker s new.pass.seen new.pass.number new.worker) (sym same) on.worker;
      indexes = on.indexes;
      turns = omega (arith, enough, less, turn, spent);
    }

-- a player before its first attempt
pub plays_on_same : (shared : TableId) (player : Player) → MayPlay shared player → PlaysOn player player
plays_on_same shared player may = record {
  of = refl;
  number = refl;
  first_length = refl;
  within = omega arith;
  worker = may.worker;
  indexes = may.indexes;
  desk = λ trace rows opened_at within is. is;
  commits = λ opened_at within stand. stand;
}

-- a player in the middle of its round: it has played on so far, may play on, and has met no want of memory since
pub record IsPlaying (shared : TableId) (old now : Player) : Type 0 where
  pub plays_on : PlaysOn old now
  pub may_play : MayPlay shared now
  pub failed : now.failed ≡ old.failed
  pub spent : synced_of old.worker ≡ None → synced_of now.worker ≡ None

-- where it begins
pub plays_first : (shared : TableId) (player : Player) → MayPlay shared player → IsPlaying shared player player
plays_first shared player may = record {
  plays_on = plays_on_same shared player may;
  may_play = may;
  failed = refl;
  spent = λ none. none;
}

-- after one more attempt
pub plays_more : (shared : TableId) (old now new : Player) → IsPlaying shared old now → PlaysOn now new → MayPlay shared new
    → synced_of new.worker ≡ None → new.failed ≡ now.failed → IsPlaying shared old new
plays_more shared old now new is on may spent failed = record {
  plays_on = plays_on_both old now new is.plays_on on;
  may_play = may;
  failed = failed ∙ is.failed;
  spent = λ none. spent;
}

-- where it meets want of memory in an attempt it has played so far
pub stopped : (shared : TableId) (old now new : Player) → IsPlaying shared old now → PlaysOn now new
    → HasPlayed old (record { worker = new.worker; indexes = new.indexes; pass = new.pass; failed = true })
stopped shared old now new is on =
    let both = plays_on_both old now new is.plays_on on in
    record {
      of = both.of;
      number = both.number;
      first_length = both.first_length;
      within = both.within;
      worker = both.worker;
      indexes = both.indexes;
      desk = both.desk;
      commits = both.commits;
      no_work = λ ok. absurd (cc ok);
      spent = λ ok before none. absurd (cc ok);
    }

-- at its end it has played, whether or not it had met want of memory before
pub played_all : (shared : TableId) (old now : Player) (failed : Bool) → IsPlaying shared old now
    → now.worker.desk.requests ≡ [] → HasPlayed old (record { worker = now.worker; indexes = now.indexes; pass = now.pass; failed = failed })
played_all shared old now failed is none = record {
  of = is.plays_on.of;
  number = is.plays_on.number;
  first_length = is.plays_on.first_length;
  within = is.plays_on.within;
  worker = is.plays_on.worker;
  indexes = is.plays_on.indexes;
  desk = is.plays_on.desk;
  commits = is.plays_on.commits;
  no_work = λ ok. none;
  spent = λ ok before. is.spent;
}
