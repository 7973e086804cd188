-- A turn in two halves over the schedulers.
use Rattle.std.proofs.Common.{◌≡◌, ◌≢◌, ◌≤◌, ◌<◌, ◌+◌, ℕ, List, [], ◌∷◌, ◌++◌, length, Some, None, refl, sym, ap, subst, arith, ◌∙◌, inl, inr}
use Rattle.std.specs.Prelude.{◌⊎◌}
use Rattle.std.proofs.lemmas.Bool.{ne_eqb}
use Rattle.std.proofs.lemmas.Bool.Decides.{eqb_tells}
use Rattle.omega_model.specs.Lawful.{opened}
use Rattle.omega_model.specs.Policy.{schedulers}
use Rattle.omega_model.specs.State.{reply_of}
use Rattle.omega_model.specs.Stepping.{Step}
use Rattle.omega_model.specs.Work.{HasLeft}
use Rattle.omega_model.specs.World.{Commits, IsIdle, NobodySynced, StepAnswer, Syncs, World}
use Rattle.omega_model.specs.World.StepAnswer.{Idle, Synced, Committed}
use Rattle.omega_model.specs.declared.claims.Txn.{Txn}
use Rattle.omega_model.specs.declared.entries.Entry.{Entry}
use Rattle.omega_model.specs.declared.entries.Entry.TheVariants.{Commit}
use Rattle.omega_model.specs.declared.rows.Row.{Row}
use Rattle.omega_model.specs.declared.rows.Round.{Round}
use Rattle.omega_model.specs.declared.rows.TraceTables.{TraceTables}
use Rattle.omega_model.specs.declared.settings.Settings.{Settings}
use Rattle.omega_model.specs.declared.wishes.Request.{Request}
use Rattle.omega_laws.specs.NextCommit.{HasNoWork, WorksOn, attempt, attempt_txn, left_of}
use Rattle.omega_rounds.specs.Halves.{AwaitTurn, Committing, IdleBelow, Syncing}
use Rattle.omega_rounds.specs.Taking.{Taking, TurnsAt}
use Rattle.omega_laws.specs.TurnOrder.{attempt_in_turn, began, sees_in_turn, turn_of}
use Rattle.omega_laws.proofs.Agreeing.{is_attempt, left_push-other, works_or_idle}
use Rattle.omega_rounds.proofs.Taking.{taking_around, taking_commit, taking_skip}
use Rattle.omega_rounds.proofs.TurnsTaken.{turn_begins, turn_stays}

module _ (settings : Settings) (trace : TraceTables) (rows : List Row) (opened_at : ℕ) where
  -- where nothing is left there is no work
  left_idle : (history : List Entry) (scheduler : ℕ) (left : List Request)
      → HasLeft settings trace rows opened_at scheduler history left → left ≡ [] → HasNoWork settings trace rows opened_at history scheduler
  left_idle history scheduler left has none = has.remains ∙ ap (λ (l : List Request). Some l) none

  -- where some is left there is work
  left_works : (history : List Entry) (scheduler : ℕ) (left : List Request)
      → HasLeft settings trace rows opened_at scheduler history left → left ≢ []
      → (request : Request) × WorksOn settings trace rows opened_at history scheduler request
  left_works history scheduler [] has some = absurd (some refl)
  left_works history scheduler (request ∷ rest) has some = (request, (rest, has.remains))

  -- before the first half
  pub sync_first : (world : World) → NobodySynced world → Syncing settings trace rows opened_at world.history world 0
  sync_first world nobody = record {
    same = refl;
    have = λ scheduler below request works. absurd (omega arith);
    idle = λ scheduler below idle. absurd (omega arith);
    wait = λ scheduler above. nobody scheduler;
  }

  -- a step of the first half
  pub sync_step : (before : List Entry) (old new : World) (next : ℕ) (answer : StepAnswer)
      → Syncing settings trace rows opened_at before old next
      → Step settings trace rows opened_at old next new answer
      → Syncing settings trace rows opened_at before new (next + 1)
  sync_step before old new next Idle syncing step =
      let did : IsIdle old new step.left = step.steps in
      let idle_here : HasNoWork settings trace rows opened_at before next =
      subst (λ (h : List Entry). HasNoWork settings trace rows opened_at h next) syncing.same
      (left_idle old.history next step.left step.is_left did.no_work) in
      record {
        same = did.same_history ∙ syncing.same;
        have = λ scheduler below request works. elim (eqb_tells scheduler next) [
          | inl same ↦ absurd (works_or_idle settings trace rows opened_at before next request
              (subst (λ (s : ℕ). WorksOn settings trace rows opened_at before s request) same.1 works) idle_here)
          | inr other ↦ let apart : scheduler ≢ next = other.1 in did.same_synced scheduler ∙ syncing.have scheduler (grind (arith)) request works
        ];
        idle = λ scheduler below idle. elim (eqb_tells scheduler next) [
          | inl same ↦ did.same_synced scheduler ∙ syncing.wait scheduler (let e : scheduler ≡ next = same.1 in omega arith)
          | inr other ↦ let apart : scheduler ≢ next = other.1 in did.same_synced scheduler ∙ syncing.idle scheduler (grind (arith)) idle
        ];
        wait = λ scheduler above. did.same_synced scheduler ∙ syncing.wait scheduler (omega arith);
      }
  sync_step before old new next Synced syncing step =
      let did : Syncs old next new step.left = step.steps in
      let works_here = left_works old.history next step.left step.is_left did.has_work in
      record {
        same = did.same_history ∙ syncing.same;
        have = λ scheduler below request works. elim (eqb_tells scheduler next) [
          | inl same ↦ ap new.synced same.1 ∙ did.seen_all ∙ ap (λ (h : List Entry). Some (length h)) syncing.same
          | inr other ↦ let apart : scheduler ≢ next = other.1 in did.others scheduler apart ∙ syncing.have scheduler (grind (arith)) request works
        ];
        idle = λ scheduler below idle. elim (eqb_tells scheduler next) [
          | inl same ↦
              let here : HasNoWork settings trace rows opened_at before next = subst (HasNoWork settings trace rows opened_at before) same.1 idle in
              absurd (works_or_idle settings trace rows opened_at before next works_here.0
              (subst (λ (h : List Entry). WorksOn settings trace rows opened_at h next works_here.0) syncing.same works_here.1) here)
          | inr other ↦ let apart : scheduler ≢ next = other.1 in did.others scheduler apart ∙ syncing.idle scheduler (grind (arith)) idle
        ];
        wait = λ scheduler above.
            did.others scheduler (λ same. let e : scheduler ≡ next = same in absurd (omega arith)) ∙ syncing.wait scheduler (omega arith);
      }
  sync_step before old new next (Committed place) syncing step =
      let did : Commits settings old next new step.left place = step.steps in
      let clash : None ≡ Some did.seen = sym (syncing.wait next (omega arith)) ∙ did.synced_before in
      absurd (cc)

  -- between the halves
  await_first : (world : World) (turn : ℕ) → TurnsAt settings trace rows opened_at world.history turn 0
      → Syncing settings trace rows opened_at world.history world (schedulers settings)
      → AwaitTurn settings trace rows opened_at world turn 0
  await_first world turn at syncing =
      let begins : began world.history turn ≡ length world.history = turn_begins settings trace rows opened_at world.history turn at in
      record {
        have = λ scheduler known above request works. syncing.have scheduler known request works ∙ ap (λ (n : ℕ). Some n) (sym begins);
        idle = λ scheduler known above idle. syncing.idle scheduler known idle;
        spent = λ scheduler below. absurd (omega arith);
        far = λ scheduler far. syncing.wait scheduler far;
      }

  -- a scheduler without work has nothing to commit
  await_skip : (old new : World) (turn next : ℕ) (left : List Request) → next < schedulers settings
      → AwaitTurn settings trace rows opened_at old turn next → HasNoWork settings trace rows opened_at old.history next
      → IsIdle old new left
      → AwaitTurn settings trace rows opened_at new turn (next + 1)
  await_skip old new turn next left known await idle_here did = record {
    have = λ scheduler there above request works. did.same_synced scheduler
        ∙ await.have scheduler there (omega arith) request (subst (λ (h : List Entry). WorksOn settings trace rows opened_at h scheduler request) did.same_history works)
        ∙ ap (λ (h : List Entry). Some (began h turn)) (sym did.same_history);
    idle = λ scheduler there above idle. did.same_synced scheduler
        ∙ await.idle scheduler there (omega arith) (subst (λ (h : List Entry). HasNoWork settings trace rows opened_at h scheduler) did.same_history idle);
    spent = λ scheduler below. elim (eqb_tells scheduler next) [
      | inl same ↦ did.same_synced scheduler ∙ ap old.synced same.1 ∙ await.idle next known (omega arith) idle_here
      | inr other ↦ let apart : scheduler ≢ next = other.1 in did.same_synced scheduler ∙ await.spent scheduler (grind (arith))
    ];
    far = λ scheduler far. did.same_synced scheduler ∙ await.far scheduler far;
  }

  -- what a scheduler commits from that copy is its attempt in its turn
  is_in_turn : (old new : World) (turn next : ℕ) (left : List Request) (place : ℕ) → next < schedulers settings
      → TurnsAt settings trace rows opened_at old.history turn next → AwaitTurn settings trace rows opened_at old turn next
      → HasLeft settings trace rows opened_at next old.history left
      → (did : Commits settings old next new left place)
      → (turn_of old.history next ≡ turn)
      × (Commit next did.seen did.txn (reply_of old.history did.seen did.txn) ≡ attempt_in_turn settings old.history next did.request)
  is_in_turn old new turn next left place known at await has did =
      let history : List Entry = old.history in
      let works : WorksOn settings trace rows opened_at history next did.request = (did.rest, has.remains ∙ ap (λ (l : List Request). Some l) did.has_work) in
      let its_turn : turn_of history next ≡ turn = at.waits next known (omega arith) did.request works in
      let both : Some did.seen ≡ Some (began history turn) = sym did.synced_before ∙ await.have next known (omega arith) did.request works in
      let seen_began : did.seen ≡ began history turn = cc in
      let seen : did.seen ≡ sees_in_turn history next = seen_began ∙ ap (began history) (sym its_turn) in
      let txn : did.txn ≡ attempt_txn settings history next did.seen did.request = is_attempt settings history next did.seen did.txn did.request did.agrees in (
        its_turn,
        ap (λ (t : Txn). Commit next did.seen t (reply_of history did.seen t)) txn
            ∙ ap (λ (n : ℕ). attempt settings history next n did.request) seen,
      )

  -- a scheduler with work commits
  await_commit : (old new : World) (turn next : ℕ) (left : List Request) (place : ℕ) → next < schedulers settings → opened_at ≤ length old.history
      → turn_of old.history next ≡ turn → AwaitTurn settings trace rows opened_at old turn next
      → Commits settings old next new left place
      → AwaitTurn settings trace rows opened_at new turn (next + 1)
  await_commit old new turn next left place known within its_turn await did =
      let history : List Entry = old.history in
      let began_same : began new.history turn ≡ began history turn =
      ap (λ (h : List Entry). began h turn) did.appended
      ∙ turn_stays history next did.seen turn did.txn (reply_of history did.seen did.txn) its_turn in
      let same_left : (scheduler : ℕ) → next < scheduler → left_of settings trace rows opened_at new.history scheduler ≡ left_of settings trace rows opened_at history scheduler =
      λ scheduler above. ap (λ (h : List Entry). left_of settings trace rows opened_at h scheduler) did.appended
      ∙ left_push-other settings trace rows opened_at history
      (Commit next did.seen did.txn (reply_of history did.seen did.txn)) scheduler within
      (ne_eqb next scheduler (λ same. let e : next ≡ scheduler = same in absurd (omega arith))) in
      record {
        have = λ scheduler there above request works.
            did.others scheduler (λ same. let e : scheduler ≡ next = same in absurd (omega arith))
            ∙ await.have scheduler there (omega arith) request (works.0, sym (same_left scheduler (omega arith)) ∙ works.1)
            ∙ ap (λ (n : ℕ). Some n) (sym began_same);
        idle = λ scheduler there above idle.
            did.others scheduler (λ same. let e : scheduler ≡ next = same in absurd (omega arith))
            ∙ await.idle scheduler there (omega arith) (sym (same_left scheduler (omega arith)) ∙ idle);
        spent = λ scheduler below. elim (eqb_tells scheduler next) [
          | inl same ↦ ap new.synced same.1 ∙ did.spent
          | inr other ↦ let apart : scheduler ≢ next = other.1 in did.others scheduler apart ∙ await.spent scheduler (grind (arith))
        ];
        far = λ scheduler far. did.others scheduler (λ same. let e : scheduler ≡ next = same in absurd (omega arith)) ∙ await.far scheduler far;
      }

  -- one more scheduler has no work
  pub idle_more : (old new : World) (next : ℕ) → IdleBelow settings trace rows opened_at old.history next
      → Step settings trace rows opened_at old next new Idle
      → IdleBelow settings trace rows opened_at new.history (next + 1)
  idle_more old new next idle step scheduler below =
      let did : IsIdle old new step.left = step.steps in
      subst (λ (h : List Entry). HasNoWork settings trace rows opened_at h scheduler) (sym did.same_history) (elim (eqb_tells scheduler next) [
        | inl same ↦ subst (HasNoWork settings trace rows opened_at old.history) (sym same.1) (left_idle old.history next step.left step.is_left did.no_work)
        | inr other ↦ let apart : scheduler ≢ next = other.1 in idle scheduler (grind (arith))
      ])

module _ (settings : Settings) (trace : TraceTables) (rows : List Row) (start : List Entry) (round : Round) where
  -- after the first half all that have work have synced where the turn begins
  pub sync_last : (before : List Entry) (world : World) (turn : ℕ)
      → Taking settings trace rows start round before turn 0
      → Syncing settings trace (rows ++ round.rows) (length (opened trace rows start round).history) before world (schedulers settings)
      → Committing settings trace rows start round world turn 0
  sync_last before world turn taking syncing =
      let all : List Row = rows ++ round.rows in
      let at : ℕ = length (opened trace rows start round).history in
      let taking_here : Taking settings trace rows start round world.history turn 0 =
      subst (λ (h : List Entry). Taking settings trace rows start round h turn 0) (sym syncing.same) taking in
      record {
        taking = taking_here;
        await = await_first settings trace all at world turn taking_here.at
            (subst (λ (h : List Entry). Syncing settings trace all at h world (schedulers settings)) (sym syncing.same) syncing);
      }

  -- a step of the second half
  pub commit_step : (old new : World) (turn next : ℕ) (answer : StepAnswer) → next < schedulers settings
      → Committing settings trace rows start round old turn next
      → Step settings trace (rows ++ round.rows) (length (opened trace rows start round).history) old next new answer
      → Committing settings trace rows start round new turn (next + 1)
  commit_step old new turn next Idle known committing step =
      let all : List Row = rows ++ round.rows in
      let at : ℕ = length (opened trace rows start round).history in
      let did : IsIdle old new step.left = step.steps in
      let idle_here : HasNoWork settings trace all at old.history next = left_idle settings trace all at old.history next step.left step.is_left did.no_work in
      record {
        taking = subst (λ (h : List Entry). Taking settings trace rows start round h turn (next + 1)) (sym did.same_history)
            (taking_skip settings trace rows start round old.history turn next committing.taking idle_here);
        await = await_skip settings trace all at old new turn next step.left known committing.await idle_here did;
      }
  commit_step old new turn next Synced known committing step =
      let all : List Row = rows ++ round.rows in
      let at : ℕ = length (opened trace rows start round).history in
      let did : Syncs old next new step.left = step.steps in
      let works = left_works settings trace all at old.history next step.left step.is_left did.has_work in
      let clash : None ≡ Some (began old.history turn) = sym did.first ∙ committing.await.have next known (omega arith) works.0 works.1 in
      absurd (cc)
  commit_step old new turn next (Committed place) known committing step =
      let all : List Row = rows ++ round.rows in
      let at : ℕ = length (opened trace rows start round).history in
      let did : Commits settings old next new step.left place = step.steps in
      let in_turn = is_in_turn settings trace all at old new turn next step.left place known committing.taking.at committing.await step.is_left did in
      let works : WorksOn settings trace all at old.history next did.request = (did.rest, step.is_left.remains ∙ ap (λ (l : List Request). Some l) did.has_work) in
      let appended : new.history ≡ old.history ++ attempt_in_turn settings old.history next did.request ∷ [] =
      did.appended ∙ ap (λ (e : Entry). old.history ++ e ∷ []) in_turn.1 in
      record {
        taking = subst (λ (h : List Entry). Taking settings trace rows start round h turn (next + 1)) (sym appended)
            (taking_commit settings trace rows start round old.history turn next did.request committing.taking known works);
        await = await_commit settings trace all at old new turn next step.left place known committing.taking.within in_turn.0 committing.await did;
      }

  -- in the second half nobody syncs
  pub commits_only : (old new : World) (turn next : ℕ) → next < schedulers settings
      → Committing settings trace rows start round old turn next
      → Step settings trace (rows ++ round.rows) (length (opened trace rows start round).history) old next new Synced → ⊥
  commits_only old new turn next known committing step =
      let all : List Row = rows ++ round.rows in
      let at : ℕ = length (opened trace rows start round).history in
      let did : Syncs old next new step.left = step.steps in
      let works = left_works settings trace all at old.history next step.left step.is_left did.has_work in
      let clash : None ≡ Some (began old.history turn) = sym did.first ∙ committing.await.have next known (omega arith) works.0 works.1 in
      cc

  -- after the second half the next turn begins, and nobody has synced
  pub commit_last : (world : World) (turn : ℕ) → Committing settings trace rows start round world turn (schedulers settings)
      → Taking settings trace rows start round world.history (turn + 1) 0 × NobodySynced world
  commit_last world turn committing =
      (taking_around settings trace rows start round world.history turn committing.taking, nobody) where
        below_or_far : (scheduler count : ℕ) → (scheduler < count) ⊎ (count ≤ scheduler)
        below_or_far scheduler count = grind (arith)

        nobody : NobodySynced world
        nobody scheduler = elim (below_or_far scheduler (schedulers settings)) [
          | inl below ↦ committing.await.spent scheduler below
          | inr far ↦ committing.await.far scheduler far
        ]
