-- The schedulers take turns: what each does when it has its turn keeps to the turns.
use Rattle.std.proofs.Common.{◌≡◌, ◌≢◌, ◌≤◌, ◌<◌, ◌+◌, ℕ, Bool, true, false, List, [], ◌∷◌, ◌++◌, length, Some, refl, sym, ap, subst, arith, ◌∙◌, inl, inr, length-append}
use Rattle.std.specs.Prelude.{option_map, unwrap_or, ◌==◌, All, if◌then◌else◌}
use Rattle.std.specs.List.{find}
use Rattle.std.proofs.lemmas.Bool.{eq-eqb, ne_eqb}
use Rattle.std.proofs.lemmas.Bool.Decides.{eqb_tells}
use Rattle.std.proofs.lemmas.List.Elements.{All-head, All-nil, All-push, All-same, All-tail, All-weaker}
use Rattle.omega_model.specs.Lawful.{MayCommit, after_last, opened}
use Rattle.omega_model.specs.Policy.{schedulers}
use Rattle.omega_model.specs.State.{reply_of}
use Rattle.omega_model.specs.Turns.{KeepsTurns, StandsBefore, Taken, next_turn, round_commits, turn_start}
use Rattle.omega_model.specs.Work.{AgreesWithFirst, standing_of}
use Rattle.omega_model.specs.declared.claims.Judgement.{Judgement}
use Rattle.omega_model.specs.declared.claims.Txn.{Txn}
use Rattle.omega_model.specs.declared.entries.Entry.{Entry}
use Rattle.omega_model.specs.declared.entries.Entry.TheVariants.{Commit}
use Rattle.omega_model.specs.declared.rows.Row.{Row}
use Rattle.omega_model.specs.declared.rows.Round.{Round}
use Rattle.omega_model.specs.declared.rows.TraceTables.{TraceTables}
use Rattle.omega_model.specs.declared.settings.Settings.{Settings}
use Rattle.omega_model.specs.declared.wishes.Request.{Request}
use Rattle.omega_laws.specs.NextCommit.{HasNoWork, WorksOn, attempt_txn}
use Rattle.omega_rounds.specs.Taking.{TurnsAt}
use Rattle.omega_laws.specs.TurnOrder.{attempt_in_turn, began, sees_in_turn, turn_of}
use Rattle.omega_laws.proofs.Agreeing.{agrees_first, left_push-other, works_or_idle}
use Rattle.omega_laws.proofs.CommitsRead.{commits_push, opened_has_none, place_read, turn_push, turn_push-other}
use Rattle.omega_laws.proofs.LastCommits.{after_last-other, after_last-within}

-- where no commit is of a turn, the turn begins at the next place
begins_next : (turn : ℕ) (commits : List Taken) (place : ℕ) → All (λ (taken : Taken). taken.turn < turn) commits
    → turn_start turn commits place ≡ place
begins_next turn [] place all = refl
begins_next turn (taken ∷ commits) place all =
    let earlier : taken.turn < turn = All-head (λ (taken : Taken). taken.turn < turn) taken commits all in
    let other : (taken.turn == turn) ≡ false = ne_eqb taken.turn turn (λ same. let e : taken.turn ≡ turn = same in absurd (omega arith)) in
    rw other (begins_next turn commits place (All-tail (λ (taken : Taken). taken.turn < turn) taken commits all))

-- one more commit of a turn leaves its beginning
begins_same : (turn : ℕ) (commits : List Taken) (taken : Taken) (place after : ℕ) → taken.turn ≡ turn → taken.place ≡ place
    → turn_start turn (commits ++ taken ∷ []) after ≡ turn_start turn commits place
begins_same turn [] taken place after of_turn at = rw (eq-eqb taken.turn turn of_turn) at
begins_same turn (first ∷ commits) taken place after of_turn at =
    by_test (first.turn == turn) (begins_same turn commits taken place after of_turn at) where
      by_test : (test : Bool) → turn_start turn (commits ++ taken ∷ []) after ≡ turn_start turn commits place
          → unwrap_or (option_map (λ (taken : Taken). taken.place) (if test then Some first else find (λ taken. taken.turn == turn) (commits ++ taken ∷ []))) after
          ≡ unwrap_or (option_map (λ (taken : Taken). taken.place) (if test then Some first else find (λ taken. taken.turn == turn) commits)) place
      by_test true rest = refl
      by_test false rest = rest

-- a turn stays where it began while the schedulers have theirs
pub turn_stays : (before : List Entry) (by seen turn : ℕ) (txn : Txn) (reply : List Judgement)
    → turn_of before by ≡ turn
    → began (before ++ Commit by seen txn reply ∷ []) turn ≡ began before turn
turn_stays before by seen turn txn reply its_turn =
    ap (λ (commits : List Taken). turn_start turn commits (length (before ++ Commit by seen txn reply ∷ []))) (commits_push before by seen txn reply)
    ∙ begins_same turn (round_commits before) _ (length before) (length (before ++ Commit by seen txn reply ∷ [])) its_turn (place_read before)

-- what stands before a scheduler's turn stands before the next scheduler's
one_more : (turn next : ℕ) (taken : Taken) → StandsBefore turn next taken → StandsBefore turn (next + 1) taken
one_more turn next taken (inl earlier) = inl earlier
one_more turn next taken (inr same) = inr (same.0, (let below : taken.scheduler < next = same.1 in omega arith))

-- a round begins with turn 0 of scheduler 0
pub turns_first : (settings : Settings) (trace : TraceTables) (rows : List Row) (start : List Entry) (round : Round)
    → TurnsAt settings trace (rows ++ round.rows) (length (opened trace rows start round).history) (opened trace rows start round).history 0 0
turns_first settings trace rows start round =
    let base : List Entry = (opened trace rows start round).history in
    let none : round_commits base ≡ [] = opened_has_none trace rows start round in
    let at : began base 0 ≡ length base = ap (λ commits. turn_start 0 commits (length base)) none in
    record {
      order = All-same (StandsBefore 0 0) (round_commits base) [] none (All-nil (StandsBefore 0 0));
      had = λ scheduler known below request works. absurd (omega arith);
      waits = λ scheduler known above request works. ap (next_turn scheduler) none;
      after_rows = omega (arith, at);
      there = omega (arith, at);
      after_own = λ scheduler above. let last : after_last scheduler base ≤ length base = after_last-within scheduler base in omega (arith, at, last);
    }

module _ (settings : Settings) (trace : TraceTables) (rows : List Row) (opened_at : ℕ) (before : List Entry) where
  -- a scheduler without work lets its turn go by
  pub turns_skip : (turn next : ℕ) → TurnsAt settings trace rows opened_at before turn next
      → HasNoWork settings trace rows opened_at before next
      → TurnsAt settings trace rows opened_at before turn (next + 1)
  turns_skip turn next at idle = record {
    order = All-weaker (StandsBefore turn next) (StandsBefore turn (next + 1)) (one_more turn next) (round_commits before) at.order;
    had = λ scheduler known below request works. elim (eqb_tells scheduler next) [
      | inl same ↦ absurd (works_or_idle settings trace rows opened_at before next request
          (subst (λ (s : ℕ). WorksOn settings trace rows opened_at before s request) same.1 works) idle)
      | inr other ↦ let apart : scheduler ≢ next = other.1 in at.had scheduler known (grind (arith)) request works
    ];
    waits = λ scheduler known above request works. at.waits scheduler known (omega arith) request works;
    after_rows = at.after_rows;
    there = at.there;
    after_own = λ scheduler above. at.after_own scheduler (omega arith);
  }

  -- after the last scheduler the next turn begins
  pub turns_around : (turn : ℕ) → TurnsAt settings trace rows opened_at before turn (schedulers settings)
      → TurnsAt settings trace rows opened_at before (turn + 1) 0
  turns_around turn at =
      let all : All (λ (taken : Taken). taken.turn < turn + 1) (round_commits before) =
      All-weaker (StandsBefore turn (schedulers settings)) (λ (taken : Taken). taken.turn < turn + 1) below (round_commits before) at.order in
      let begins : began before (turn + 1) ≡ length before = begins_next (turn + 1) (round_commits before) (length before) all in
      let one : opened_at ≤ began before turn = at.after_rows in
      let two : began before turn ≤ length before = at.there in
      record {
        order = All-weaker (λ (taken : Taken). taken.turn < turn + 1) (StandsBefore (turn + 1) 0) (λ taken earlier. inl earlier) (round_commits before) all;
        had = λ scheduler known below request works. absurd (omega arith);
        waits = λ scheduler known above request works. at.had scheduler known known request works;
        after_rows = omega (arith, begins, one, two);
        there = omega (arith, begins);
        after_own = λ scheduler above. let last : after_last scheduler before ≤ length before = after_last-within scheduler before in omega (arith, begins, last);
      } where
        below : (taken : Taken) → StandsBefore turn (schedulers settings) taken → taken.turn < turn + 1
        below taken (inl earlier) = omega arith
        below taken (inr same) = let e : taken.turn ≡ turn = same.0 in omega arith

  -- a turn that nobody has had begins at the next place: what all see who sync then
  pub turn_begins : (turn : ℕ) → TurnsAt settings trace rows opened_at before turn 0 → began before turn ≡ length before
  turn_begins turn at =
      begins_next turn (round_commits before) (length before)
      (All-weaker (StandsBefore turn 0) (λ (taken : Taken). taken.turn < turn) earlier (round_commits before) at.order) where
        earlier : (taken : Taken) → StandsBefore turn 0 taken → taken.turn < turn
        earlier taken (inl is) = is
        earlier taken (inr is) = let below : taken.scheduler < 0 = is.1 in absurd (omega arith)

  -- the commit of a scheduler in its turn agrees with the first request that remains
  pub turns_agrees : (next : ℕ) (request : Request) → WorksOn settings trace rows opened_at before next request
      → AgreesWithFirst settings next before (sees_in_turn before next) (attempt_txn settings before next (sees_in_turn before next) request)
      (standing_of settings trace rows opened_at next before)
  turns_agrees next request works =
      agrees_first settings next before (sees_in_turn before next) (attempt_txn settings before next (sees_in_turn before next) request)
      (standing_of settings trace rows opened_at next before) request works.0 works.1
      (record { job = refl; rule = refl; mode = refl; claims = refl })

  module _ (turn next : ℕ) (request : Request) (at : TurnsAt settings trace rows opened_at before turn next) (known : next < schedulers settings)
      (works : WorksOn settings trace rows opened_at before next request) where
    its_turn : turn_of before next ≡ turn
    its_turn = at.waits next known (omega arith) request works

    -- it may stand there
    pub turns_may : MayCommit settings opened_at before next (sees_in_turn before next) (attempt_txn settings before next (sees_in_turn before next) request)
        (reply_of before (sees_in_turn before next) (attempt_txn settings before next (sees_in_turn before next) request))
    turns_may =
        let seen : sees_in_turn before next ≡ began before turn = ap (began before) its_turn in
        record {
          known = known;
          there = subst (λ (n : ℕ). n ≤ length before) (sym seen) at.there;
          rows = subst (λ (n : ℕ). opened_at ≤ n) (sym seen) at.after_rows;
          own = subst (λ (n : ℕ). after_last next before ≤ n) (sym seen) (at.after_own next (omega arith));
          answered = refl;
        }

    -- it keeps to the turns
    pub turns_keeps : KeepsTurns before (attempt_in_turn settings before next request)
    turns_keeps = record {
      order = subst (λ (t : ℕ). All (StandsBefore t next) (round_commits before)) (sym its_turn) at.order;
      seen_first = refl;
    }

    -- and then the next scheduler has its turn
    pub turns_commit : opened_at ≤ length before
        → TurnsAt settings trace rows opened_at (before ++ attempt_in_turn settings before next request ∷ []) turn (next + 1)
    turns_commit within =
        let seen : ℕ = sees_in_turn before next in
        let txn : Txn = attempt_txn settings before next seen request in
        let reply : List Judgement = reply_of before seen txn in
        let itself : (next == next) ≡ true = eq-eqb next next refl in
        let begins : began (before ++ Commit next seen txn reply ∷ []) turn ≡ began before turn = turn_stays before next seen turn txn reply its_turn in
        record {
          order = All-same (StandsBefore turn (next + 1)) (round_commits (before ++ Commit next seen txn reply ∷ [])) _ (commits_push before next seen txn reply)
              (All-push (StandsBefore turn (next + 1)) (round_commits before) _
              (All-weaker (StandsBefore turn next) (StandsBefore turn (next + 1)) (one_more turn next) (round_commits before) at.order)
              (inr (its_turn, omega arith)));
          had = λ scheduler there below wanted works_then. elim (eqb_tells scheduler next) [
            | inl same ↦
                let pushed = turn_push before next seen txn reply next in
                let more : turn_of (before ++ Commit next seen txn reply ∷ []) next ≡ turn_of before next + 1 = pushed ∙ rw itself refl in
                ap (turn_of (before ++ Commit next seen txn reply ∷ [])) same.1 ∙ more ∙ ap (λ (t : ℕ). t + 1) its_turn
            | inr other ↦
                let apart : scheduler ≢ next = other.1 in
                let differs : (next == scheduler) ≡ false = ne_eqb next scheduler (λ same. apart (sym same)) in
                turn_push-other before next seen txn reply scheduler differs
                ∙ at.had scheduler there (grind (arith)) wanted
                (works_then.0, sym (left_push-other settings trace rows opened_at before (Commit next seen txn reply) scheduler within differs) ∙ works_then.1)
          ];
          waits = λ scheduler there above wanted works_then.
              let differs : (next == scheduler) ≡ false = ne_eqb next scheduler (λ same. let e : next ≡ scheduler = same in absurd (omega arith)) in
              turn_push-other before next seen txn reply scheduler differs
              ∙ at.waits scheduler there (omega arith) wanted
              (works_then.0, sym (left_push-other settings trace rows opened_at before (Commit next seen txn reply) scheduler within differs) ∙ works_then.1);
          after_rows = subst (λ (n : ℕ). opened_at ≤ n) (sym begins) at.after_rows;
          there = rw (begins, length-append before (Commit next seen txn reply ∷ [])) (let two : began before turn ≤ length before = at.there in omega arith);
          after_own = λ scheduler above.
              let differs : (next == scheduler) ≡ false = ne_eqb next scheduler (λ same. let e : next ≡ scheduler = same in absurd (omega arith)) in
              subst (λ (n : ℕ). n ≤ began (before ++ Commit next seen txn reply ∷ []) turn) (sym (after_last-other before next seen txn reply scheduler differs))
              (subst (λ (n : ℕ). after_last scheduler before ≤ n) (sym begins) (at.after_own scheduler (omega arith)));
        }
