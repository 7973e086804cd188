-- A world whose schedulers worked in a round on threads, once their shared cell is closed.
use Rattle.std.proofs.Common.{◌≡◌, ◌≤◌, ◌<◌, ℕ, zero, suc, true, List, [], ◌∷◌, ◌++◌, length, take, drop, get_or, Some, None, refl, sym, ap, subst, arith, ◌∙◌, inl, inr}
use Rattle.std.specs.Prelude.{slice_get}
use Rattle.std.proofs.lemmas.Bool.{both_ways, cases_lt, eqb-true}
use Rattle.std.proofs.lemmas.List.{take-append-le}
use Rattle.std.proofs.lemmas.Option.{get_or_from_slice_get, slice_get_cases, slice_get_within}
use Rattle.omega_model.specs.Lawful.{IsCommitOfRound, RoundSoFar, Underway, opened}
use Rattle.omega_model.specs.Policy.{schedulers}
use Rattle.omega_model.specs.Stepping.{IsInRound, rows_end}
use Rattle.omega_model.specs.Wanted.{WantedTask}
use Rattle.omega_model.specs.Work.{is_commit_of}
use Rattle.omega_model.specs.World.{NobodySynced, World}
use Rattle.omega_model.specs.declared.entries.Entry.{Entry}
use Rattle.omega_model.specs.declared.entries.Entry.TheVariants.{Round as RoundEntry, MachineAdd, MachineUpdate, MachineRemove, AttrSet, AttrDelete, End, Commit}
use Rattle.omega_model.specs.declared.rows.Row.{Row}
use Rattle.omega_model.specs.declared.rows.Round.{Round}
use Rattle.omega_model.specs.declared.rows.TraceTables.{TraceTables}
use Rattle.omega_model.specs.declared.settings.Settings.{Settings}
use Rattle.omega_rounds.specs.Closed.{AreBack, IsBack, IsCommitOfOne, IsDone}
use Rattle.omega_laws.specs.InRound.{rows_before, rows_now}
use Rattle.omega_rounds.specs.Keeping.{HasBegun, IsLawful, IsWorld, world_at}
use Rattle.omega_rounds.specs.Players.{IsOwnDesk, MayStand, OwnMayStand}
use Rattle.omega_workers.specs.Workers.{IsDeskOf, synced_of}
use Rattle.omega_rounds.specs.Stages.{IsInRunOf, Stage, rows_begun}
use Rattle.omega_workers.specs.declared.worker.Worker.{Worker}
use Rattle.omega_workers.proofs.HavingPlans.{plan_none}
use Rattle.omega_rounds.proofs.DeskCommits.{desk_with_failures, own_desk}
use Rattle.omega_rounds.proofs.RoundFailures.{counted_so_far}
use Rattle.omega_rounds.proofs.WorkerLists.{seen_at, seen_none}
use Rattle.omega_rounds.proofs.WorldBegins.{nobody_works}
use Rattle.omega_rounds.proofs.WorldSteps.{rows_same, state_at}
use Rattle.omega_rounds.proofs.Worlds.{rows_within}

-- an entry of a round may stand there if it is its scheduler's
stands_in_round : (settings : Settings) (opened_at scheduler : ℕ) (before : List Entry) (entry : Entry) → IsCommitOfRound settings opened_at before entry
    → MayStand settings opened_at scheduler before entry
stands_in_round settings opened_at scheduler before (RoundEntry number) is = absurd is
stands_in_round settings opened_at scheduler before (MachineAdd machine cap) is = absurd is
stands_in_round settings opened_at scheduler before (MachineUpdate machine cap) is = absurd is
stands_in_round settings opened_at scheduler before (MachineRemove machine) is = absurd is
stands_in_round settings opened_at scheduler before (AttrSet machine name value) is = absurd is
stands_in_round settings opened_at scheduler before (AttrDelete machine name) is = absurd is
stands_in_round settings opened_at scheduler before (End key machine) is = absurd is
stands_in_round settings opened_at scheduler before (Commit by seen txn reply) is = λ same. is

-- a commit of a scheduler that may stand there is one of the round
is_of_round : (settings : Settings) (opened_at scheduler : ℕ) (before : List Entry) (entry : Entry) → is_commit_of scheduler entry ≡ true
    → MayStand settings opened_at scheduler before entry → IsCommitOfRound settings opened_at before entry
is_of_round settings opened_at scheduler before (RoundEntry number) is stands = absurd (both_ways _ refl is)
is_of_round settings opened_at scheduler before (MachineAdd machine cap) is stands = absurd (both_ways _ refl is)
is_of_round settings opened_at scheduler before (MachineUpdate machine cap) is stands = absurd (both_ways _ refl is)
is_of_round settings opened_at scheduler before (MachineRemove machine) is stands = absurd (both_ways _ refl is)
is_of_round settings opened_at scheduler before (AttrSet machine name value) is stands = absurd (both_ways _ refl is)
is_of_round settings opened_at scheduler before (AttrDelete machine name) is stands = absurd (both_ways _ refl is)
is_of_round settings opened_at scheduler before (End key machine) is stands = absurd (both_ways _ refl is)
is_of_round settings opened_at scheduler before (Commit by seen txn reply) is stands = stands (eqb-true by scheduler is)

-- in a round that is under way the commits of each scheduler may stand where they do
pub own_stand : (settings : Settings) (trace : TraceTables) (rows : List Row) (start : List Entry) (round : Round) (history : List Entry)
    → RoundSoFar settings trace rows start round history
    → (scheduler : ℕ) → OwnMayStand settings (length (opened trace rows start round).history) scheduler history
own_stand settings trace rows start round history so_far scheduler = λ place entry is past.
    stands_in_round settings (length (opened trace rows start round).history) scheduler (take place history) entry (so_far.commits place entry is past)

-- an item that stands later in a list stands in the rest of it
later_get : {X : Type 0} (n : ℕ) (xs : List X) (place : ℕ) (x : X) → slice_get xs place ≡ Some x → n ≤ place
    → (k : ℕ) × ((k < length (drop n xs)) × (get_or (drop n xs) k x ≡ x))
later_get zero xs place x is past = (place, (slice_get_within xs place x is, get_or_from_slice_get xs place x x is))
later_get (suc n) [] place x is past = absurd (cc)
later_get (suc n) (y ∷ xs) zero x is past = absurd (omega arith)
later_get (suc n) (y ∷ xs) (suc place) x is past = later_get n xs place x is (omega arith)

-- an item of a longer list that stands within the first stands there in it
front_get : {X : Type 0} (xs ys : List X) (place : ℕ) (x : X) → place < length xs → slice_get (xs ++ ys) place ≡ Some x → slice_get xs place ≡ Some x
front_get [] ys place x within is = absurd (omega arith)
front_get (y ∷ xs) ys zero x within is = is
front_get (y ∷ xs) ys (suc place) x within is = front_get xs ys place x (omega arith) is

module _ (settings : Settings) (first history : List Entry) (old new : List Worker) (back : AreBack settings first history old new)
    (all : length old ≡ schedulers settings) where
  -- the worker with which a scheduler is back
  back_at : (number : ℕ) → number < schedulers settings
      → (worker : Worker) × ((slice_get new number ≡ Some worker) × ((was : Worker) × ((slice_get old number ≡ Some was) × IsBack settings first history number was worker)))
  back_at number known =
      let count : length new ≡ length old = back.count in
      elim (slice_get_cases new number).1 [
        | inl some ↦ (some.0, (some.2, back.each number some.0 some.2))
        | inr past ↦ absurd (omega (arith, past.0, count, all, known))
      ]

  module _ (trace : TraceTables) (rows : List Row) (start : List Entry) (round : Round)
      (within : length (opened trace rows start round).history ≤ length first)
      (so_far : RoundSoFar settings trace rows start round first)
      (desks : (number : ℕ) (worker : Worker) → slice_get old number ≡ Some worker
      → IsDeskOf settings trace (rows ++ round.rows) (length (opened trace rows start round).history) first number worker.desk) where
    abbrev base : ℕ
    base = length (opened trace rows start round).history

    -- an entry that was there before
    commit_before : (place : ℕ) (entry : Entry) → place < length first → slice_get history place ≡ Some entry → base ≤ place
        → IsCommitOfRound settings base (take place history) entry
    commit_before place entry inside is past =
        let more : List Entry = back.begins.0 in
        let here : slice_get first place ≡ Some entry = front_get first more place entry inside (ap (λ (h : List Entry). slice_get h place) (sym back.begins.1) ∙ is) in
        let shorter : place ≤ length first = omega (arith, inside) in
        let same : take place history ≡ take place first = ap (take place) back.begins.1 ∙ take-append-le place first more shorter in
        subst (λ (h : List Entry). IsCommitOfRound settings base h entry) (sym same) (so_far.commits place entry here past)

    -- an entry that came since
    commit_since : (place : ℕ) (entry : Entry) → length first ≤ place → slice_get history place ≡ Some entry → base ≤ place
        → IsCommitOfRound settings base (take place history) entry
    commit_since place entry later is past =
        let at = later_get (length first) history place entry is later in
        let one : IsCommitOfOne (length old) entry = subst (IsCommitOfOne (length old)) at.1.1 (back.since at.0 entry at.1.0) in
        let below : one.scheduler < length old = one.known in
        let its = back_at one.scheduler (omega (arith, below, all)) in
        is_of_round settings base one.scheduler (take place history) entry one.commit
        (its.1.1.1.1.commits base within (own_stand settings trace rows start round first so_far one.scheduler) place entry is past)

    -- a desk after it
    own_desk_after : (number : ℕ) (worker : Worker) → slice_get new number ≡ Some worker
        → IsOwnDesk settings trace (rows ++ round.rows) base history number worker.desk
    own_desk_after number worker here =
        let found = back.each number worker here in
        found.1.1.desk trace (rows ++ round.rows) base within
        (own_desk settings trace (rows ++ round.rows) base first number found.0.desk (desks number found.0 found.1.0))

    -- the round goes on
    pub so_far_closed : RoundSoFar settings trace rows start round history
    so_far_closed = record {
      begins = ap (take base) back.begins.1 ∙ take-append-le base first back.begins.0 within ∙ so_far.begins;
      commits = λ place entry is past. elim (cases_lt place (length first)) [
        | inl inside ↦ commit_before place entry inside is past
        | inr later ↦ commit_since place entry later is past
      ];
      work = λ number known.
          let its = back_at number known in
          (its.0.desk.requests, (own_desk_after number its.0 its.1.0).left);
    }

    -- and each desk is right
    pub desk_closed : (number : ℕ) (worker : Worker) → slice_get new number ≡ Some worker
        → IsDeskOf settings trace (rows ++ round.rows) base history number worker.desk
    desk_closed number worker here =
        let is : IsOwnDesk settings trace (rows ++ round.rows) base history number worker.desk = own_desk_after number worker here in
        desk_with_failures settings trace (rows ++ round.rows) base history number worker.desk is
        (λ job its. counted_so_far settings trace rows start round history so_far_closed number is.standing is.stands job its ∙ is.counts job its)

module _ (stage : Stage) (tasks : List WantedTask) (first history : List Entry) (old new : List Worker)
    (world : IsWorld stage tasks first old) (begun : 0 < stage.begun) (nobody : NobodySynced (world_at first old))
    (back : AreBack stage.settings first history old new) where
  -- nobody has synced
  nobody_closed : NobodySynced (world_at history new)
  nobody_closed = seen_none synced_of new (λ number worker here.
      let found = back.each number worker here in
      found.1.1.spent (sym (seen_at synced_of old number found.0 found.1.0) ∙ nobody number))

  lawful_closed : (trace : TraceTables) → IsInRunOf stage trace → HasBegun trace stage (world_at first old) → IsLawful trace stage history new
  lawful_closed trace made has =
      let settings : Settings = stage.settings in
      let one : World = world_at first old in
      let other : World = world_at history new in
      let underway = has.in_round.underway in
      let before : List Row = rows_before settings trace first underway in
      let place : ℕ = rows_end settings trace first underway in
      let rows : rows_begun stage ≡ rows_now settings trace first underway = rows_same trace stage one made has in
      let desks : (number : ℕ) (worker : Worker) → slice_get old number ≡ Some worker → IsDeskOf settings trace (before ++ underway.round.rows) place first number worker.desk =
      λ number worker here.
      subst (λ (n : ℕ). IsDeskOf settings trace (rows_now settings trace first underway) n first number worker.desk) has.rows
      (subst (λ (rs : List Row). IsDeskOf settings trace rs stage.opened_at first number worker.desk) rows ((world.lawful trace made).desks number worker here)) in
      let within : place ≤ length first = rows_within settings trace first underway in
      let so_far : RoundSoFar settings trace before underway.start underway.round history =
      so_far_closed settings first history old new back world.count trace before underway.start underway.round within underway.begun desks in
      let later : Underway settings trace history = record {
        done = underway.done;
        round = underway.round;
        next = underway.next;
        start = underway.start;
        whole = underway.whole;
        begun = so_far;
      } in
      let in_round : IsInRound settings trace other = record {
        underway = later;
        synced = λ scheduler seen is. let clash : None ≡ Some seen = sym (nobody_closed scheduler) ∙ is in absurd (cc);
      } in
      record {
        run = inr (record { in_round = in_round; count = has.count; rows = has.rows });
        desks = λ number worker here.
            subst (λ (n : ℕ). IsDeskOf settings trace (rows_begun stage) n history number worker.desk) (sym has.rows)
            (subst (λ (rs : List Row). IsDeskOf settings trace rs place history number worker.desk) (sym rows)
            (desk_closed settings first history old new back world.count trace before underway.start underway.round within underway.begun desks number worker here));
      }

  -- the world after the round
  pub world_closed : IsWorld stage tasks history new
  world_closed = record {
    range = world.range;
    within = world.within;
    asked = world.asked;
    count = back.count ∙ world.count;
    each_worker = λ number worker here. (back.each number worker here).1.1.worker;
    each_plan = λ number worker here. plan_none history worker (sym (seen_at synced_of new number worker here) ∙ nobody_closed number);
    made = world.made;
    lawful = λ trace made. elim (world.lawful trace made).run [
      | inl none ↦ let start : stage.begun ≡ 0 = none.none in absurd (omega (arith, begun, start))
      | inr has ↦ lawful_closed trace made has
    ];
  }

  -- nobody has work
  pub closed_done : IsDone (state_at stage history new)
  closed_done trace made =
      nobody_works trace stage tasks history new world_closed (λ number worker here. (back.each number worker here).1.1.no_work) made
