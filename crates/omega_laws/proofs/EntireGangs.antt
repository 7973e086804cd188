-- Where a scheduler commits gangs, each request that it has left is one with which the round began.
use Rattle.std.proofs.Common.{◌≡◌, ◌≤◌, ◌<◌, ◌+◌, ℕ, suc, Bool, true, false, not, ◌&&◌, ◌||◌, List, [], ◌∷◌, ◌++◌, length, map, drop, Option, Some, None, refl, sym, ap, subst, arith, ◌∙◌, inl, inr, ◌==◌, append-nil}
use Rattle.std.specs.List.{filter, list_any, AllByRecursion}
use Rattle.std.specs.Prelude.{nat_le, slice_get, ◌⊎◌}
use Rattle.std.proofs.lemmas.Bool.{eq-eqb, eqb-true}
use Rattle.std.proofs.Math.Seq.{take-length}
use Rattle.std.proofs.Math.ListN.{drop_of_length-le}
use Rattle.omega_model.specs.Keys.{same_key}
use Rattle.omega_model.specs.Lawful.{IsCommitOfRound, RoundSoFar, opened}
use Rattle.omega_model.specs.Policy.{policy_of, schedulers}
use Rattle.omega_model.specs.Reply.{admits, all_or_nothing, by_mode, first_refused, judgements, withdrawn_for}
use Rattle.omega_model.specs.Requests.{requests}
use Rattle.omega_model.specs.State.{reply_of, state}
use Rattle.omega_model.specs.Touches.{is_placed}
use Rattle.omega_model.specs.Work.{Agrees, AgreesWithFirst, IsDue, Standing, after_entry, after_outcomes, ends_request, failing_after, is_empty, moved_on, outcomes_of, places_wish, rest_of, standing_of}
use Rattle.omega_model.specs.declared.cells.TaskKey.{TaskKey}
use Rattle.omega_model.specs.declared.claims.Claim.{Claim}
use Rattle.omega_model.specs.declared.claims.Judgement.{Judgement}
use Rattle.omega_model.specs.declared.claims.Mode.{Mode}
use Rattle.omega_model.specs.declared.claims.Mode.TheVariants.{Gang}
use Rattle.omega_model.specs.declared.claims.Outcome.{Outcome}
use Rattle.omega_model.specs.declared.claims.Txn.{Txn}
use Rattle.omega_model.specs.declared.entries.Entry.{Entry}
use Rattle.omega_model.specs.declared.entries.Entry.TheVariants.{Round as RoundEntry, MachineAdd, MachineUpdate, MachineRemove, AttrSet, AttrDelete, End, Commit}
use Rattle.omega_model.specs.declared.rows.Row.{Row}
use Rattle.omega_model.specs.declared.rows.Round.{Round}
use Rattle.omega_model.specs.declared.rows.TraceTables.{TraceTables}
use Rattle.omega_model.specs.declared.settings.Settings.{Settings}
use Rattle.omega_model.specs.declared.wishes.Request.{Request}
use Rattle.omega_model.specs.declared.wishes.Wish.{Wish}
use Rattle.omega_model.proofs.Lists.{by_answer, each_map, each_of, filter_every, filter_none}
use Rattle.omega_model.proofs.Standing.{after_entry-other, standing_push}
use Rattle.omega_laws.specs.WholeCommits.{claimed, wished}
use Rattle.omega_laws.proofs.OneJob.{AllAsk, AsksForItsJob, plan_of_request, standing_asks}
use Rattle.omega_laws.proofs.Places.{at_seam_from, front_push, longer}
use Rattle.omega_laws.proofs.RoundsAdd.{round_from}
use Rattle.omega_laws.proofs.Suited.{OfValue, each_unmapped}
use Rattle.omega_model.proofs.Answered.{length-judgements}
use Rattle.omega_model.proofs.InOrder.{key_itself}

-- whether outcomes place the task of this name
abbrev places_task : List Outcome → TaskKey → Bool
places_task outcomes key = list_any (λ outcome. is_placed outcome.verdict && same_key outcome.key key) outcomes

-- a judgement admits its claim, or doesn't
abbrev Admits : Judgement → Type 0
Admits judgement = admits judgement ≡ true

abbrev Refuses : Judgement → Type 0
Refuses judgement = admits judgement ≡ false

-- where there is no refusal each claim is admitted
all_admitted : (reply : List Judgement) → first_refused reply ≡ length reply → AllByRecursion Admits reply
all_admitted [] whole = tt
all_admitted (judgement ∷ reply) whole =
    by_answer (admits judgement)
    (λ t. (t, all_admitted reply (let rest = rw t at whole in omega (arith, rest))))
    (λ f. absurd (let none = rw f at whole in omega (arith, none)))

-- a withdrawn gang has no claim admitted
none_admitted : (place : ℕ) (reply : List Judgement) → AllByRecursion Refuses (map (withdrawn_for place) reply)
none_admitted place [] = tt
none_admitted place (judgement ∷ reply) =
    (by_answer (admits judgement) (λ t. rw t refl) (λ f. rw f f), none_admitted place reply)

-- then no task is placed
none_placed : (claims : List Claim) (reply : List Judgement) (key : TaskKey) → AllByRecursion Refuses reply → places_task (outcomes_of claims reply) key ≡ false
none_placed [] reply key none = refl
none_placed (claim ∷ claims) [] key none = refl
none_placed (claim ∷ claims) (judgement ∷ reply) key none = rw none.0 (none_placed claims reply key none.1)

or_true : (a : Bool) → (a || true) ≡ true
or_true true = refl
or_true false = refl

-- and where each claim is admitted, each of their tasks is
all_placed : (claims : List Claim) (reply : List Judgement) → length reply ≡ length claims → AllByRecursion Admits reply
    → AllByRecursion (λ key. places_task (outcomes_of claims reply) key ≡ true) (claimed claims)
all_placed [] reply long all = tt
all_placed (claim ∷ claims) [] long all = absurd (omega arith)
all_placed (claim ∷ claims) (judgement ∷ reply) long all =
    let rest : length reply ≡ length claims = omega arith in (
      rw (all.0, key_itself claim.key) refl,
      each_map (λ key. places_task (outcomes_of claims reply) key ≡ true) (λ key. places_task (outcomes_of (claim ∷ claims) (judgement ∷ reply)) key ≡ true)
          (λ key t. rw t (or_true (is_placed judgement.verdict && same_key claim.key key))) (claimed claims) (all_placed claims reply rest all.1),
    )

-- nothing was placed and nothing is empty, where a request goes on
goes_on : (a b c d : Bool) → (a || b || c || d) ≡ false → (a ≡ false) × (b ≡ false)
goes_on true true c d is = absurd (cc)
goes_on true false c d is = absurd (cc)
goes_on false true c d is = absurd (cc)
goes_on false false c d is = (refl, refl)

module _ (settings : Settings) (taken failing : ℕ) (request : Request) where
  -- a request of which a gang places all ends, and one of which it places nothing stays as it is
  reply_keeps : (claims : List Claim) (told : List Judgement) → length told ≡ length claims → claimed claims ≡ wished request.wishes
      → ends_request settings taken failing request (outcomes_of claims (all_or_nothing told)) ≡ false
      → rest_of request (outcomes_of claims (all_or_nothing told)) ≡ request
  reply_keeps claims told long all =
      by_answer (first_refused told == length told)
      (λ t. rw t (λ goes. absurd (placed_all (all_admitted told (eqb-true (first_refused told) (length told) t)) goes)))
      (λ f. rw f (λ goes. kept (map (withdrawn_for (first_refused told)) told) (none_admitted (first_refused told) told))) where
        placed_all : AllByRecursion Admits told → ends_request settings taken failing request (outcomes_of claims told) ≡ false → ⊥
        placed_all admitted goes =
            let each : AllByRecursion (λ (wish : Wish). places_task (outcomes_of claims told) wish.key ≡ true) request.wishes =
            each_unmapped (λ key. places_task (outcomes_of claims told) key ≡ true) (λ (wish : Wish). wish.key) request.wishes
            (subst (λ (keys : List TaskKey). AllByRecursion (λ key. places_task (outcomes_of claims told) key ≡ true) keys) all (all_placed claims told long admitted)) in
            let none : filter (λ (wish : Wish). not (places_wish (outcomes_of claims told) wish)) request.wishes ≡ [] =
            filter_none (λ (wish : Wish). not (places_wish (outcomes_of claims told) wish)) request.wishes
            (each_map (λ (wish : Wish). places_task (outcomes_of claims told) wish.key ≡ true) (λ (wish : Wish). not (places_wish (outcomes_of claims told) wish) ≡ false)
            (λ wish t. ap not t) request.wishes each) in
            let some : is_empty (rest_of request (outcomes_of claims told)).wishes ≡ false =
            (goes_on (is_empty (rest_of request (outcomes_of claims told)).wishes) (is_empty (outcomes_of claims told)) (nat_le settings.tries taken)
            (nat_le settings.give_up failing) goes).0 in
            let clash : true ≡ false = sym (ap (λ (wishes : List Wish). is_empty wishes) none) ∙ some in absurd (cc)

        kept : (reply : List Judgement) → AllByRecursion Refuses reply → rest_of request (outcomes_of claims reply) ≡ request
        kept reply none =
            ap (λ (wishes : List Wish). record { job = request.job; wishes = wishes })
            (filter_every (λ (wish : Wish). not (places_wish (outcomes_of claims reply) wish)) request.wishes
            (each_of (λ (wish : Wish). not (places_wish (outcomes_of claims reply) wish) ≡ true)
            (λ wish. ap not (none_placed claims reply wish.key none)) request.wishes))

  -- so a request that goes on after a gang is as it was
  gang_keeps : (before : List Entry) (seen : ℕ) (txn : Txn) → txn.mode ≡ Gang
      → (claimed txn.claims ≡ wished request.wishes) ⊎ (txn.claims ≡ [])
      → ends_request settings taken failing request (outcomes_of txn.claims (reply_of before seen txn)) ≡ false
      → rest_of request (outcomes_of txn.claims (reply_of before seen txn)) ≡ request
  gang_keeps before seen txn gang (inl all) =
      let told : List Judgement = judgements before seen (state before) txn.rule txn.claims in
      let is : reply_of before seen txn ≡ all_or_nothing told = ap (λ (mode : Mode). by_mode mode told) gang in
      subst (λ (reply : List Judgement). ends_request settings taken failing request (outcomes_of txn.claims reply) ≡ false
      → rest_of request (outcomes_of txn.claims reply) ≡ request) (sym is)
      (reply_keeps txn.claims told (length-judgements before seen (state before) txn.rule txn.claims) all)
  gang_keeps before seen txn gang (inr none) = λ goes.
      let reply : List Judgement = reply_of before seen txn in
      let some : is_empty (outcomes_of txn.claims reply) ≡ false =
      (goes_on (is_empty (rest_of request (outcomes_of txn.claims reply)).wishes) (is_empty (outcomes_of txn.claims reply)) (nat_le settings.tries taken)
      (nat_le settings.give_up failing) goes).1 in
      let clash : true ≡ false = sym (ap (λ (claims : List Claim). is_empty (outcomes_of claims reply)) none) ∙ some in absurd (cc)

-- a request is one of these
abbrev pub IsOneOf : List Request → Request → Type 0
IsOneOf all request = (number : ℕ) × (slice_get all number ≡ Some request)

each_is_one : (all : List Request) → AllByRecursion (IsOneOf all) all
each_is_one [] = tt
each_is_one (request ∷ rest) =
    ((0, refl), each_map (IsOneOf rest) (IsOneOf (request ∷ rest)) (λ other is. (suc is.0, is.1)) rest (each_is_one rest))

module _ (settings : Settings) (trace : TraceTables) (scheduler : ℕ) (gangs : (policy_of settings scheduler).mode ≡ Gang) (all : List Request) where
  -- each request that remains is one of all
  abbrev pub AreEntire : Standing → Type 0
  AreEntire standing = AllByRecursion (IsOneOf all) standing.requests

  moved_entire : (standing : Standing) (before : List Entry) (seen : ℕ) (txn : Txn) (request : Request) (rest : List Request)
      → AsksForItsJob request → Agrees settings scheduler before seen txn request → IsOneOf all request → AllByRecursion (IsOneOf all) rest
      → AreEntire (moved_on settings standing request rest (outcomes_of txn.claims (reply_of before seen txn)))
  moved_entire standing before seen txn request rest asks agrees one others =
      let outcomes : List Outcome = outcomes_of txn.claims (reply_of before seen txn) in
      let gang : txn.mode ≡ Gang = agrees.mode ∙ gangs in
      by_answer (ends_request settings (standing.taken + 1) (failing_after (standing.failing request.job) outcomes) request outcomes)
      (λ t. rw t others)
      (λ f. rw f (
        subst (IsOneOf all) (sym (gang_keeps settings (standing.taken + 1) (failing_after (standing.failing request.job) outcomes) request before seen txn gang
            ((plan_of_request settings trace before scheduler seen txn request asks agrees).whole gang) f)) one,
        others,
      ))

  commit_entire : (standing : Option Standing) (before : List Entry) (seen : ℕ) (txn : Txn) → OfValue AllAsk standing → OfValue AreEntire standing
      → AgreesWithFirst settings scheduler before seen txn standing
      → OfValue AreEntire (after_entry settings scheduler standing (Commit scheduler seen txn (reply_of before seen txn)))
  commit_entire None before seen txn ask entire agrees = absurd agrees
  commit_entire (Some standing) before seen txn ask entire agrees =
      let itself : (scheduler == scheduler) ≡ true = eq-eqb scheduler scheduler refl in
      let is : standing.requests ≡ agrees.0 ∷ agrees.1.0 = agrees.1.1.0 in
      let asks : AllByRecursion AsksForItsJob (agrees.0 ∷ agrees.1.0) = subst (λ (left : List Request). AllByRecursion AsksForItsJob left) is ask in
      let ones : AllByRecursion (IsOneOf all) (agrees.0 ∷ agrees.1.0) = subst (λ (left : List Request). AllByRecursion (IsOneOf all) left) is entire in
      let outcomes : List Outcome = outcomes_of txn.claims (reply_of before seen txn) in
      rw itself
      (subst (λ (left : List Request). OfValue AreEntire (after_outcomes settings standing left outcomes)) (sym is)
      (moved_entire standing before seen txn agrees.0 agrees.1.0 asks.0 agrees.1.1.1 ones.0 ones.1))

  entry_entire : (opened_at : ℕ) (standing : Option Standing) (before : List Entry) (entry : Entry) → OfValue AllAsk standing → OfValue AreEntire standing
      → IsCommitOfRound settings opened_at before entry
      → ((seen : ℕ) (txn : Txn) (reply : List Judgement) → entry ≡ Commit scheduler seen txn reply → AgreesWithFirst settings scheduler before seen txn standing)
      → OfValue AreEntire (after_entry settings scheduler standing entry)
  entry_entire opened_at standing before (RoundEntry number) ask entire may agrees = absurd may
  entry_entire opened_at standing before (MachineAdd machine cap) ask entire may agrees = absurd may
  entry_entire opened_at standing before (MachineUpdate machine cap) ask entire may agrees = absurd may
  entry_entire opened_at standing before (MachineRemove machine) ask entire may agrees = absurd may
  entry_entire opened_at standing before (AttrSet machine name value) ask entire may agrees = absurd may
  entry_entire opened_at standing before (AttrDelete machine name) ask entire may agrees = absurd may
  entry_entire opened_at standing before (End key machine) ask entire may agrees = absurd may
  entry_entire opened_at standing before (Commit by seen txn reply) ask entire may agrees =
      by_answer (by == scheduler)
      (λ t.
      let same : by ≡ scheduler = eqb-true by scheduler t in
      subst (λ (s : ℕ). OfValue AreEntire (after_entry settings scheduler standing (Commit s seen txn reply))) (sym same)
      (subst (λ (told : List Judgement). OfValue AreEntire (after_entry settings scheduler standing (Commit scheduler seen txn told))) (sym may.answered)
      (commit_entire standing before seen txn ask entire (agrees seen txn reply (ap (λ (s : ℕ). Commit s seen txn reply) same)))))
      (λ f. subst (OfValue AreEntire) (sym (after_entry-other settings scheduler standing (Commit by seen txn reply) f)) entire)

module _ (settings : Settings) (trace : TraceTables) (rows : List Row) (start : List Entry) (round : Round) (history : List Entry)
    (so_far : RoundSoFar settings trace rows start round history) (scheduler : ℕ) (known : scheduler < schedulers settings)
    (gangs : (policy_of settings scheduler).mode ≡ Gang) where
  abbrev pub now : List Row
  now = rows ++ round.rows

  abbrev pub base : List Entry
  base = (opened trace rows start round).history

  abbrev pub all : List Request
  all = requests settings trace now base scheduler

  abbrev pub EntireAfter : List Entry → Type 0
  EntireAfter front = OfValue (AreEntire settings trace scheduler gangs all) (standing_of settings trace now (length base) scheduler front)

  entire_opened : EntireAfter base
  entire_opened = rw (take-length base, drop_of_length-le base {i = length base} (omega arith)) (each_is_one all)

  entire_from : (front later : List Entry) → history ≡ front ++ later → length base ≤ length front → EntireAfter front → EntireAfter history
  entire_from front [] is within entire = subst EntireAfter (sym (is ∙ append-nil front)) entire
  entire_from front (entry ∷ later) is within entire =
      entire_from (front ++ entry ∷ []) later (front_push history front entry later is) (longer (length base) front entry within)
      (subst (OfValue (AreEntire settings trace scheduler gangs all)) (sym (standing_push settings trace now (length base) scheduler front entry within))
      (entry_entire settings trace scheduler gangs all (length base) (standing_of settings trace now (length base) scheduler front) front entry
      (standing_asks settings trace now (length base) scheduler front) entire
      (at_seam_from (IsCommitOfRound settings (length base)) (length base) history front entry later is within so_far.commits)
      (λ seen txn reply same. subst (IsDue settings trace now (length base) scheduler front) same
      (at_seam_from (IsDue settings trace now (length base) scheduler) (length base) history front entry later is within (so_far.work scheduler known).1.due) refl)))

  -- each request that a scheduler of gangs has left is one with which the round began
  pub gangs_entire : EntireAfter history
  gangs_entire = entire_from base (drop (length base) history) (round_from settings trace rows start round history so_far) (omega arith) entire_opened
