-- The clock of a round stays within what its attempts may take.
use Rattle.std.proofs.Common.{◌≡◌, ℕ, ◌+◌, ◌*◌, ◌-◌, ◌<◌, ◌≤◌, true, false, List, [], ◌∷◌, ◌++◌, length, take, Option, Some, refl, sym, ap, subst, ◌∙◌, arith}
use Rattle.std.specs.Prelude.{◌==◌, option_map, slice_get}
use Rattle.std.specs.List.{fold, AllByRecursion as Each}
use Rattle.std.proofs.Math.Nat.{mul-le-mul_left}
use Rattle.std.proofs.lemmas.Bool.{eqb-true, eq-eqb, ne_eqb, eqb-false}
use Rattle.omega_laws.proofs.EachLeft.{first_left, standing_holds}
use Rattle.omega_laws.proofs.Places.{at_seam_from, front_push, longer}
use Rattle.omega_laws.specs.VirtualTime.{Clock, Timed, decision, due_time, first_wishes, next_wishes, tick}
use Rattle.omega_model.proofs.Lists.{by_answer, each_append}
use Rattle.omega_model.proofs.Standing.{after_entry-other, standing_push}
use Rattle.omega_model.specs.Lawful.{IsCommitOfRound}
use Rattle.omega_model.specs.Policy.{schedulers}
use Rattle.omega_model.specs.Ranges.{IsInRange}
use Rattle.omega_model.specs.Requests.{requests}
use Rattle.omega_model.specs.Work.{AgreesWithFirst, IsDue, Standing, after_entry, moved_on, outcomes_of, standing_of}
use Rattle.omega_model.specs.declared.claims.Judgement.{Judgement}
use Rattle.omega_model.specs.declared.claims.Txn.{Txn}
use Rattle.omega_model.specs.declared.entries.Entry.{Entry}
use Rattle.omega_model.specs.declared.entries.Entry.TheVariants.{Round, MachineAdd, MachineUpdate, MachineRemove, AttrSet, AttrDelete, End, Commit}
use Rattle.omega_model.specs.declared.rows.Row.{Row}
use Rattle.omega_model.specs.declared.rows.TraceTables.{TraceTables}
use Rattle.omega_model.specs.declared.settings.Settings.{Settings}
use Rattle.omega_model.specs.declared.wishes.Request.{Request}
use Rattle.omega_sim.proofs.Asked.{IsAsked}
use Rattle.omega_sim.proofs.Standings.{IsFair, fair_moved, rest_asked}

-- how long a decision takes at most: with the greatest times, for one more than the wishes that a request has at most
abbrev pub longest : ℕ
longest = 2010001000000000

-- how many wishes a request has at most
abbrev pub most_wishes : ℕ
most_wishes = 2010000

decision_short : (settings : Settings) (scheduler wishes : ℕ) → IsInRange settings → wishes ≤ most_wishes → decision settings scheduler wishes ≤ longest
decision_short settings scheduler wishes range few =
    by_answer (scheduler == 0)
    (λ t. rw t
    (let job = range.service_t_job in let task = range.service_t_task in
    let product = mul-le-mul_left settings.service_t_task few in omega (arith, product)))
    (λ f. rw f
    (let job = range.t_job in let task = range.t_task in
    let product = mul-le-mul_left settings.t_task few in omega (arith, product)))

-- a commit is in time: its decision isn't too long, and it stands within a limit
pub record IsWithin (limit : ℕ) (timed : Timed) : Type 0 where
  pub decides : timed.time ≤ timed.sync + longest
  pub syncs : timed.sync ≤ limit
  pub commits : timed.time ≤ limit

module _ (settings : Settings) (trace : TraceTables) (rows : List Row) (opened_at : ℕ) (jobs : List ℕ) (limit : ℕ) (range : IsInRange settings)
    (asks : (history : List Entry) (scheduler : ℕ) → Each (IsAsked jobs most_wishes) (requests settings trace rows history scheduler)) where
  -- a scheduler stands somewhere in its requests, and has time for all attempts that it may still make
  pub record HasTime (clock : Clock) (scheduler : ℕ) : Type 0 where
    pub standing : Standing
    pub is : standing_of settings trace rows opened_at scheduler clock.before ≡ Some standing
    pub budget : ℕ
    pub fair : IsFair settings budget standing
    pub early : clock.synced scheduler + budget * longest ≤ limit

  -- so do all, and the commits so far are in time
  pub record IsInTime (clock : Clock) : Type 0 where
    pub each : (scheduler : ℕ) → scheduler < schedulers settings → HasTime clock scheduler
    pub commits : Each (IsWithin limit) clock.commits
    pub there : opened_at ≤ length clock.before

  -- an entry after these is a commit that is due
  abbrev pub IsDueCommit : List Entry → Entry → Type 0
  IsDueCommit before (Commit by seen txn reply) =
      (by < schedulers settings) × AgreesWithFirst settings by before seen txn (standing_of settings trace rows opened_at by before)
  IsDueCommit before _ = ⊥

  by_request : (clock : Clock) (so : IsInTime clock) (by seen : ℕ) (txn : Txn) (reply : List Judgement) (known : by < schedulers settings)
      (request : Request) (rest : List Request) → (so.each by known).standing.requests ≡ request ∷ rest
      → IsInTime (tick settings trace rows opened_at clock (Commit by seen txn reply))
  by_request clock so by seen txn reply known request rest is =
      let own : HasTime clock by = so.each by known in
      let entry : Entry = Commit by seen txn reply in
      let moved : Standing = moved_on settings own.standing request rest (outcomes_of txn.claims reply) in
      let itself : (by == by) ≡ true = eq-eqb by by refl in
      let step_on : after_entry settings by (Some own.standing) entry ≡ Some moved = rw (itself, is) refl in
      let stands : standing_of settings trace rows opened_at by (clock.before ++ entry ∷ []) ≡ Some moved =
      standing_push settings trace rows opened_at by clock.before entry so.there
      ∙ ap (λ (o : Option Standing). after_entry settings by o entry) own.is ∙ step_on in
      let fair = fair_moved settings own.standing request rest (outcomes_of txn.claims reply) own.budget range.tries.0 is own.fair in
      let asked : IsAsked jobs most_wishes request =
      first_left (IsAsked jobs most_wishes) (standing_of settings trace rows opened_at by clock.before) request rest
      (standing_holds settings (IsAsked jobs most_wishes) (λ taken failing. rest_asked jobs most_wishes taken failing settings)
      trace rows opened_at by clock.before (asks (take opened_at clock.before) by))
      (ap (option_map (λ (standing : Standing). standing.requests)) own.is ∙ ap (λ (left : List Request). Some left) is) in
      let next : next_wishes settings trace rows opened_at clock.before by ≡ length request.wishes =
      ap (λ (o : Option Standing). first_wishes (option_map (λ (standing : Standing). standing.requests) o)) own.is
      ∙ ap (λ (left : List Request). first_wishes (Some left)) is in
      let short : decision settings by (next_wishes settings trace rows opened_at clock.before by) ≤ longest =
      subst (λ (n : ℕ). decision settings by n ≤ longest) (sym next) (decision_short settings by (length request.wishes) range asked.wishes) in
      let early : clock.synced by + own.budget * longest ≤ limit = own.early in
      let some : 1 ≤ own.budget = fair.0 in
      let bound : due_time settings trace rows opened_at clock by + (own.budget - 1) * longest ≤ limit = omega (arith, early, some, short) in
      record {
        each = λ scheduler there.
            by_answer (scheduler == by)
            (λ t.
            let same : scheduler ≡ by = eqb-true scheduler by t in
            record {
              standing = moved;
              is = ap (λ (n : ℕ). standing_of settings trace rows opened_at n (clock.before ++ entry ∷ [])) same ∙ stands;
              budget = own.budget - 1;
              fair = fair.1;
              early = rw t bound;
            })
            (λ f.
            let old : HasTime clock scheduler = so.each scheduler there in
            let other : (by == scheduler) ≡ false = ne_eqb by scheduler (λ same. eqb-false scheduler by f (sym same)) in
            record {
              standing = old.standing;
              is = standing_push settings trace rows opened_at scheduler clock.before entry so.there
                  ∙ after_entry-other settings scheduler (standing_of settings trace rows opened_at scheduler clock.before) entry other ∙ old.is;
              budget = old.budget;
              fair = old.fair;
              early = rw f old.early;
            });
        commits = each_append (IsWithin limit) clock.commits _ so.commits
            (record { decides = omega (arith, short); syncs = omega (arith, early); commits = omega (arith, bound) }, tt);
        there = longer opened_at clock.before entry so.there;
      }

  -- a commit that is due keeps the clock in time
  tick_more : (clock : Clock) → IsInTime clock → (by seen : ℕ) (txn : Txn) (reply : List Judgement) → IsDueCommit clock.before (Commit by seen txn reply)
      → IsInTime (tick settings trace rows opened_at clock (Commit by seen txn reply))
  tick_more clock so by seen txn reply due =
      let agrees = subst (λ (o : Option Standing). AgreesWithFirst settings by clock.before seen txn o) (so.each by due.0).is due.1 in
      by_request clock so by seen txn reply due.0 agrees.0 agrees.1.0 agrees.1.1.0

  -- each of these entries is a commit that is due after those before it
  abbrev pub AllDue : List Entry → List Entry → Type 0
  AllDue before [] = Unit {0}
  AllDue before (entry ∷ later) = IsDueCommit before entry × AllDue (before ++ entry ∷ []) later

  pub ticks : (later : List Entry) (clock : Clock) → IsInTime clock → AllDue clock.before later
      → IsInTime (fold (tick settings trace rows opened_at) clock later)
  ticks [] clock so due = so
  ticks (Round number ∷ later) clock so due = absurd due.0
  ticks (MachineAdd machine cap ∷ later) clock so due = absurd due.0
  ticks (MachineUpdate machine cap ∷ later) clock so due = absurd due.0
  ticks (MachineRemove machine ∷ later) clock so due = absurd due.0
  ticks (AttrSet machine name value ∷ later) clock so due = absurd due.0
  ticks (AttrDelete machine name ∷ later) clock so due = absurd due.0
  ticks (End key machine ∷ later) clock so due = absurd due.0
  ticks (Commit by seen txn reply ∷ later) clock so due =
      ticks later (tick settings trace rows opened_at clock (Commit by seen txn reply)) (tick_more clock so by seen txn reply due.0) due.1

  both_due : (before : List Entry) (entry : Entry) → IsCommitOfRound settings opened_at before entry
      → ((scheduler : ℕ) → scheduler < schedulers settings → IsDue settings trace rows opened_at scheduler before entry) → IsDueCommit before entry
  both_due before (Round number) may due = may
  both_due before (MachineAdd machine cap) may due = may
  both_due before (MachineUpdate machine cap) may due = may
  both_due before (MachineRemove machine) may due = may
  both_due before (AttrSet machine name value) may due = may
  both_due before (AttrDelete machine name) may due = may
  both_due before (End key machine) may due = may
  both_due before (Commit by seen txn reply) may due = (may.known, due by may.known refl)

  pub all_due : (history before later : List Entry) → history ≡ before ++ later → opened_at ≤ length before
      → ((place : ℕ) (entry : Entry) → slice_get history place ≡ Some entry → opened_at ≤ place → IsCommitOfRound settings opened_at (take place history) entry)
      → ((scheduler : ℕ) → scheduler < schedulers settings → (place : ℕ) (entry : Entry) → slice_get history place ≡ Some entry → opened_at ≤ place
      → IsDue settings trace rows opened_at scheduler (take place history) entry)
      → AllDue before later
  all_due history before [] is within commits due = tt
  all_due history before (entry ∷ later) is within commits due = (
    both_due before entry
        (at_seam_from (IsCommitOfRound settings opened_at) opened_at history before entry later is within commits)
        (λ scheduler known. at_seam_from (IsDue settings trace rows opened_at scheduler) opened_at history before entry later is within (due scheduler known)),
    all_due history (before ++ entry ∷ []) later (front_push history before entry later is) (longer opened_at before entry within) commits due,
  )
