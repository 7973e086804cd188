-- Virtual time puts the commits of a round in one order.
use Rattle.std.proofs.Common.{◌≡◌, ◌≢◌, ◌≤◌, ◌+◌, ℕ, false, List, [], ◌∷◌, ◌++◌, length, take, drop, refl, sym, ap, ap₂, subst, arith, ◌∙◌, inl, inr, append_assoc}
use Rattle.std.specs.Prelude.{All, ◌==◌, ◌⊎◌, ◌<◌}
use Rattle.std.specs.List.{fold}
use Rattle.std.proofs.lemmas.Bool.{ne_eqb}
use Rattle.std.proofs.lemmas.List.{append-nil, take-append-drop, take-append-le, drop-append-le}
use Rattle.std.proofs.lemmas.List.Sums.{fold-append}
use Rattle.omega_model.specs.Feed.{rounds}
use Rattle.omega_model.specs.Lawful.{Lawful, Rounds}
use Rattle.omega_model.specs.declared.claims.Judgement.{Judgement}
use Rattle.omega_model.specs.declared.claims.Txn.{Txn}
use Rattle.omega_model.specs.declared.entries.Entry.{Entry}
use Rattle.omega_model.specs.declared.entries.Entry.TheVariants.{Round as RoundEntry, MachineAdd, MachineUpdate, MachineRemove, AttrSet, AttrDelete, End, Commit}
use Rattle.omega_model.specs.declared.rows.Row.{Row}
use Rattle.omega_model.specs.declared.rows.Round.{Round}
use Rattle.omega_model.specs.declared.rows.TraceTables.{TraceTables}
use Rattle.omega_model.specs.declared.settings.Settings.{Settings}
use Rattle.omega_laws.specs.Orders.{EachComesNext, OrderedRound, Orders}
use Rattle.omega_laws.proofs.Agreeing.{left_push-other}
use Rattle.omega_laws.proofs.AnyOrder.{comes_next, only_round}
use Rattle.omega_laws.proofs.Places.{all_front, all_last}
use Rattle.omega_laws.specs.VirtualTime.{Timed, Clock, tick, clock_of, decision, first_wishes, next_wishes, timed_commits, next_time, StandsNoLater, KeepsTime, GoesSooner, IsLate, sees_in_time}
use Rattle.omega_laws.specs.Simulated.{TimedRounds, SimulatedWith, base_of, until_after, rows_place, round_times}

module _ (settings : Settings) (trace : TraceTables) (rows : List Row) (opened_at : ℕ) where
  -- the clock reads the entries as they stand
  tick-before : (clock : Clock) (entry : Entry) → (tick settings trace rows opened_at clock entry).before ≡ clock.before ++ entry ∷ []
  tick-before clock (RoundEntry number) = refl
  tick-before clock (MachineAdd machine cap) = refl
  tick-before clock (MachineUpdate machine cap) = refl
  tick-before clock (MachineRemove machine) = refl
  tick-before clock (AttrSet machine name value) = refl
  tick-before clock (AttrDelete machine name) = refl
  tick-before clock (End key machine) = refl
  tick-before clock (Commit by seen txn reply) = refl

  ticks-before : (clock : Clock) (entries : List Entry) → (fold (tick settings trace rows opened_at) clock entries).before ≡ clock.before ++ entries
  ticks-before clock [] = sym (append-nil clock.before)
  ticks-before clock (entry ∷ entries) =
      ticks-before (tick settings trace rows opened_at clock entry) entries
      ∙ ap (λ (front : List Entry). front ++ entries) (tick-before clock entry)
      ∙ append_assoc clock.before (entry ∷ []) entries

  module _ (base : ℕ) where
    pub clock-before : (history : List Entry) → (clock_of settings trace rows opened_at base history).before ≡ history
    clock-before history =
        ticks-before (record { before = take opened_at history; synced = λ (scheduler : ℕ). base; commits = [] }) (drop opened_at history)
        ∙ take-append-drop opened_at history

    -- the clock after one more entry is one step on
    pub clock_push : (before : List Entry) (entry : Entry) → opened_at ≤ length before
        → clock_of settings trace rows opened_at base (before ++ entry ∷ [])
        ≡ tick settings trace rows opened_at (clock_of settings trace rows opened_at base before) entry
    clock_push before entry within =
        rw (take-append-le opened_at before (entry ∷ []) within, drop-append-le opened_at before (entry ∷ []) within)
        (fold-append (tick settings trace rows opened_at) _ (drop opened_at before) (entry ∷ []))

    -- the time of a scheduler's next commit, by what it has left after the entries
    pub next_time-is : (before : List Entry) (scheduler : ℕ)
        → next_time settings trace rows opened_at base before scheduler
        ≡ (clock_of settings trace rows opened_at base before).synced scheduler
        + decision settings scheduler (next_wishes settings trace rows opened_at before scheduler)
    next_time-is before scheduler =
        ap (λ (entries : List Entry). (clock_of settings trace rows opened_at base before).synced scheduler
        + decision settings scheduler (next_wishes settings trace rows opened_at entries scheduler)) (clock-before before)

    -- the commits after one more
    pub timed_push : (before : List Entry) (by seen : ℕ) (txn : Txn) (reply : List Judgement) → opened_at ≤ length before
        → timed_commits settings trace rows opened_at base (before ++ Commit by seen txn reply ∷ [])
        ≡ timed_commits settings trace rows opened_at base before ++ record {
          place = length (clock_of settings trace rows opened_at base before).before;
          scheduler = by;
          sync = (clock_of settings trace rows opened_at base before).synced by;
          time = next_time settings trace rows opened_at base before by;
        } ∷ []
    timed_push before by seen txn reply within = ap (λ (clock : Clock). clock.commits) (clock_push before (Commit by seen txn reply) within)

    -- a commit of another scheduler leaves the time of a scheduler's next commit
    pub next_time_push-other : (before : List Entry) (by seen : ℕ) (txn : Txn) (reply : List Judgement) (scheduler : ℕ) → opened_at ≤ length before
        → by ≢ scheduler
        → next_time settings trace rows opened_at base (before ++ Commit by seen txn reply ∷ []) scheduler
        ≡ next_time settings trace rows opened_at base before scheduler
    next_time_push-other before by seen txn reply scheduler within apart =
        let entry : Entry = Commit by seen txn reply in
        let not_by : (scheduler == by) ≡ false = ne_eqb scheduler by (λ same. apart (sym same)) in
        let synced : (clock_of settings trace rows opened_at base (before ++ entry ∷ [])).synced scheduler
        ≡ (clock_of settings trace rows opened_at base before).synced scheduler =
        ap (λ (clock : Clock). clock.synced scheduler) (clock_push before entry within) ∙ rw not_by refl in
        let wishes : next_wishes settings trace rows opened_at (before ++ entry ∷ []) scheduler ≡ next_wishes settings trace rows opened_at before scheduler =
        ap first_wishes (left_push-other settings trace rows opened_at before entry scheduler within (ne_eqb by scheduler apart)) in
        next_time-is (before ++ entry ∷ []) scheduler
        ∙ ap₂ (λ (at n : ℕ). at + decision settings scheduler n) synced wishes
        ∙ sym (next_time-is before scheduler)

    either_sooner : (before : List Entry) (one other : ℕ) → other ≢ one
        → GoesSooner settings trace rows opened_at base before one other ⊎ GoesSooner settings trace rows opened_at base before other one
    either_sooner before one other apart =
        either (next_time settings trace rows opened_at base before one) (next_time settings trace rows opened_at base before other) where
          either : (m n : ℕ) → ((m < n) ⊎ ((m ≡ n) × (one < other))) ⊎ ((n < m) ⊎ ((n ≡ m) × (other < one)))
          either m n = grind (arith)

    not_both_sooner : (before : List Entry) (one other : ℕ)
        → GoesSooner settings trace rows opened_at base before one other → GoesSooner settings trace rows opened_at base before other one → ⊥
    not_both_sooner before one other (inl a) (inl b) = absurd (omega arith)
    not_both_sooner before one other (inl a) (inr b) = let c = b.0 in absurd (omega arith)
    not_both_sooner before one other (inr a) (inl b) = let c = a.0 in absurd (omega arith)
    not_both_sooner before one other (inr a) (inr b) = let c = a.1 in let d = b.1 in absurd (omega arith)

    -- what stands after another's commit in order before a scheduler's next, stood so before it, and the commit too
    late_kept : (before : List Entry) (by seen : ℕ) (txn : Txn) (reply : List Judgement) (scheduler : ℕ) → opened_at ≤ length before
        → by ≢ scheduler
        → All (StandsNoLater (next_time settings trace rows opened_at base (before ++ Commit by seen txn reply ∷ []) scheduler) scheduler)
        (timed_commits settings trace rows opened_at base (before ++ Commit by seen txn reply ∷ []))
        → All (StandsNoLater (next_time settings trace rows opened_at base before scheduler) scheduler)
        (timed_commits settings trace rows opened_at base before ++ record {
          place = length (clock_of settings trace rows opened_at base before).before;
          scheduler = by;
          sync = (clock_of settings trace rows opened_at base before).synced by;
          time = next_time settings trace rows opened_at base before by;
        } ∷ [])
    late_kept before by seen txn reply scheduler within apart all =
        let commits : List Timed = timed_commits settings trace rows opened_at base (before ++ Commit by seen txn reply ∷ []) in
        subst (All (StandsNoLater (next_time settings trace rows opened_at base before scheduler) scheduler))
        (timed_push before by seen txn reply within)
        (subst (λ (time : ℕ). All (StandsNoLater time scheduler) commits) (next_time_push-other before by seen txn reply scheduler within apart) all)

    -- a scheduler that is late stays so after a commit of another
    late_push : (before : List Entry) (by seen : ℕ) (txn : Txn) (reply : List Judgement) (scheduler : ℕ) → opened_at ≤ length before
        → by ≢ scheduler
        → IsLate settings trace rows opened_at base before scheduler
        → IsLate settings trace rows opened_at base (before ++ Commit by seen txn reply ∷ []) scheduler
    late_push before by seen txn reply scheduler within apart late all =
        late (all_front (StandsNoLater (next_time settings trace rows opened_at base before scheduler) scheduler)
        (timed_commits settings trace rows opened_at base before) _ (late_kept before by seen txn reply scheduler within apart all))

    not_sooner : (time own scheduler by : ℕ) → ((time < own) ⊎ ((time ≡ own) × (by ≤ scheduler))) → ((own < time) ⊎ ((own ≡ time) × (scheduler < by))) → ⊥
    not_sooner time own scheduler by (inl a) (inl b) = absurd (omega arith)
    not_sooner time own scheduler by (inl a) (inr b) = let c = b.0 in absurd (omega arith)
    not_sooner time own scheduler by (inr a) (inl b) = let c = a.0 in absurd (omega arith)
    not_sooner time own scheduler by (inr a) (inr b) = let c = a.1 in let d = b.1 in absurd (omega arith)

    -- a scheduler is late where another commits that goes later
    late_first : (before : List Entry) (by seen : ℕ) (txn : Txn) (reply : List Judgement) (scheduler : ℕ) → opened_at ≤ length before
        → by ≢ scheduler
        → GoesSooner settings trace rows opened_at base before scheduler by
        → IsLate settings trace rows opened_at base (before ++ Commit by seen txn reply ∷ []) scheduler
    late_first before by seen txn reply scheduler within apart sooner all =
        not_sooner (next_time settings trace rows opened_at base before by) (next_time settings trace rows opened_at base before scheduler) scheduler by
        (all_last (StandsNoLater (next_time settings trace rows opened_at base before scheduler) scheduler)
        (timed_commits settings trace rows opened_at base before) _ (late_kept before by seen txn reply scheduler within apart all))
        sooner

    -- time is such a rule
    pub time_order : Orders settings trace rows opened_at (KeepsTime settings trace rows opened_at base)
        (GoesSooner settings trace rows opened_at base) (IsLate settings trace rows opened_at base) (sees_in_time opened_at)
    time_order = record {
      has_seen = λ before scheduler seen txn reply keeps. keeps.seen_last;
      either = either_sooner;
      not_both = not_both_sooner;
      passes = λ before by seen txn reply scheduler request within apart works goes. late_first before by seen txn reply scheduler within apart goes;
      stays = λ before by seen txn reply scheduler request within apart works late. late_push before by seen txn reply scheduler within apart late;
      stops = λ before scheduler seen txn reply late keeps. late keeps.order;
    }

-- at each place of a round in order of time, from its rows to its end, stands what comes next
pub comes_next_in_time : (settings : Settings) (trace : TraceTables) (rows : List Row) (start : List Entry) (round : Round) (base : ℕ) (history : List Entry)
    → OrderedRound settings trace rows start round (KeepsTime settings trace (rows ++ round.rows) (rows_place trace rows start round) base) history
    → EachComesNext settings trace rows start round (GoesSooner settings trace (rows ++ round.rows) (rows_place trace rows start round) base)
    (sees_in_time (rows_place trace rows start round)) history
comes_next_in_time settings trace rows start round base =
    let all : List Row = rows ++ round.rows in
    let at : ℕ = rows_place trace rows start round in
    comes_next settings trace rows start round (KeepsTime settings trace all at base) (GoesSooner settings trace all at base)
    (IsLate settings trace all at base) (sees_in_time at) (time_order settings trace all at base)

-- simulated rounds are the only ones after their start
pub only_simulated_rounds : (settings : Settings) (trace : TraceTables) (rows : List Row) (start : List Entry) (until : ℕ) (some : List Round)
    (one other : List Entry) (times_one times_other : List Timed)
    → TimedRounds settings trace (KeepsTime settings trace) rows start until some one times_one
    → TimedRounds settings trace (KeepsTime settings trace) rows start until some other times_other
    → (one ≡ other) × (times_one ≡ times_other)
only_simulated_rounds settings trace rows start until [] one other times_one times_other a b = (a.0 ∙ sym b.0, a.1 ∙ sym b.1)
only_simulated_rounds settings trace rows start until (round ∷ some) one other times_one times_other a b =
    let all : List Row = rows ++ round.rows in
    let at : ℕ = rows_place trace rows start round in
    let base : ℕ = base_of until round in
    let times : List Entry → List Timed = round_times settings trace rows start until round in
    let first : b.0 ≡ a.0 = only_round settings trace rows start round
    (KeepsTime settings trace all at base) (GoesSooner settings trace all at base) (IsLate settings trace all at base) (sees_in_time at)
    (time_order settings trace all at base) b.0 a.0 b.1.1.0 a.1.1.0 in
    let rest = only_simulated_rounds settings trace all a.0 (until_after until (times a.0)) some one other a.1.0 b.1.0 a.1.1.1.1
    (subst (λ (middle : List Entry). TimedRounds settings trace (KeepsTime settings trace) all middle (until_after until (times middle)) some other b.1.0)
    first b.1.1.1.1) in
    (rest.0, a.1.1.1.0 ∙ ap₂ (λ (middle : List Entry) (later : List Timed). times middle ++ later) (sym first) rest.1 ∙ sym b.1.1.1.0)

-- a simulated history is the only one, and so are its times
pub only_simulated : (settings : Settings) (trace : TraceTables) (one other : List Entry) (times_one times_other : List Timed)
    → SimulatedWith settings trace one times_one → SimulatedWith settings trace other times_other
    → (one ≡ other) × (times_one ≡ times_other)
only_simulated settings trace one other times_one times_other =
    only_simulated_rounds settings trace [] [] 0 (rounds trace settings.window) one other times_one times_other

-- rounds with times are rounds, whatever rule they keep to
pub timed_are_rounds : (settings : Settings) (trace : TraceTables) (Keeps : List Row → ℕ → ℕ → List Entry → Entry → Type 0)
    (rows : List Row) (start : List Entry) (until : ℕ) (some : List Round) (history : List Entry) (times : List Timed)
    → TimedRounds settings trace Keeps rows start until some history times
    → Rounds settings trace rows start some history
timed_are_rounds settings trace Keeps rows start until [] history times a = a.0
timed_are_rounds settings trace Keeps rows start until (round ∷ some) history times a =
    (a.0, (a.1.1.0.whole, timed_are_rounds settings trace Keeps (rows ++ round.rows) a.0 _ some history a.1.0 a.1.1.1.1))

pub simulated_is_lawful : (settings : Settings) (trace : TraceTables) (history : List Entry) (times : List Timed)
    → SimulatedWith settings trace history times → Lawful settings trace history
simulated_is_lawful settings trace history times =
    timed_are_rounds settings trace (KeepsTime settings trace) [] [] 0 (rounds trace settings.window) history times
