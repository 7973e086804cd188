-- The times of the commits of a history are fixed by it.
use Rattle.std.proofs.Common.{◌≡◌, ℕ, List, [], ◌∷◌, ◌++◌, length, refl, sym, ap, ap₂, subst, ◌∙◌, inl, inr, append_assoc}
use Rattle.std.specs.Prelude.{◌⊎◌}
use Rattle.std.proofs.lemmas.List.{append-nil}
use Rattle.omega_model.specs.Feed.{rounds}
use Rattle.omega_model.specs.Lawful.{IsCommitOfRound, RoundSoFar, Rounds, opened}
use Rattle.omega_model.specs.declared.entries.Entry.{Entry}
use Rattle.omega_model.specs.declared.entries.Entry.TheVariants.{Round as RoundEntry}
use Rattle.omega_model.specs.declared.rows.Row.{Row}
use Rattle.omega_model.specs.declared.rows.Round.{Round}
use Rattle.omega_model.specs.declared.rows.TraceTables.{TraceTables}
use Rattle.omega_model.specs.declared.settings.Settings.{Settings}
use Rattle.omega_laws.specs.Simulated.{HasTimes, SimulatedWith, TimedRounds, round_times, until_after}
use Rattle.omega_laws.specs.VirtualTime.{KeepsTime, Timed}
use Rattle.omega_laws.proofs.Places.{at_seam_from, front_within}
use Rattle.omega_laws.proofs.RoundsAdd.{round_begins, rounds_add}
use Rattle.omega_laws.proofs.TimeOrder.{timed_are_rounds}

-- one list is longer than another by these items, and its rest is shorter by them
record IsLonger {X : Type 0} (one other rest_one rest_other : List X) : Type 0 where
  more : List X
  longer : one ≡ other ++ more
  shorter : rest_other ≡ more ++ rest_one

-- of two cuts of a list one is no earlier than the other
two_cuts : {X : Type 0} (one other rest_one rest_other : List X) → one ++ rest_one ≡ other ++ rest_other
    → IsLonger one other rest_one rest_other ⊎ IsLonger other one rest_other rest_one
two_cuts one [] rest_one rest_other same = inl (record { more = one; longer = refl; shorter = sym same })
two_cuts [] (y ∷ other) rest_one rest_other same = inr (record { more = y ∷ other; longer = refl; shorter = same })
two_cuts (x ∷ one) (y ∷ other) rest_one rest_other same =
    let first : x ≡ y = cc in
    let rest : one ++ rest_one ≡ other ++ rest_other = cc in
    elim (two_cuts one other rest_one rest_other rest) [
      | inl a ↦ inl (record { more = a.more; longer = ap (λ (z : _). z ∷ one) first ∙ ap (λ (zs : List _). y ∷ zs) a.longer; shorter = a.shorter })
      | inr b ↦ inr (record { more = b.more; longer = ap (λ (z : _). z ∷ other) (sym first) ∙ ap (λ (zs : List _). x ∷ zs) b.longer; shorter = b.shorter })
    ]

-- nothing comes, or a round begins
abbrev StartsRound : List Entry → Type 0
StartsRound later = (later ≡ []) ⊎ ((number : ℕ) × ((rest : List Entry) × (later ≡ RoundEntry number ∷ rest)))

module _ (settings : Settings) (trace : TraceTables) where
  rounds_start : (rows : List Row) (start : List Entry) (some : List Round) (history : List Entry)
      → Rounds settings trace rows start some history
      → (later : List Entry) × ((history ≡ start ++ later) × StartsRound later)
  rounds_start rows start [] history whole = ([], (whole ∙ sym (append-nil start), inl refl))
  rounds_start rows start (round ∷ some) history whole =
      let first = round_begins settings trace rows start round whole.0 whole.1.0 in
      let rest = rounds_add settings trace (rows ++ round.rows) whole.0 some history whole.1.1 in (
        RoundEntry round.number ∷ (first.0 ++ rest.0),
        (
          rest.1 ∙ ap (λ (front : List Entry). front ++ rest.0) first.1 ∙ append_assoc start (RoundEntry round.number ∷ first.0) rest.0,
          inr (round.number, (first.0 ++ rest.0, refl)),
        ),
      )

  module _ (rows : List Row) (start : List Entry) (round : Round) where
    abbrev at : ℕ
    at = length (opened trace rows start round).history

    -- no round begins in the middle of a round
    not_within : (one other rest_one rest_other : List Entry)
        → RoundSoFar settings trace rows start round one → RoundSoFar settings trace rows start round other
        → StartsRound rest_other → IsLonger one other rest_one rest_other → one ≡ other
    not_within one other rest_one rest_other a b starts longer = by_more longer.more longer.longer longer.shorter where
      by_more : (more : List Entry) → one ≡ other ++ more → rest_other ≡ more ++ rest_one → one ≡ other
      by_more [] longer shorter = longer ∙ append-nil other
      by_more (entry ∷ more) longer shorter =
          let commit : IsCommitOfRound settings at other entry =
          at_seam_from (IsCommitOfRound settings at) at one other entry more longer (front_within other (opened trace rows start round).history b.begins) a.commits in
          absurd (elim starts [
            | inl none ↦ absurd (cc)
            | inr began ↦
                let same : entry ≡ RoundEntry began.0 = cc in subst (IsCommitOfRound settings at other) same commit
          ])

    -- so a history is cut at the end of this round in one way
    one_cut : (history one other rest_one rest_other : List Entry)
        → history ≡ one ++ rest_one → history ≡ other ++ rest_other
        → RoundSoFar settings trace rows start round one → RoundSoFar settings trace rows start round other
        → StartsRound rest_one → StartsRound rest_other → one ≡ other
    one_cut history one other rest_one rest_other is_one is_other a b starts_one starts_other =
        elim (two_cuts one other rest_one rest_other (sym is_one ∙ is_other)) [
          | inl longer ↦ not_within one other rest_one rest_other a b starts_other longer
          | inr longer ↦ sym (not_within other one rest_other rest_one b a starts_one longer)
        ]

  -- rounds with times, by whatever rule, have only these
  pub only_times_of_rounds : (Keeps : List Row → ℕ → ℕ → List Entry → Entry → Type 0)
      (rows : List Row) (start : List Entry) (until : ℕ) (some : List Round) (history : List Entry) (times_one times_other : List Timed)
      → TimedRounds settings trace Keeps rows start until some history times_one
      → TimedRounds settings trace Keeps rows start until some history times_other
      → times_one ≡ times_other
  only_times_of_rounds Keeps rows start until [] history times_one times_other a b = a.1 ∙ sym b.1
  only_times_of_rounds Keeps rows start until (round ∷ some) history times_one times_other a b =
      let all : List Row = rows ++ round.rows in
      let times : List Entry → List Timed = round_times settings trace rows start until round in
      let after_one = rounds_start all a.0 some history (timed_are_rounds settings trace Keeps all a.0 _ some history a.1.0 a.1.1.1.1) in
      let after_other = rounds_start all b.0 some history (timed_are_rounds settings trace Keeps all b.0 _ some history b.1.0 b.1.1.1.1) in
      let same : b.0 ≡ a.0 = one_cut rows start round history b.0 a.0 after_other.0 after_one.0 after_other.1.0 after_one.1.0
      b.1.1.0.whole.begun a.1.1.0.whole.begun after_other.1.1 after_one.1.1 in
      let rest = only_times_of_rounds Keeps all a.0 (until_after until (times a.0)) some history a.1.0 b.1.0 a.1.1.1.1
      (subst (λ (middle : List Entry). TimedRounds settings trace Keeps all middle (until_after until (times middle)) some history b.1.0) same b.1.1.1.1) in
      a.1.1.1.0 ∙ ap₂ (λ (middle : List Entry) (later : List Timed). times middle ++ later) (sym same) rest ∙ sym b.1.1.1.0

  -- rounds in order of time are rounds with these times
  timed_without_order : (rows : List Row) (start : List Entry) (until : ℕ) (some : List Round) (history : List Entry) (times : List Timed)
      → TimedRounds settings trace (KeepsTime settings trace) rows start until some history times
      → TimedRounds settings trace (λ rows opened_at base before entry. Unit {0}) rows start until some history times
  timed_without_order rows start until [] history times a = a
  timed_without_order rows start until (round ∷ some) history times a = (
    a.0,
    (
      a.1.0,
      (
        record { whole = a.1.1.0.whole; keeps = λ place entry is from. tt },
        (a.1.1.1.0, timed_without_order (rows ++ round.rows) a.0 _ some history a.1.0 a.1.1.1.1),
      ),
    ),
  )

  -- the times of a history are fixed by it
  pub only_times : (history : List Entry) (times_one times_other : List Timed)
      → HasTimes settings trace history times_one → HasTimes settings trace history times_other → times_one ≡ times_other
  only_times history times_one times_other =
      only_times_of_rounds (λ rows opened_at base before entry. Unit {0}) [] [] 0 (rounds trace settings.window) history times_one times_other

  -- a simulated history has the times that it is simulated with
  pub simulated_times : (history : List Entry) (times : List Timed)
      → SimulatedWith settings trace history times → HasTimes settings trace history times
  simulated_times history times = timed_without_order [] [] 0 (rounds trace settings.window) history times
