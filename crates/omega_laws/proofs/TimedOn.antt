-- Rounds with times, and one more.
use Rattle.std.proofs.Common.{◌≡◌, ℕ, List, [], ◌∷◌, ◌++◌, refl, sym, ap, subst, ◌∙◌, append_assoc}
use Rattle.std.proofs.lemmas.List.{append-nil}
use Rattle.std.proofs.lemmas.List.Sums.{fold-append}
use Rattle.omega_model.specs.Lawful.{rows_of}
use Rattle.omega_model.specs.declared.entries.Entry.{Entry}
use Rattle.omega_model.specs.declared.rows.Row.{Row}
use Rattle.omega_model.specs.declared.rows.Round.{Round}
use Rattle.omega_model.specs.declared.rows.TraceTables.{TraceTables}
use Rattle.omega_model.specs.declared.settings.Settings.{Settings}
use Rattle.omega_laws.specs.Orders.{OrderedRound}
use Rattle.omega_laws.specs.VirtualTime.{Timed}
use Rattle.omega_laws.specs.Simulated.{TimedRounds, base_of, until_after, rows_place, round_times}

-- the last time of two lists of commits
until_append : (until : ℕ) (times later : List Timed) → until_after until (times ++ later) ≡ until_after (until_after until times) later
until_append until times later = fold-append (λ (time : ℕ) (timed : Timed). timed.time) until times later

module _ (settings : Settings) (trace : TraceTables) (Keeps : List Row → ℕ → ℕ → List Entry → Entry → Type 0) where
  -- one more round after some rounds, whose base follows from the times so far
  pub timed_push_round : (rows : List Row) (start : List Entry) (until : ℕ) (some : List Round) (history : List Entry) (times : List Timed)
      → TimedRounds settings trace Keeps rows start until some history times
      → (round : Round) (next : List Entry)
      → OrderedRound settings trace (rows ++ rows_of some) history round
      (Keeps ((rows ++ rows_of some) ++ round.rows) (rows_place trace (rows ++ rows_of some) history round) (base_of (until_after until times) round)) next
      → TimedRounds settings trace Keeps rows start until (some ++ round ∷ []) next
      (times ++ round_times settings trace (rows ++ rows_of some) history (until_after until times) round next)
  timed_push_round rows start until [] history times a round next ordered =
      let all : List Row = rows ++ [] in
      let same : start ≡ history = sym a.0 in
      let kept : OrderedRound settings trace rows history round (Keeps (rows ++ round.rows) (rows_place trace rows history round) (base_of (until_after until times) round)) next =
      subst (λ (rs : List Row). OrderedRound settings trace rs history round (Keeps (rs ++ round.rows) (rows_place trace rs history round) (base_of (until_after until times) round)) next)
      (append-nil rows) ordered in
      let at_start : OrderedRound settings trace rows start round (Keeps (rows ++ round.rows) (rows_place trace rows start round) (base_of until round)) next =
      subst (λ (h : List Entry). OrderedRound settings trace rows h round (Keeps (rows ++ round.rows) (rows_place trace rows h round) (base_of until round)) next) (sym same)
      (subst (λ (ts : List Timed). OrderedRound settings trace rows history round (Keeps (rows ++ round.rows) (rows_place trace rows history round) (base_of (until_after until ts) round)) next) a.1 kept) in
      let its_times : times ++ round_times settings trace all history (until_after until times) round next ≡ round_times settings trace rows start until round next ++ [] =
      ap (λ (ts : List Timed). ts ++ round_times settings trace all history (until_after until ts) round next) a.1
      ∙ ap (λ (rs : List Row). round_times settings trace rs history until round next) (append-nil rows)
      ∙ ap (λ (h : List Entry). round_times settings trace rows h until round next) (sym same)
      ∙ sym (append-nil (round_times settings trace rows start until round next)) in
      (next, ([], (at_start, (its_times, (refl, refl)))))
  timed_push_round rows start until (one ∷ some) history times a round next ordered =
      let first : List Timed = round_times settings trace rows start until one a.0 in
      let later : List Timed = a.1.0 in
      let until_then : ℕ = until_after until first in
      let all : List Row = (rows ++ one.rows) ++ rows_of some in
      let rows_same : rows ++ rows_of (one ∷ some) ≡ all = sym (append_assoc rows one.rows (rows_of some)) in
      let until_same : until_after until times ≡ until_after until_then later =
      ap (until_after until) a.1.1.1.0 ∙ until_append until first later in
      let kept : OrderedRound settings trace all history round (Keeps (all ++ round.rows) (rows_place trace all history round) (base_of (until_after until_then later) round)) next =
      subst (λ (u : ℕ). OrderedRound settings trace all history round (Keeps (all ++ round.rows) (rows_place trace all history round) (base_of u round)) next) until_same
      (subst (λ (rs : List Row). OrderedRound settings trace rs history round (Keeps (rs ++ round.rows) (rows_place trace rs history round) (base_of (until_after until times) round)) next) rows_same ordered) in
      let rest = timed_push_round (rows ++ one.rows) a.0 until_then some history later a.1.1.1.1 round next kept in
      let last : List Timed = round_times settings trace all history (until_after until_then later) round next in
      let its_times : times ++ round_times settings trace (rows ++ rows_of (one ∷ some)) history (until_after until times) round next ≡ first ++ (later ++ last) =
      ap (λ (rs : List Row). times ++ round_times settings trace rs history (until_after until times) round next) rows_same
      ∙ ap (λ (u : ℕ). times ++ round_times settings trace all history u round next) until_same
      ∙ ap (λ (ts : List Timed). ts ++ last) a.1.1.1.0
      ∙ append_assoc first later last in
      (a.0, (later ++ last, (a.1.1.0, (its_times, rest))))
