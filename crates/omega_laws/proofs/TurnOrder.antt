-- Turns put the commits of a round in one order.
use Rattle.std.proofs.Common.{◌≡◌, ◌≢◌, ℕ, false, List, [], ◌∷◌, ◌++◌, length, Option, subst, arith, inl, inr}
use Rattle.std.specs.Prelude.{All, ◌==◌, ◌⊎◌}
use Rattle.std.specs.List.{fold}
use Rattle.std.proofs.lemmas.Bool.{ne_eqb}
use Rattle.omega_model.specs.Feed.{rounds}
use Rattle.omega_model.specs.Lawful.{Lawful, RoundOf, Rounds, opened}
use Rattle.omega_model.specs.Turns.{InTurns, KeepsTurns, StandsBefore, read_entry, round_commits}
use Rattle.omega_model.specs.declared.claims.Judgement.{Judgement}
use Rattle.omega_model.specs.declared.claims.Txn.{Txn}
use Rattle.omega_model.specs.declared.entries.Entry.{Entry}
use Rattle.omega_model.specs.declared.entries.Entry.TheVariants.{Commit}
use Rattle.omega_model.specs.declared.rows.Row.{Row}
use Rattle.omega_model.specs.declared.rows.Round.{Round}
use Rattle.omega_model.specs.declared.rows.TraceTables.{TraceTables}
use Rattle.omega_model.specs.declared.settings.Settings.{Settings}
use Rattle.omega_model.proofs.Remaining.{by_place_front}
use Rattle.omega_laws.specs.NextCommit.{ComesNext}
use Rattle.omega_laws.specs.Orders.{EachComesNext, OrderedRounds, Orders}
use Rattle.omega_laws.specs.TurnOrder.{GoesEarlier, LostItsTurn, sees_in_turn, turn_of}
use Rattle.omega_laws.proofs.AnyOrder.{comes_next, one_comes_next, only_rounds}
use Rattle.omega_laws.proofs.CommitsRead.{commits_push, nothing_read, turn_push-other}
use Rattle.omega_laws.proofs.Places.{all_front, all_last}
use Rattle.omega_laws.proofs.RoundsAdd.{rounds_add}

-- of two schedulers one goes earlier
either_earlier : (before : List Entry) (one other : ℕ) → other ≢ one → GoesEarlier before one other ⊎ GoesEarlier before other one
either_earlier before one other apart = grind (arith)

not_both_earlier : (before : List Entry) (one other : ℕ) → GoesEarlier before one other → GoesEarlier before other one → ⊥
not_both_earlier before one other (inl a) (inl b) = absurd (omega arith)
not_both_earlier before one other (inl a) (inr b) = let c = b.0 in absurd (omega arith)
not_both_earlier before one other (inr a) (inl b) = let c = a.0 in absurd (omega arith)
not_both_earlier before one other (inr a) (inr b) = let c = a.1 in let d = b.1 in absurd (omega arith)

-- a scheduler that lost its turn has lost it after a commit of another
lost_push : (before : List Entry) (by seen : ℕ) (txn : Txn) (reply : List Judgement) (scheduler : ℕ)
    → (by == scheduler) ≡ false
    → LostItsTurn before scheduler
    → LostItsTurn (before ++ Commit by seen txn reply ∷ []) scheduler
lost_push before by seen txn reply scheduler other lost all =
    let same = turn_push-other before by seen txn reply scheduler other in
    let kept : All (StandsBefore (turn_of before scheduler) scheduler) (round_commits (before ++ Commit by seen txn reply ∷ [])) =
    subst (λ (turn : ℕ). All (StandsBefore turn scheduler) (round_commits (before ++ Commit by seen txn reply ∷ []))) same all in
    lost (all_front (StandsBefore (turn_of before scheduler) scheduler) (round_commits before) _
    (subst (All (StandsBefore (turn_of before scheduler) scheduler)) (commits_push before by seen txn reply) kept))

-- a scheduler loses its turn where another commits that goes later
lost_first : (before : List Entry) (by seen : ℕ) (txn : Txn) (reply : List Judgement) (scheduler : ℕ)
    → (by == scheduler) ≡ false
    → GoesEarlier before scheduler by
    → LostItsTurn (before ++ Commit by seen txn reply ∷ []) scheduler
lost_first before by seen txn reply scheduler other first all =
    let same = turn_push-other before by seen txn reply scheduler other in
    let kept : All (StandsBefore (turn_of before scheduler) scheduler) (round_commits (before ++ Commit by seen txn reply ∷ [])) =
    subst (λ (turn : ℕ). All (StandsBefore turn scheduler) (round_commits (before ++ Commit by seen txn reply ∷ []))) same all in
    let last : StandsBefore (turn_of before scheduler) scheduler
    (record { place = (fold read_entry nothing_read before).place; scheduler = by; turn = turn_of before by }) =
    all_last (StandsBefore (turn_of before scheduler) scheduler) (round_commits before) _
    (subst (All (StandsBefore (turn_of before scheduler) scheduler)) (commits_push before by seen txn reply) kept) in
    not_both_earlier before by scheduler last first

-- turns are such a rule
pub turns_order : (settings : Settings) (trace : TraceTables) (rows : List Row) (opened_at : ℕ) → Orders settings trace rows opened_at KeepsTurns GoesEarlier LostItsTurn sees_in_turn
turns_order settings trace rows opened_at = record {
  has_seen = λ before scheduler seen txn reply keeps. keeps.seen_first;
  either = either_earlier;
  not_both = not_both_earlier;
  passes = λ before by seen txn reply scheduler request within apart works goes.
      lost_first before by seen txn reply scheduler (ne_eqb by scheduler apart) goes;
  stays = λ before by seen txn reply scheduler request within apart works lost.
      lost_push before by seen txn reply scheduler (ne_eqb by scheduler apart) lost;
  stops = λ before scheduler seen txn reply lost keeps. lost keeps.order;
}

-- a front of a history in turns is in turns
pub turns_front : (front later : List Entry) → InTurns (front ++ later) → InTurns front
turns_front front later turns place entry is =
    by_place_front (λ place. Unit {0}) KeepsTurns front later (λ place entry is here. turns place entry is) place entry is tt

-- rounds of a history in turns keep to the turns one by one
rounds_in_turns : (settings : Settings) (trace : TraceTables) (rows : List Row) (start : List Entry) (some : List Round) (history : List Entry)
    → Rounds settings trace rows start some history → InTurns history
    → OrderedRounds settings trace (λ rows start round. KeepsTurns) rows start some history
rounds_in_turns settings trace rows start [] history whole turns = whole
rounds_in_turns settings trace rows start (round ∷ some) history whole turns =
    let later = rounds_add settings trace (rows ++ round.rows) whole.0 some history whole.1.1 in
    let turns_here : InTurns whole.0 = turns_front whole.0 later.0 (subst InTurns later.1 turns) in (
      whole.0,
      (
        record { whole = whole.1.0; keeps = λ place entry is from. turns_here place entry is },
        rounds_in_turns settings trace (rows ++ round.rows) whole.0 some history whole.1.1 turns,
      ),
    )

-- at each place of a round in turns, from its rows to its end, stands what comes next
pub comes_next_in_turns : (settings : Settings) (trace : TraceTables) (rows : List Row) (start : List Entry) (round : Round) (history : List Entry)
    → RoundOf settings trace rows start round history → InTurns history
    → EachComesNext settings trace rows start round GoesEarlier sees_in_turn history
comes_next_in_turns settings trace rows start round history whole turns =
    comes_next settings trace rows start round KeepsTurns GoesEarlier LostItsTurn sees_in_turn
    (turns_order settings trace (rows ++ round.rows) (length (opened trace rows start round).history)) history
    (record { whole = whole; keeps = λ place entry is from. turns place entry is })

-- and nothing else does
pub one_comes_next_in_turns : (settings : Settings) (trace : TraceTables) (rows : List Row) (opened_at : ℕ) (before : List Entry) (one other : Option Entry)
    → ComesNext settings trace rows opened_at GoesEarlier sees_in_turn before one
    → ComesNext settings trace rows opened_at GoesEarlier sees_in_turn before other → one ≡ other
one_comes_next_in_turns settings trace rows opened_at =
    one_comes_next settings trace rows opened_at KeepsTurns GoesEarlier LostItsTurn sees_in_turn (turns_order settings trace rows opened_at)

-- a history that is made of these rounds in turns is the only one after their start
pub only_in_turns : (settings : Settings) (trace : TraceTables) (rows : List Row) (start : List Entry) (some : List Round) (one other : List Entry)
    → Rounds settings trace rows start some one → InTurns one
    → Rounds settings trace rows start some other → InTurns other
    → one ≡ other
only_in_turns settings trace rows start some one other whole_one turns_one whole_other turns_other =
    only_rounds settings trace (λ rows start round. KeepsTurns) (λ rows start round. GoesEarlier) (λ rows start round. LostItsTurn) (λ rows start round. sees_in_turn)
    (λ rows start round. turns_order settings trace (rows ++ round.rows) (length (opened trace rows start round).history))
    rows start some one other
    (rounds_in_turns settings trace rows start some one whole_one turns_one)
    (rounds_in_turns settings trace rows start some other whole_other turns_other)

-- a lawful history in turns is the only one for these settings and this trace
pub only_history : (settings : Settings) (trace : TraceTables) (one other : List Entry)
    → Lawful settings trace one → InTurns one
    → Lawful settings trace other → InTurns other
    → one ≡ other
only_history settings trace one other lawful_one turns_one lawful_other turns_other =
    only_in_turns settings trace [] [] (rounds trace settings.window) one other lawful_one turns_one lawful_other turns_other
