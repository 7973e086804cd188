-- The first rounds of a trace, in which the schedulers take turns.
use Rattle.std.proofs.Common.{◌≡◌, ◌≤◌, ℕ, List, [], ◌∷◌, ◌++◌, length, take, drop, refl, sym, ap, subst, arith, ◌∙◌, append_assoc}
use Rattle.std.proofs.Math.Seq.{take-append_seam, take-length}
use Rattle.std.proofs.lemmas.List.{append-nil, take-append-drop, take-take}
use Rattle.std.proofs.lemmas.Option.{none-some}
use Rattle.omega_model.specs.Feed.{rounds}
use Rattle.omega_model.specs.Lawful.{Lawful, Rounds, rows_of}
use Rattle.omega_model.specs.Turns.{InTurns}
use Rattle.omega_model.specs.declared.entries.Entry.{Entry}
use Rattle.omega_model.specs.declared.rows.Row.{Row}
use Rattle.omega_model.specs.declared.rows.Round.{Round}
use Rattle.omega_model.specs.declared.rows.TraceTables.{TraceTables}
use Rattle.omega_model.specs.declared.settings.Settings.{Settings}
use Rattle.omega_laws.specs.FirstRounds.{AreFirstInTurns}
use Rattle.omega_laws.proofs.RoundsAdd.{rounds_add}
use Rattle.omega_laws.proofs.TurnOrder.{only_in_turns, turns_front}

-- rounds are the first of them and then the others
rounds_split : (settings : Settings) (trace : TraceTables) (rows : List Row) (start : List Entry) (some later : List Round) (history : List Entry)
    → Rounds settings trace rows start (some ++ later) history
    → (middle : List Entry) × (Rounds settings trace rows start some middle × Rounds settings trace (rows ++ rows_of some) middle later history)
rounds_split settings trace rows start [] later history whole =
    (start, (refl, subst (λ (all : List Row). Rounds settings trace all start later history) (sym (append-nil rows)) whole))
rounds_split settings trace rows start (round ∷ some) later history whole =
    let rest = rounds_split settings trace (rows ++ round.rows) whole.0 some later history whole.1.1 in (
      rest.0,
      (
        (whole.0, (whole.1.0, rest.1.0)),
        subst (λ (all : List Row). Rounds settings trace all rest.0 later history) (append_assoc rows round.rows (rows_of some)) rest.1.1,
      ),
    )

-- rounds in turns that begin with some go on from the one history that these have
go_on : (settings : Settings) (trace : TraceTables) (some later : List Round) (one other : List Entry)
    → Rounds settings trace [] [] some one → InTurns one → Rounds settings trace [] [] (some ++ later) other → InTurns other
    → Rounds settings trace (rows_of some) one later other
go_on settings trace some later one other made turns whole all =
    let split = rounds_split settings trace [] [] some later other whole in
    let rest = rounds_add settings trace (rows_of some) split.0 later other split.1.1 in
    let same : split.0 ≡ one =
    only_in_turns settings trace [] [] some split.0 one split.1.0 (turns_front split.0 rest.0 (subst InTurns rest.1 all)) made turns in
    subst (λ (middle : List Entry). Rounds settings trace (rows_of some) middle later other) same split.1.1

module _ (settings : Settings) (trace : TraceTables) where
  -- the history of more rounds goes on from that of fewer, by the rounds between
  pub first_go_on : (fewer more : ℕ) (one other : List Entry) → fewer ≤ more
      → AreFirstInTurns settings trace fewer one → AreFirstInTurns settings trace more other
      → Rounds settings trace (rows_of (take fewer (rounds trace settings.window))) one (drop fewer (take more (rounds trace settings.window))) other
  first_go_on fewer more one other less first next =
      let all : List Round = rounds trace settings.window in
      let parts : take more all ≡ take fewer all ++ drop fewer (take more all) =
      sym (take-append-drop fewer (take more all)) ∙ ap (λ (front : List Round). front ++ drop fewer (take more all)) (take-take fewer more all less) in
      go_on settings trace (take fewer all) (drop fewer (take more all)) one other first.made first.turns
      (subst (λ (some : List Round). Rounds settings trace [] [] some other) parts next.made) next.turns

  -- so it begins with it
  pub first_begin : (fewer more : ℕ) (one other : List Entry) → fewer ≤ more
      → AreFirstInTurns settings trace fewer one → AreFirstInTurns settings trace more other
      → take (length one) other ≡ one
  first_begin fewer more one other less first next =
      let later = rounds_add settings trace (rows_of (take fewer (rounds trace settings.window))) one (drop fewer (take more (rounds trace settings.window))) other
      (first_go_on fewer more one other less first next) in
      ap (take (length one)) later.1 ∙ take-append_seam one later.0

  -- of equally many rounds there is one
  pub only_first : (count : ℕ) (one other : List Entry) → AreFirstInTurns settings trace count one → AreFirstInTurns settings trace count other → one ≡ other
  only_first count one other first next =
      only_in_turns settings trace [] [] (take count (rounds trace settings.window)) one other first.made first.turns next.made next.turns

  -- none has been played
  pub none_first : AreFirstInTurns settings trace 0 []
  none_first = record { within = omega arith; made = refl; turns = λ place entry is. absurd (none-some entry is) }

  -- all are those of a whole run
  pub all_first : (history : List Entry) → Lawful settings trace history → InTurns history
      → AreFirstInTurns settings trace (length (rounds trace settings.window)) history
  all_first history lawful turns = record {
    within = omega arith;
    made = subst (λ (some : List Round). Rounds settings trace [] [] some history) (sym (take-length (rounds trace settings.window))) lawful;
    turns = turns;
  }
