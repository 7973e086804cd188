-- Where kept lines depart from the first rounds of a trace in turns: at one place, or nowhere.
use Rattle.std.proofs.Common.{◌≡◌, ◌≤◌, ◌<◌, ℕ, suc, true, false, List, [], ◌∷◌, ◌++◌, length, take, drop, Some, None, inl, inr, refl, sym, ap, subst, arith, ◌∙◌}
use Rattle.std.specs.Prelude.{◌==◌, if◌then◌else◌}
use Rattle.std.proofs.lemmas.Bool.{eq-eqb, eqb-true}
use Rattle.std.proofs.Math.Seq.{take-append_seam}
use Rattle.std.proofs.lemmas.List.{length-append, length-map, map-append}
use Rattle.std.proofs.lemmas.Slice.Eq.{bytes_eq-Decides}
use Rattle.omega_keep.specs.KeptLines.{entry_text}
use Rattle.omega_keep.specs.Resumed.{AreWholeRounds, ends_round, in_common, lines_of, refused_for}
use Rattle.omega_laws.specs.FirstRounds.{AreFirstInTurns}
use Rattle.omega_laws.proofs.FirstRounds.{all_first, first_go_on, none_first, only_first}
use Rattle.omega_laws.proofs.RoundsAdd.{rounds_add}
use Rattle.omega_model.proofs.Lists.{by_answer}
use Rattle.omega_model.specs.Feed.{rounds}
use Rattle.omega_model.specs.Lawful.{Lawful, begins_round, rows_of}
use Rattle.omega_model.specs.Turns.{InTurns}
use Rattle.omega_model.specs.declared.entries.Entry.{Entry}
use Rattle.omega_model.specs.declared.rows.Round.{Round}
use Rattle.omega_model.specs.declared.rows.TraceTables.{TraceTables}
use Rattle.omega_model.specs.declared.settings.Settings.{Settings}
use Rattle.omega_rounds.specs.Resuming.{AreRoundsInTurns, DepartAt}
use Rattle.omega_rounds.proofs.KeptRounds.{cases_le, common_ended, common_front, common_within, ends_before, ends_middle, get_front, item_within, refused_at, refused_middle, refused_none}
use Rattle.omega_rounds.proofs.RoundStarts.{ends_between}

-- ---- histories that go on

-- a round that is under way at a place within a history is so in a longer one
ends_front : (history later : List Entry) (place : ℕ) → place < length history → ends_round history place ≡ false
    → ends_round (history ++ later) place ≡ false
ends_front history later place within goes_on =
    let found = item_within history place within in
    let count = length-append history later in
    elim (cases_le place 0) [
      | inl none ↦
          let start : place ≡ 0 = omega (arith, none) in
          let clash : true ≡ false = sym (ap (ends_round history) start) ∙ goes_on in
          absurd (cc)
      | inr some ↦
          ends_middle (history ++ later) place found.0 some (omega (arith, within, count)) (get_front history later place found.0 found.1)
          (by_answer (begins_round found.0)
          (λ begins. let clash : true ≡ false = sym (ends_before history place found.0 found.1 begins) ∙ goes_on in absurd (cc))
          (λ none. none))
    ]

-- what refuses lines at a place within a history refuses them for a longer one
refused_later : (history later : List Entry) (kept : List (List ℕ)) (place : ℕ) → place < length history → refused_for history kept ≡ Some place
    → refused_for (history ++ later) kept ≡ Some place
refused_later history later kept place within refused =
    by_answer (in_common kept history == length kept)
    (λ same.
    let all : in_common kept history ≡ length kept = eqb-true (in_common kept history) (length kept) same in
    by_answer (ends_round history (length kept))
    (λ ends. let clash : None ≡ Some place = sym (refused_none history kept all ends) ∙ refused in absurd (cc))
    (λ goes_on.
    let told : Some (length kept) ≡ Some place = sym (refused_middle history kept all goes_on) ∙ refused in
    let is : length kept ≡ place = cc in
    refused_middle (history ++ later) kept (common_ended kept history later all)
    (ends_front history later (length kept) (omega (arith, within, is)) goes_on) ∙ told))
    (λ other.
    let told : Some (in_common kept history) ≡ Some place =
    subst (λ b. (if b then (if ends_round history (length kept) then None else Some (length kept)) else Some (in_common kept history)) ≡ Some place
    → Some (in_common kept history) ≡ Some place) (sym other) (λ e. e) refused in
    let is : in_common kept history ≡ place = cc in
    let most = common_within kept history in
    elim (cases_le (length kept) place) [
      | inl past ↦
          let clash : true ≡ false = sym (eq-eqb (in_common kept history) (length kept) (omega (arith, is, past, most))) ∙ other in
          absurd (cc)
      | inr short ↦ refused_at (history ++ later) kept place (common_front kept history later (omega (arith, is, within)) ∙ is) short
    ])

-- all lines of a history are its own
common_own : (history : List Entry) → in_common (lines_of history) history ≡ length (lines_of history)
common_own [] = refl
common_own (entry ∷ history) =
    rw ((bytes_eq-Decides (entry_text entry) (entry_text entry)).1 refl) (ap (λ (n : ℕ). suc n) (common_own history))

-- ---- the first rounds of a trace

-- no lines are those of no rounds
pub no_lines : (settings : Settings) (trace : TraceTables) → AreRoundsInTurns settings trace []
no_lines settings trace = record { count = 0; history = []; played = none_first settings trace; told = refl }

module _ (settings : Settings) (trace : TraceTables) where
  -- the lines of fewer rounds are accepted for the history of more
  accepted_later : (fewer more : ℕ) (one other : List Entry) → fewer ≤ more
      → AreFirstInTurns settings trace fewer one → AreFirstInTurns settings trace more other
      → refused_for other (lines_of one) ≡ None
  accepted_later fewer more one other less first next =
      let between : List Round = drop fewer (take more (rounds trace settings.window)) in
      let rows = rows_of (take fewer (rounds trace settings.window)) in
      let goes_on = first_go_on settings trace fewer more one other less first next in
      let later = rounds_add settings trace rows one between other goes_on in
      refused_none other (lines_of one)
      (ap (in_common (lines_of one)) later.1 ∙ common_ended (lines_of one) one later.0 (common_own one))
      (ap (ends_round other) (length-map one entry_text) ∙ ends_between settings trace rows one between other goes_on)

  -- whose number is no greater than that of all
  pub accepted_rounds : (kept : List (List ℕ)) (history : List Entry) → AreRoundsInTurns settings trace kept
      → AreFirstInTurns settings trace (length (rounds trace settings.window)) history → refused_for history kept ≡ None
  accepted_rounds kept history are whole =
      subst (λ (lines : List (List ℕ)). refused_for history lines ≡ None) (sym are.told)
      (accepted_later are.count (length (rounds trace settings.window)) are.history history are.played.within are.played whole)

  -- lines that depart from some rounds are refused there for more of them
  departs_later : (kept : List (List ℕ)) (place : ℕ) (departs : DepartAt settings trace kept place) (more : ℕ) (other : List Entry)
      → departs.count ≤ more → AreFirstInTurns settings trace more other → refused_for other kept ≡ Some place
  departs_later kept place departs more other less next = elim departs.reached [
    | inl within ↦
        let later = rounds_add settings trace (rows_of (take departs.count (rounds trace settings.window))) departs.history
        (drop departs.count (take more (rounds trace settings.window))) other
        (first_go_on settings trace departs.count more departs.history other less departs.played next) in
        subst (λ (h : List Entry). refused_for h kept ≡ Some place) (sym later.1)
        (refused_later departs.history later.0 kept place within departs.refused)
    | inr all ↦
        let most = next.within in
        let same : more ≡ departs.count = omega (arith, all, less, most) in
        subst (λ (h : List Entry). refused_for h kept ≡ Some place)
        (only_first settings trace departs.count departs.history other departs.played
        (subst (λ (n : ℕ). AreFirstInTurns settings trace n other) same next))
        departs.refused
  ]

  -- so there is one such place
  pub departs_once : (kept : List (List ℕ)) (one other : ℕ) → DepartAt settings trace kept one → DepartAt settings trace kept other → one ≡ other
  departs_once kept one other first next = elim (cases_le first.count next.count) [
    | inl less ↦
        let same : Some one ≡ Some other = sym (departs_later kept one first next.count next.history less next.played) ∙ next.refused in
        cc
    | inr more ↦
        let same : Some other ≡ Some one = sym (departs_later kept other next first.count first.history (omega (arith, more)) first.played) ∙ first.refused in
        cc
  ]

  -- it is the one at which they are refused for the whole run
  pub departs_whole : (kept : List (List ℕ)) (place : ℕ) (history : List Entry) → DepartAt settings trace kept place
      → Lawful settings trace history → InTurns history → refused_for history kept ≡ Some place
  departs_whole kept place history departs lawful turns =
      departs_later kept place departs (length (rounds trace settings.window)) history departs.played.within (all_first settings trace history lawful turns)

  -- and lines of first rounds depart nowhere
  pub departs_never : (kept : List (List ℕ)) (place : ℕ) → AreRoundsInTurns settings trace kept → DepartAt settings trace kept place → ⊥
  departs_never kept place are departs =
      let lines : lines_of are.history ≡ kept = sym are.told in
      elim (cases_le departs.count are.count) [
        | inl less ↦
            let clash : None ≡ Some place =
            sym (accepted_later are.count are.count are.history are.history (omega arith) are.played are.played)
            ∙ ap (refused_for are.history) lines ∙ departs_later kept place departs are.count are.history less are.played in
            absurd (cc)
        | inr more ↦
            let clash : None ≡ Some place =
            sym (accepted_later are.count departs.count are.history departs.history (omega (arith, more)) are.played departs.played)
            ∙ ap (refused_for departs.history) lines ∙ departs.refused in
            absurd (cc)
      ]

  -- those are the first lines of the whole run, up to the end of a round
  pub whole_front : (lines : List (List ℕ)) (history : List Entry) → AreRoundsInTurns settings trace lines
      → Lawful settings trace history → InTurns history → AreWholeRounds history lines
  whole_front lines history are lawful turns =
      let one : List Entry = are.history in
      let all : ℕ = length (rounds trace settings.window) in
      let rows = rows_of (take are.count (rounds trace settings.window)) in
      let between : List Round = drop are.count (take all (rounds trace settings.window)) in
      let goes_on = first_go_on settings trace are.count all one history are.played.within are.played (all_first settings trace history lawful turns) in
      let later = rounds_add settings trace rows one between history goes_on in
      record {
        count = length one;
        ends = ends_between settings trace rows one between history goes_on;
        told = are.told
            ∙ sym (take-append_seam (lines_of one) (lines_of later.0))
            ∙ ap (λ (n : ℕ). take n (lines_of one ++ lines_of later.0)) (length-map one entry_text)
            ∙ ap (take (length one)) (sym (map-append entry_text one later.0) ∙ ap lines_of (sym later.1));
      }
