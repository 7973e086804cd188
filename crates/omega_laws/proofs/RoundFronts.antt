-- A round that is under way was under way at each moment since its rows.
use Rattle.std.proofs.Common.{◌≡◌, ◌≤◌, ℕ, List, [], ◌∷◌, ◌++◌, length, take, drop, Option, Some, None, refl, sym, ap, subst, ◌∙◌}
use Rattle.std.specs.List.{fold}
use Rattle.std.specs.Prelude.{option_map}
use Rattle.std.proofs.lemmas.List.{drop-append-le, length-take-le, take-append-drop, take-append-le}
use Rattle.std.proofs.lemmas.List.Sums.{fold-append}
use Rattle.omega_model.specs.Lawful.{IsCommitOfRound, RoundSoFar, opened}
use Rattle.omega_model.specs.Work.{HasLeft, IsDue, Standing, after_entry, standing_of}
use Rattle.omega_model.specs.declared.entries.Entry.{Entry}
use Rattle.omega_model.specs.declared.rows.Row.{Row}
use Rattle.omega_model.specs.declared.rows.Round.{Round}
use Rattle.omega_model.specs.declared.rows.TraceTables.{TraceTables}
use Rattle.omega_model.specs.declared.settings.Settings.{Settings}
use Rattle.omega_model.specs.declared.wishes.Request.{Request}
use Rattle.omega_model.proofs.Remaining.{by_place_front}

-- where nothing is known of what remains, nothing will be
none_stays : (settings : Settings) (scheduler : ℕ) (later : List Entry) → fold (after_entry settings scheduler) None later ≡ None
none_stays settings scheduler [] = refl
none_stays settings scheduler (entry ∷ later) = none_stays settings scheduler later

-- so what remained is known where it is known later
known_before : (settings : Settings) (scheduler : ℕ) (standing : Option Standing) (later : List Entry) (left : List Request)
    → option_map (λ (standing : Standing). standing.requests) (fold (after_entry settings scheduler) standing later) ≡ Some left
    → (had : List Request) × (option_map (λ (standing : Standing). standing.requests) standing ≡ Some had)
known_before settings scheduler None later left is =
    let clash : None ≡ Some left = sym (ap (option_map (λ (standing : Standing). standing.requests)) (none_stays settings scheduler later)) ∙ is in absurd (cc)
known_before settings scheduler (Some standing) later left is = (standing.requests, refl)

module _ (settings : Settings) (trace : TraceTables) where
  left_front : (rows : List Row) (opened_at scheduler : ℕ) (front later : List Entry) (left : List Request) → opened_at ≤ length front
      → HasLeft settings trace rows opened_at scheduler (front ++ later) left
      → (had : List Request) × HasLeft settings trace rows opened_at scheduler front had
  left_front rows opened_at scheduler front later left within has =
      let step : standing_of settings trace rows opened_at scheduler (front ++ later)
      ≡ fold (after_entry settings scheduler) (standing_of settings trace rows opened_at scheduler front) later =
      rw (take-append-le opened_at front later within, drop-append-le opened_at front later within)
      (fold-append (after_entry settings scheduler) _ (drop opened_at front) later) in
      let had = known_before settings scheduler (standing_of settings trace rows opened_at scheduler front) later left
      (ap (option_map (λ (standing : Standing). standing.requests)) (sym step) ∙ has.remains) in (
        had.0,
        record {
          remains = had.1;
          due = by_place_front (λ place. opened_at ≤ place) (IsDue settings trace rows opened_at scheduler) front later has.due;
        },
      )

  module _ (rows : List Row) (start : List Entry) (round : Round) where
    front_so_far : (front later : List Entry) → length (opened trace rows start round).history ≤ length front
        → RoundSoFar settings trace rows start round (front ++ later) → RoundSoFar settings trace rows start round front
    front_so_far front later within so_far =
        let opened_at : ℕ = length (opened trace rows start round).history in
        record {
          begins = sym (take-append-le opened_at front later within) ∙ so_far.begins;
          commits = by_place_front (λ place. opened_at ≤ place) (IsCommitOfRound settings opened_at) front later so_far.commits;
          work = λ scheduler known. left_front (rows ++ round.rows) opened_at scheduler front later (so_far.work scheduler known).0 within
              (so_far.work scheduler known).1;
        }

    -- a round that is under way was so before each place from its rows on
    pub so_far_before : (history : List Entry) (place : ℕ) → length (opened trace rows start round).history ≤ place → place ≤ length history
        → RoundSoFar settings trace rows start round history → RoundSoFar settings trace rows start round (take place history)
    so_far_before history place from within so_far =
        front_so_far (take place history) (drop place history)
        (subst (λ (n : ℕ). length (opened trace rows start round).history ≤ n) (sym (length-take-le place history within)) from)
        (subst (λ (h : List Entry). RoundSoFar settings trace rows start round h) (sym (take-append-drop place history)) so_far)
