-- What is left of a scheduler's requests doesn't depend on entries that are no commits of it.
use Rattle.std.proofs.Common.{◌≡◌, ◌≤◌, ◌+◌, ℕ, zero, suc, false, cond, List, [], ◌∷◌, ◌++◌, length, take, drop, Option, Some, refl, sym, ap, subst, ◌∙◌, arith, append_assoc, append-nil}
use Rattle.std.specs.Prelude.{slice_get, option_map}
use Rattle.std.specs.List.{fold}
use Rattle.std.proofs.lemmas.List.{take-append-le, drop-append-le, length-append}
use Rattle.std.proofs.lemmas.List.Sums.{fold-append, sum_by-cons}
use Rattle.omega_model.specs.Work.{HasLeft, IsDue, Standing, after_entry, is_commit_of, commits_of, standing_of}
use Rattle.omega_model.specs.declared.entries.Entry.{Entry}
use Rattle.omega_model.specs.declared.rows.Row.{Row}
use Rattle.omega_model.specs.declared.rows.TraceTables.{TraceTables}
use Rattle.omega_model.specs.declared.settings.Settings.{Settings}
use Rattle.omega_model.specs.declared.wishes.Request.{Request}
use Rattle.omega_model.proofs.Lists.{by_answer}
use Rattle.omega_model.proofs.Standing.{after_entry-other, has_left-other}

-- what holds at some places of a list, of the item there and those before it, holds at these places of its
-- beginning
pub by_place_front : {X : Type 0} (C : ℕ → Type 0) (P : List X → X → Type 0) (xs ys : List X)
    → ((place : ℕ) (y : X) → slice_get (xs ++ ys) place ≡ Some y → C place → P (take place (xs ++ ys)) y)
    → (place : ℕ) (y : X) → slice_get xs place ≡ Some y → C place → P (take place xs) y
by_place_front C P [] ys all place y is here = absurd (cc is)
by_place_front C P (a ∷ xs) ys all zero y is here = all zero y is here
by_place_front C P (a ∷ xs) ys all (suc place) y is here =
    by_place_front (λ at. C (suc at)) (λ before. P (a ∷ before)) xs ys (λ at z found allowed. all (suc at) z found allowed) place y is here

-- of entries without a commit of a scheduler the first is none, and the others have none
pub none_among : (scheduler : ℕ) (entry : Entry) (later : List Entry) → commits_of scheduler (entry ∷ later) ≡ 0
    → (is_commit_of scheduler entry ≡ false) × (commits_of scheduler later ≡ 0)
none_among scheduler entry later none =
    let split : commits_of scheduler (entry ∷ later) ≡ cond (is_commit_of scheduler entry) 1 0 + commits_of scheduler later =
    sum_by-cons (λ e. cond (is_commit_of scheduler e) 1 0) entry later in
    let sum : cond (is_commit_of scheduler entry) 1 0 + commits_of scheduler later ≡ 0 = sym split ∙ none in
    by_answer (is_commit_of scheduler entry)
    (λ t. absurd (let some : 1 + commits_of scheduler later ≡ 0 = rw t at sum in omega (arith, some)))
    (λ f. (f, let rest : 0 + commits_of scheduler later ≡ 0 = rw f at sum in omega (arith, rest)))

standing_kept : (settings : Settings) (scheduler : ℕ) (standing : Option Standing) (later : List Entry) → commits_of scheduler later ≡ 0
    → fold (after_entry settings scheduler) standing later ≡ standing
standing_kept settings scheduler standing [] none = refl
standing_kept settings scheduler standing (entry ∷ later) none =
    let parts = none_among scheduler entry later none in
    ap (λ (s : Option Standing). fold (after_entry settings scheduler) s later) (after_entry-other settings scheduler standing entry parts.0)
    ∙ standing_kept settings scheduler standing later parts.1

module _ (settings : Settings) (trace : TraceTables) (rows : List Row) (opened_at scheduler : ℕ) where
  standing_later : (history later : List Entry) → opened_at ≤ length history → commits_of scheduler later ≡ 0
      → standing_of settings trace rows opened_at scheduler (history ++ later) ≡ standing_of settings trace rows opened_at scheduler history
  standing_later history later within none =
      rw (take-append-le opened_at history later within, drop-append-le opened_at history later within)
      (fold-append (after_entry settings scheduler) _ (drop opened_at history) later
      ∙ standing_kept settings scheduler (standing_of settings trace rows opened_at scheduler history) later none)

  -- what was left is left after entries that are no commits of the scheduler
  pub left_grown : (history later : List Entry) (left : List Request) → opened_at ≤ length history → commits_of scheduler later ≡ 0
      → HasLeft settings trace rows opened_at scheduler history left → HasLeft settings trace rows opened_at scheduler (history ++ later) left
  left_grown history [] left within none has =
      subst (λ es. HasLeft settings trace rows opened_at scheduler es left) (sym (append-nil history)) has
  left_grown history (entry ∷ later) left within none has =
      let parts = none_among scheduler entry later none in
      let more : opened_at ≤ length (history ++ entry ∷ []) = omega (arith, within, length-append history (entry ∷ [])) in
      subst (λ es. HasLeft settings trace rows opened_at scheduler es left) (append_assoc history (entry ∷ []) later)
      (left_grown (history ++ entry ∷ []) later left more parts.1
      (has_left-other settings trace rows opened_at scheduler history entry left parts.0 within has))

  -- and what is left after them was left before
  pub left_shrunk : (history later : List Entry) (left : List Request) → opened_at ≤ length history → commits_of scheduler later ≡ 0
      → HasLeft settings trace rows opened_at scheduler (history ++ later) left → HasLeft settings trace rows opened_at scheduler history left
  left_shrunk history later left within none has = record {
    remains = ap (option_map (λ (standing : Standing). standing.requests)) (sym (standing_later history later within none)) ∙ has.remains;
    due = by_place_front (λ place. opened_at ≤ place) (IsDue settings trace rows opened_at scheduler) history later has.due;
  }
