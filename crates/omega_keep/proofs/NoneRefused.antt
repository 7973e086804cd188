-- Audited lines, none of which is refused.
use Rattle.std.proofs.Common.{◌≡◌, ◌∙◌, ℕ, zero, suc, List, [], ◌∷◌, Option, Some, None, map, take, drop, get_or, refl, sym, ap, ap₂, subst}
use Rattle.std.specs.Prelude.{slice_get, option_map, unwrap_or}
use Rattle.std.proofs.lemmas.List.{take-map}
use Rattle.std.proofs.lemmas.Option.{slice_get-map}
use Rattle.omega_model.specs.declared.entries.Entry.{Entry}
use Rattle.omega_keep.specs.Audited.{HaveLines, IsAudited, IsFirstRefused, IsPossible}
use Rattle.omega_keep.specs.KeptLines.{entry_text, IsLineOf}
use Rattle.omega_keep.proofs.Entries.{one_line}

-- two histories with the same lines are the same
same_histories : (a b : List Entry) → map entry_text a ≡ map entry_text b → HaveLines a → HaveLines b → a ≡ b
same_histories [] [] same of_a of_b = refl
same_histories [] (y ∷ b) same of_a of_b = absurd cc
same_histories (x ∷ a) [] same of_a of_b = absurd cc
same_histories (x ∷ a) (y ∷ b) same of_a of_b =
    let of_x = of_a 0 x refl in
    let of_y = of_b 0 y refl in
    ap₂ (λ (entry : Entry) (rest : List Entry). entry ∷ rest)
    (one_line x y of_x.range of_y.range of_x.answered of_y.answered (ap (λ (lines : List (List ℕ)). get_or lines 0 []) same))
    (same_histories a b (ap (λ (lines : List (List ℕ)). drop 1 lines) same)
    (λ place entry is. of_a (suc place) entry is) (λ place entry is. of_b (suc place) entry is))

-- what holds at each place of a list and of the items before it holds at each place of its front
front_at : {X : Type 0} (P : List X → X → Type 0) (count : ℕ) (xs : List X)
    → ((place : ℕ) (x : X) → slice_get xs place ≡ Some x → P (take place xs) x)
    → (place : ℕ) (x : X) → slice_get (take count xs) place ≡ Some x → P (take place (take count xs)) x
front_at P zero xs all place x is = absurd cc
front_at P (suc count) [] all place x is = absurd cc
front_at P (suc count) (y ∷ xs) all zero x is = all zero x is
front_at P (suc count) (y ∷ xs) all (suc place) x is =
    front_at (λ before. P (y ∷ before)) count xs (λ at z found. all (suc at) z found) place x is

-- the first of audited lines are audited
front_audited : (lines : List (List ℕ)) (history : List Entry) (count : ℕ) → IsAudited lines history → IsAudited (take count lines) (take count history)
front_audited lines history count audited = record {
  told = ap (λ (some : List (List ℕ)). take count some) audited.told ∙ take-map entry_text count history;
  entries = front_at (λ before entry. IsLineOf (entry_text entry) entry) count history audited.entries;
  possible = front_at IsPossible count history audited.possible;
}

-- none of audited lines is refused
pub never_refused : (lines : List (List ℕ)) (history : List Entry) (place : ℕ) → IsAudited lines history → IsFirstRefused lines place → ⊥
never_refused lines history place audited first = by_entry (slice_get history place) refl where
  front : IsAudited (take place lines) (take place history)
  front = front_audited lines history place audited

  before : first.before ≡ take place history
  before = same_histories first.before (take place history) (sym first.audited.told ∙ front.told) first.audited.entries front.entries

  line_there : Some first.line ≡ option_map entry_text (slice_get history place)
  line_there = sym first.there ∙ ap (λ (some : List (List ℕ)). slice_get some place) audited.told ∙ slice_get-map entry_text history place

  by_entry : (found : Option Entry) → slice_get history place ≡ found → ⊥
  by_entry None none = nothing (line_there ∙ ap (λ (found : Option Entry). option_map entry_text found) none) where
    nothing : Some first.line ≡ None → ⊥
    nothing same = cc
  by_entry (Some entry) is =
      let of_entry = audited.entries place entry is in
      let text = line_there ∙ ap (λ (found : Option Entry). option_map entry_text found) is in
      first.refused entry
      (record { range = of_entry.range; answered = of_entry.answered; text = ap (λ (found : Option (List ℕ)). unwrap_or found []) text })
      (subst (λ (some : List Entry). IsPossible some entry) (sym before) (audited.possible place entry is))
