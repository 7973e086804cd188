-- Items with their numbers, and lines of items, one after the other.
use Rattle.std.proofs.Common.{◌≡◌, ℕ, ◌+◌, ◌<◌, ◌≤◌, List, [], ◌∷◌, ◌++◌, map, take, length, get_or, sym, ap, ap₂, ◌∙◌, append_assoc, arith}
use Rattle.std.specs.List.{enumerate_from}
use Rattle.std.proofs.lemmas.List.{map_push, take_all, take_more}
use Rattle.std.proofs.lemmas.List.FromFn.{get_or-enumerate_from, length-enumerate_from}
use Rattle.omega_model.specs.Report.{Line}

module _ {X : Type 0} (items : List X) (n : ℕ) where
  long : length (enumerate_from 0 items) ≡ length items
  long = length-enumerate_from 0 items

  -- the first items with their numbers, and the one that follows
  pub numbered_more : (item : X) → n < length items → item ≡ get_or items n item
      → take (n + 1) (enumerate_from 0 items) ≡ take n (enumerate_from 0 items) ++ (n, item) ∷ []
  numbered_more item below is =
      let there : get_or (enumerate_from 0 items) n (0, item) ≡ (n, item) =
      get_or-enumerate_from 0 items n (0, item) below ∙ ap₂ (λ (k : ℕ) (x : X). (k, x)) (omega arith) (sym is) in
      take_more (enumerate_from 0 items) n (0, item) (omega (arith, long, below))
      ∙ ap (λ (x : ℕ × X). take n (enumerate_from 0 items) ++ x ∷ []) there

  -- so many with their numbers are all
  pub numbered_all : length items ≤ n → take n (enumerate_from 0 items) ≡ enumerate_from 0 items
  numbered_all past = take_all n (enumerate_from 0 items) (omega (arith, long, past))

-- the lines of some items, and that of one more
pub lined_more : {X : Type 0} (line : X → Line) (lines : List Line) (items : List X) (item : X)
    → (lines ++ map line items) ++ line item ∷ [] ≡ lines ++ map line (items ++ item ∷ [])
lined_more line lines items item =
    append_assoc lines (map line items) (line item ∷ []) ∙ ap (λ (more : List Line). lines ++ more) (sym (map_push line items item))
