-- Places that are noted in the map of all machines.
use Rattle.std.proofs.Common.{◌≡◌, ℕ, zero, suc, ◌+◌, ◌-◌, ◌<◌, ◌≤◌, ◌⊎◌, inl, inr, Bool, true, false, ◌==◌, ◌||◌, List, [], ◌∷◌, ◌++◌, length, take, drop, min, refl, ap, sym, ◌∙◌, append_assoc, arith, Some, get_or}
use Rattle.std.specs.Prelude.{slice_get}
use Rattle.std.specs.List.{list_any, zip}
use Rattle.std.proofs.lemmas.Bool.{eq-eqb}
use Rattle.std.proofs.lemmas.List.{drop_all, drop_more}
use Rattle.omega_model.specs.Touches.{copied_seqs}
use Rattle.omega_model.specs.Touches.{places_on, seq}
use Rattle.omega_model.specs.declared.claims.Claim.{Claim}
use Rattle.omega_model.specs.declared.claims.Judgement.{Judgement}
use Rattle.omega_model.specs.declared.entries.Entry.{Entry}
use Rattle.omega_keep.specs.Touching.{ends_with, noted, with_place}

at_last : (place : ℕ) (places : List ℕ) → slice_get (places ++ place ∷ []) (length places) ≡ Some place
at_last place [] = refl
at_last place (first ∷ places) = at_last place places

same_number : (place : ℕ) → (place == place) ≡ true
same_number place = eq-eqb place place refl

one_less : (place : ℕ) (places : List ℕ) → length (places ++ place ∷ []) - 1 ≡ length places
one_less place [] = refl
one_less place (first ∷ places) = let one = one_longer place places in omega (arith, one) where
  one_longer : (place : ℕ) (places : List ℕ) → length (places ++ place ∷ []) ≡ suc (length places)
  one_longer place [] = refl
  one_longer place (first ∷ places) = ap suc (one_longer place places)

ends_so : (place : ℕ) (places : List ℕ) → ends_with place (places ++ place ∷ []) ≡ true
ends_so place places = rw (one_less place places, at_last place places) (same_number place)

twice : (place : ℕ) (places : List ℕ) → with_place place (with_place place places) ≡ with_place place places
twice place places = by_end (ends_with place places) refl where
  by_end : (b : Bool) → ends_with place places ≡ b → with_place place (with_place place places) ≡ with_place place places
  by_end true e = rw (e, e) refl
  by_end false e = rw (e, ends_so place places) refl

-- to note a place where one or another thing holds is to note it for the one and then for the other
pub noted_both : (place : ℕ) (a b : Bool) (places : List ℕ) → noted place b (noted place a places) ≡ noted place (a || b) places
noted_both place false b places = refl
noted_both place true false places = refl
noted_both place true true places = twice place places

-- what a claim and those behind it note
pub claims_noted : (place id i : ℕ) (claims : List Claim) (reply : List Judgement) (claim : Claim) (judgement : Judgement) (before after : List ℕ)
    → i < length claims → i < length reply → claim ≡ get_or claims i claim → judgement ≡ get_or reply i judgement
    → after ≡ noted place (places_on id (claim, judgement)) before
    → noted place (list_any (places_on id) (zip (drop (i + 1) claims) (drop (i + 1) reply))) after ≡ noted place (list_any (places_on id) (zip (drop i claims) (drop i reply))) before
claims_noted place id i claims reply claim judgement before after lc lj c j is =
    rw (
      is,
      drop_more claims i claim lc ∙ ap (λ (z : Claim). z ∷ drop (i + 1) claims) (sym c),
      drop_more reply i judgement lj ∙ ap (λ (z : Judgement). z ∷ drop (i + 1) reply) (sym j),
    )
    (noted_both place (places_on id (claim, judgement)) (list_any (places_on id) (zip (drop (i + 1) claims) (drop (i + 1) reply))) before)

none_left : (xs : List Claim) (ys : List Judgement) → ys ≡ [] → zip xs ys ≡ []
none_left [] ys e = refl
none_left (x ∷ xs) [] e = refl
none_left (x ∷ xs) (y ∷ ys) e = absurd cc

-- nothing more is noted once there is no claim or no answer
pub claims_end : (place id i : ℕ) (claims : List Claim) (reply : List Judgement) (places : List ℕ) → (length claims ≤ i) ⊎ (length reply ≤ i)
    → noted place (list_any (places_on id) (zip (drop i claims) (drop i reply))) places ≡ places
claims_end place id i claims reply places (inl h) = rw (drop_all i claims h) refl
claims_end place id i claims reply places (inr h) = rw (none_left (drop i claims) (drop i reply) (drop_all i reply h)) refl

cases_le : (a b : ℕ) → (a ≤ b) ⊎ (b ≤ a)
cases_le zero b = inl (omega arith)
cases_le (suc a) zero = inr (omega arith)
cases_le (suc a) (suc b) = elim (cases_le a b) [
  | inl h ↦ inl (omega (arith, h))
  | inr h ↦ inr (omega (arith, h))
]

pub either_end : (a b i m : ℕ) → m ≡ min a b → m ≤ i → (a ≤ i) ⊎ (b ≤ i)
either_end a b i m is le = elim (cases_le a b) [
  | inl h ↦ inl (omega (arith, h, is, le))
  | inr h ↦ inr (omega (arith, h, is, le))
]

-- the numbers of claims so far, with one more
pub seqs_more : (history : List Entry) (seen : ℕ) (claims : List Claim) (i n : ℕ) (claim : Claim) (done all : List ℕ)
    → i < length claims → claim ≡ get_or claims i claim → n ≡ seq (take seen history) claim.machine
    → done ++ copied_seqs history seen (drop i claims) ≡ all → (done ++ n ∷ []) ++ copied_seqs history seen (drop (i + 1) claims) ≡ all
seqs_more history seen claims i n claim done all lt at is so_far =
    append_assoc done (n ∷ []) (copied_seqs history seen (drop (i + 1) claims))
    ∙ ap (λ (k : ℕ). done ++ k ∷ copied_seqs history seen (drop (i + 1) claims)) is
    ∙ ap (λ (cs : List Claim). done ++ copied_seqs history seen cs) (sym (drop_more claims i claim lt ∙ ap (λ (z : Claim). z ∷ drop (i + 1) claims) (sym at)))
    ∙ so_far
