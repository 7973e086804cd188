-- Lines that are gone through one after the other.
use Rattle.std.proofs.Common.{◌≡◌, ℕ, zero, suc, ◌+◌, ◌<◌, List, [], ◌∷◌, ◌++◌, Option, Some, None, length, take, drop, get_or, refl, ap, ap₂, sym, ◌∙◌, subst, arith}
use Rattle.std.specs.Prelude.{slice_get}
use Rattle.std.specs.BTreeMap.{BTreeMap}
use Rattle.std.proofs.lemmas.List.{length-append, map-append, take_more}
use Rattle.omega_model.proofs.Growing.{by_place_push}
use Rattle.omega_model.specs.Touches.{touches}
use Rattle.omega_model.specs.declared.entries.Entry.{Entry}
use Rattle.omega_keep.specs.Audited.{IsAudited, IsFirstRefused, IsPossible, IsRefused}
use Rattle.omega_keep.specs.KeptLines.{entry_text, IsAnswered, IsInRange, IsLineOf}
use Rattle.omega_keep.specs.Taking.{StopsFor, Takes}
use Rattle.omega_keep.specs.declared.stop.Stop.{Stop}
use Rattle.omega_keep.specs.declared.stop.Stop.TheVariants.{Refused, OutOfMemory}
use Rattle.omega_keep.specs.Touching.{noted, places_of, AreTouches}
use Rattle.omega_keep.proofs.Touched.{touches_push}

-- a line's entry has that line
line_of : (line : List ℕ) (entry : Entry) → IsLineOf line entry → IsLineOf (entry_text entry) entry
line_of line entry h = record { range = h.range; answered = h.answered; text = refl }

audited_more : (lines : List (List ℕ)) (line : List ℕ) (before : List Entry) (entry : Entry) → IsAudited lines before → IsLineOf line entry → IsPossible before entry
    → IsAudited (lines ++ line ∷ []) (before ++ entry ∷ [])
audited_more lines line before entry a h may = record {
  told = ap₂ (λ (xs ys : List (List ℕ)). xs ++ ys) a.told (ap (λ (t : List ℕ). t ∷ []) h.text) ∙ sym (map-append entry_text before (entry ∷ []));
  entries = by_place_push (λ others e. IsLineOf (entry_text e) e) before entry a.entries (line_of line entry h);
  possible = by_place_push IsPossible before entry a.possible may;
}

-- lines up to one more, whose entry goes on with the history
pub audited_push : (lines : List (List ℕ)) (place : ℕ) (line : List ℕ) (before after : List Entry) → place < length lines → get_or lines place [] ≡ line
    → IsAudited (take place lines) before → Takes line before after → IsAudited (take (place + 1) lines) after
audited_push lines place line before after lt at a t =
    let longer : take (place + 1) lines ≡ take place lines ++ line ∷ [] = take_more lines place [] lt ∙ ap (λ (l : List ℕ). take place lines ++ l ∷ []) at in
    subst (λ h. IsAudited (take (place + 1) lines) h) (sym t.goes.more)
    (subst (λ ls. IsAudited ls (before ++ t.entry ∷ [])) (sym longer) (audited_more (take place lines) line before t.entry a t.is_line t.goes.possible))

there_is : (lines : List (List ℕ)) (place : ℕ) → place < length lines → slice_get lines place ≡ Some (get_or lines place [])
there_is [] place h = absurd (omega arith)
there_is (line ∷ lines) zero h = refl
there_is (line ∷ lines) (suc place) h = there_is lines place (omega arith)

pub refused_at : (lines : List (List ℕ)) (place : ℕ) (line : List ℕ) (before : List Entry) → place < length lines → get_or lines place [] ≡ line
    → IsAudited (take place lines) before → IsRefused before line → IsFirstRefused lines place
refused_at lines place line before lt at a never = record {
  before = before;
  audited = a;
  line = line;
  there = there_is lines place lt ∙ ap Some at;
  refused = never;
}

-- no line is refused for an entry that isn't its own
pub other_entry : (line : List ℕ) (before : List Entry) (entry : Entry)
    → ((e : Entry) → IsInRange e → IsAnswered e → line ≡ entry_text e → Some entry ≡ Some e) → (IsPossible before entry → ⊥) → IsRefused before line
other_entry line before entry only never e h may =
    let same : entry ≡ e = is_that entry e (only e h.range h.answered h.text) in
    never (subst (λ x. IsPossible before x) (sym same) may) where
      is_that : (a b : Entry) → Some a ≡ Some b → a ≡ b
      is_that a b e = cc

pub no_entry : (line : List ℕ) (before : List Entry) (read : Option Entry) → read ≡ None
    → ((e : Entry) → IsInRange e → IsAnswered e → line ≡ entry_text e → read ≡ Some e) → IsRefused before line
no_entry line before read none only e h may = absurd (nothing (sym none ∙ only e h.range h.answered h.text)) where
  nothing : {x : Entry} → None ≡ Some x → ⊥
  nothing same = cc

-- the last of a history and those before it are in one way
last_two : (a b : List Entry) (x y : Entry) → a ++ x ∷ [] ≡ b ++ y ∷ [] → (a ≡ b) × (x ≡ y)
last_two [] [] x y e = (refl, ap (λ (l : List Entry). get_or l 0 x) e)
last_two [] (d ∷ b) x y e = let one = ap (λ (l : List Entry). length l) e in absurd (omega (arith, one, length-append b (y ∷ [])))
last_two (c ∷ a) [] x y e = let one = ap (λ (l : List Entry). length l) e in absurd (omega (arith, one, length-append a (x ∷ [])))
last_two (c ∷ a) (d ∷ b) x y e =
    let more = last_two a b x y (ap (λ (l : List Entry). drop 1 l) e) in
    (ap₂ (λ (z : Entry) (zs : List Entry). z ∷ zs) (ap (λ (l : List Entry). get_or l 0 c) e) more.0, more.1)

-- what is noted of the last entry
pub noted_last : (places more : BTreeMap ℕ (List ℕ)) (history first before : List Entry) (last entry : Entry)
    → history ≡ first ++ last ∷ [] → history ≡ before ++ entry ∷ []
    → ((id : ℕ) → places_of more id ≡ noted (length first) (touches id last) (places_of places id))
    → AreTouches places before → AreTouches more history
noted_last places more history first before last entry split is notes old =
    let same = last_two first before last entry (sym split ∙ is) in
    subst (λ h. AreTouches more h) (sym split) (touches_push places more first last (subst (λ h. AreTouches places h) (sym same.0) old) notes)

pub nothing_audited : IsAudited [] []
nothing_audited = record {
  told = refl;
  entries = λ place entry is. absurd (nothing entry is);
  possible = λ place entry is. absurd (nothing entry is);
} where
  nothing : (entry : Entry) → None ≡ Some entry → ⊥
  nothing entry e = cc

-- the item at a place, whatever is said of places without one
pub at_default : (lines : List (List ℕ)) (place : ℕ) (line : List ℕ) → place < length lines → line ≡ get_or lines place line → get_or lines place [] ≡ line
at_default [] place line h e = absurd (omega arith)
at_default (first ∷ lines) zero line h e = sym e
at_default (first ∷ lines) (suc place) line h e = at_default lines place line (omega arith) e

-- what a refusal says
pub refused_is : (Cause : Type 0) (stop : Stop) → stop ≡ Refused → StopsFor Cause stop → Cause
refused_is Cause Refused is h = h
refused_is Cause OutOfMemory is h = absurd cc
