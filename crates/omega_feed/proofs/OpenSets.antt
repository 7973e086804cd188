-- Sets of open places, one for each scheduler, of which one is changed.
use Rattle.std.proofs.Common.{◌≡◌, ◌≢◌, ◌+◌, ◌<◌, ◌⊎◌, ℕ, zero, suc, Bool, true, false, cond, [], ◌∷◌, ◌++◌, Option, Some, None, length, refl, ap, sym, subst, ◌∙◌, inl, inr, arith}
use Rattle.std.specs.Prelude.{set, slice_get}
use Rattle.std.specs.BTreeMap.{is_at}
use Rattle.std.specs.BTreeSet as tree
use Rattle.std.specs.BTreeSet.{BTreeSet}
use Rattle.std.specs.List.{list_any}
use Rattle.std.specs.Ordering.{nat_cmp}
use Rattle.std.proofs.lemmas.Bool.{eqb-true, cases_eq}
use Rattle.std.proofs.lemmas.Option.{none-some, same_Some}
use Rattle.omega_feed.specs.Asked.{Asked}
use Rattle.omega_feed.specs.Index.{StandsAt}
use Rattle.omega_feed.specs.Open.{IsOpen, LatestIsOpen, OpenPlaces, OpensAtMost, SameIsOpen, StayOpen, is_among_own, is_open}
use Rattle.omega_feed.specs.declared.jobs.JobPlace.{JobPlace}
use Rattle.omega_model.proofs.Lists.{by_answer}
use Rattle.omega_feed.proofs.JobList.{AreStands}
use Rattle.omega_feed.proofs.Picked.{same_place}

pub one_place : (p q : ℕ) → is_at (nat_cmp p) q ≡ true → q ≡ p
one_place p q at = eqb-true _ _ (sym (same_place p q) ∙ at)

kept : (b c : Bool) → c ≡ true → cond b true c ≡ true
kept true c e = refl
kept false c e = e

-- one more set with nothing in it opens no place
pub same_with_none : (places : OpenPlaces) (none : BTreeSet ℕ) → none.keys ≡ [] → SameIsOpen places (places ++ none ∷ [])
same_with_none [] none empty zero place = ap (list_any (is_at (nat_cmp place))) empty
same_with_none [] none empty (suc scheduler) place = refl
same_with_none (own ∷ places) none empty zero place = refl
same_with_none (own ∷ places) none empty (suc scheduler) place = same_with_none places none empty scheduler place

-- and what was the same is so still
pub same_with_more : (before places more : OpenPlaces) (none : BTreeSet ℕ) → none.keys ≡ [] → more ≡ places ++ none ∷ [] → SameIsOpen before places → SameIsOpen before more
same_with_more before places more none empty is same =
    subst (SameIsOpen before) (sym is) (λ scheduler place. same_with_none places none empty scheduler place ∙ same scheduler place)

-- what is open for a scheduler once it has another set
pub open_set_own : (places : OpenPlaces) (s : ℕ) (own : BTreeSet ℕ) → s < length places → (place : ℕ) → is_open (set places s own) s place ≡ tree.contains nat_cmp own place
open_set_own [] s own within place = absurd (omega (arith, within))
open_set_own (a ∷ places) zero own within place = refl
open_set_own (a ∷ places) (suc s) own within place = open_set_own places s own (omega (arith, within)) place

-- for the others the same is open then
pub open_set_other : (places : OpenPlaces) (s : ℕ) (own : BTreeSet ℕ) (other place : ℕ) → other ≢ s → is_open (set places s own) other place ≡ is_open places other place
open_set_other [] s own other place apart = refl
open_set_other (a ∷ places) zero own zero place apart = absurd (apart refl)
open_set_other (a ∷ places) zero own (suc other) place apart = refl
open_set_other (a ∷ places) (suc s) own zero place apart = refl
open_set_other (a ∷ places) (suc s) own (suc other) place apart = open_set_other places s own other place (λ same. apart (ap (λ (n : ℕ). suc n) same))

-- one place more in the set of a scheduler
module _ (before mid : OpenPlaces) (s : ℕ) (own new : BTreeSet ℕ) (same : SameIsOpen before mid) (here : slice_get mid s ≡ Some own) (within : s < length mid) where
  at_own : (place : ℕ) → is_open (set mid s new) s place ≡ tree.contains nat_cmp new place
  at_own place = open_set_own mid s new within place

  was_own : (place : ℕ) → tree.contains nat_cmp own place ≡ is_open before s place
  was_own place = sym (ap (λ o. is_among_own o place) here) ∙ same s place

  module _ (p : ℕ) (u : tree.Updates nat_cmp own new p true) where
    pub put_stays : StayOpen before (set mid s new)
    put_stays scheduler place e = elim (cases_eq scheduler s) [
      | inl one ↦
          subst (λ (n : ℕ). is_open (set mid s new) n place ≡ true) (sym one)
          (at_own place ∙ u.0 place ∙ kept (is_at (nat_cmp p) place) _ (was_own place ∙ subst (λ (n : ℕ). is_open before n place ≡ true) one e))
      | inr other ↦ open_set_other mid s new scheduler place other ∙ same scheduler place ∙ e
    ]

    pub put_opens : is_open (set mid s new) s p ≡ true
    put_opens = at_own p ∙ u.1

    pub put_alone : (scheduler place : ℕ) → is_open (set mid s new) scheduler place ≡ true → (is_open before scheduler place ≡ true) ⊎ ((scheduler ≡ s) × (place ≡ p))
    put_alone scheduler place e = elim (cases_eq scheduler s) [
      | inl one ↦
          by_answer (is_at (nat_cmp p) place)
          (λ t. inr (one, one_place p place t))
          (λ f. inl (subst (λ (n : ℕ). is_open before n place ≡ true) (sym one)
          (sym (was_own place) ∙ sym (ap (λ b. cond b true (tree.contains nat_cmp own place)) f) ∙ sym (u.0 place) ∙ sym (at_own place)
          ∙ subst (λ (n : ℕ). is_open (set mid s new) n place ≡ true) one e)))
      | inr other ↦ inl (sym (same scheduler place) ∙ sym (open_set_other mid s new scheduler place other) ∙ e)
    ]

-- a place that is opened is that of a job
pub opens_one : (before after : OpenPlaces) (asked : Asked) (job : ℕ) (found : Option JobPlace) (it : JobPlace) → AreStands asked.jobs job found → found ≡ Some it
    → ((scheduler place : ℕ) → is_open after scheduler place ≡ true → (is_open before scheduler place ≡ true) ⊎ ((scheduler ≡ it.scheduler) × (place ≡ it.place)))
    → OpensAtMost before after asked job
opens_one before after asked job found it stands is alone scheduler place e = elim (alone scheduler place e) [
  | inl was ↦ inl was
  | inr new ↦ inr
      (subst (λ (n : ℕ). StandsAt asked.jobs n job scheduler) (sym new.1)
      (subst (λ (n : ℕ). StandsAt asked.jobs it.place job n) (sym new.0) ((stands it.place it.scheduler).0 is)))
]

-- and is open then
pub is_opened : (after : OpenPlaces) (asked : Asked) (job : ℕ) (found : Option JobPlace) (it : JobPlace) → AreStands asked.jobs job found → found ≡ Some it
    → is_open after it.scheduler it.place ≡ true → IsOpen after asked job
is_opened after asked job found it stands is opened place scheduler at =
    let one : JobPlace = record { place = place; scheduler = scheduler } in
    let same : it ≡ one = same_Some it one (sym is ∙ (stands place scheduler).1 at) in
    subst (λ (i : JobPlace). is_open after i.scheduler i.place ≡ true) same opened

-- a job that stands nowhere is open
pub none_to_open : (after : OpenPlaces) (asked : Asked) (job : ℕ) (found : Option JobPlace) → AreStands asked.jobs job found → found ≡ None → IsOpen after asked job
none_to_open after asked job found stands is place scheduler at = absurd (none-some _ (sym is ∙ (stands place scheduler).1 at))

-- the place that was opened last is open
pub latest_open : (places : OpenPlaces) (latest : Option JobPlace) (it : JobPlace) → LatestIsOpen places latest → latest ≡ Some it
    → is_open places it.scheduler it.place ≡ true
latest_open places latest it opened same = subst (LatestIsOpen places) same opened
