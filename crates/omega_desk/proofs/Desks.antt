-- What every desk keeps, when work begins and after each attempt.
use Rattle.std.proofs.Common.{◌≡◌, ℕ, ◌+◌, ◌≤◌, ◌==◌, not, List, [], ◌∷◌, ◌++◌, Option, None, Some, length, drop, refl, sym, ap, ◌∙◌, subst, arith}
use Rattle.std.specs.Prelude.{option_to_list, IsNone}
use Rattle.std.specs.List.{All, list_any}
use Rattle.std.proofs.lemmas.List.Elements.{All-cons, All-head, All-tail}
use Rattle.omega_model.proofs.Lists.{by_answer}
use Rattle.omega_model.specs.Touches.{is_placed}
use Rattle.omega_model.specs.Work.{failing_after, failing_with, places_wish, rest_of}
use Rattle.omega_model.specs.declared.claims.Outcome.{Outcome}
use Rattle.omega_model.specs.declared.wishes.Request.{Request}
use Rattle.omega_desk.specs.Counts.{count_of, IsCounted, KeepsRoom, AreWithin}
use Rattle.omega_desk.specs.Desks.{IsDesk}
use Rattle.omega_desk.specs.Walks.{HasDistinctWishes}
use Rattle.omega_desk.proofs.Walks.{distinct_still}

-- a list that is its own rest has nothing in it
own_rest : (items : List Request) → items ≡ drop 1 items → items ≡ []
own_rest [] same = refl
own_rest (item ∷ items) same = absurd (omega (arith, ap (λ (rs : List Request). length rs) same))

-- there is room for the counts of these requests
abbrev AreCounted : List (ℕ × ℕ) → List Request → Type 0
AreCounted counts requests = All (λ (request : Request). IsCounted counts request.job) requests

-- requests whose first one is taken out
pub begun : (attempts : ℕ) (counts : List (ℕ × ℕ)) (requests : List Request) → All HasDistinctWishes requests
    → AreCounted counts requests → AreWithin counts attempts
    → (present : Option Request) (waiting : List Request) → requests ≡ option_to_list present ++ waiting → waiting ≡ drop 1 requests
    → IsDesk present waiting attempts 0 counts
begun attempts counts requests distinct counted within present waiting all rest = record {
  distinct = subst (λ rs. All HasDistinctWishes rs) all distinct;
  counted = subst (λ rs. AreCounted counts rs) all counted;
  within = within;
  few = omega (arith);
  idle = idle present all;
}
  where
    idle : (first : Option Request) → requests ≡ option_to_list first ++ waiting → IsNone first → (waiting ≡ []) × (◌≡◌ {A = ℕ} 0 0)
    idle None none is = (own_rest waiting (rest ∙ ap (λ rs. drop 1 rs) none), refl)
    idle (Some request) some is = absurd (cc)

-- where no request is left none is present
none_present : (present : Option Request) (waiting : List Request) → option_to_list present ++ waiting ≡ [] → IsNone present
none_present None waiting none = refl
none_present (Some request) waiting none = absurd (cc)

-- a round's requests, when nothing was left
pub opened : (old : Option Request) (before : List Request) (attempts taken : ℕ) (counts new : List (ℕ × ℕ))
    → IsDesk old before attempts taken counts → option_to_list old ++ before ≡ []
    → ((job : ℕ) → count_of new job ≡ count_of counts job)
    → (requests : List Request) → All HasDistinctWishes requests → AreCounted new requests
    → (present : Option Request) (waiting : List Request) → requests ≡ option_to_list present ++ waiting → waiting ≡ drop 1 requests
    → IsDesk present waiting attempts taken new
opened old before attempts taken counts new desk none same requests distinct counted present waiting all rest =
    subst (λ n. IsDesk present waiting attempts n new) (sym (desk.idle (none_present old before none)).1)
    (begun attempts new requests distinct counted (λ job. subst (λ n. n ≤ attempts) (sym (same job)) (desk.within job)) present waiting all rest)

-- counts after one more commit
grown : (attempts count : ℕ) (outcomes : List Outcome) → count ≤ attempts → failing_after count outcomes ≤ attempts + 1
grown attempts count outcomes few =
    by_answer (list_any (λ outcome. is_placed outcome.verdict) outcomes)
    (λ t. rw t (omega (arith)))
    (λ f. rw f (omega (arith, few)))

grown_with : (attempts : ℕ) (counts : List (ℕ × ℕ)) (job : ℕ) (outcomes : List Outcome) → AreWithin counts attempts
    → (other : ℕ) → failing_with (count_of counts) job outcomes other ≤ attempts + 1
grown_with attempts counts job outcomes within other =
    by_answer (other == job)
    (λ t. rw t (grown attempts (count_of counts job) outcomes (within job)))
    (λ f. rw f (omega (arith, within other)))

module _ (request : Request) (waiting : List Request) (attempts taken : ℕ) (counts new : List (ℕ × ℕ)) (outcomes : List Outcome)
    (desk : IsDesk (Some request) waiting attempts taken counts) (room : KeepsRoom counts new)
    (noted : (job : ℕ) → count_of new job ≡ failing_with (count_of counts) request.job outcomes job) where
  within_new : AreWithin new (attempts + 1)
  within_new job = subst (λ n. n ≤ attempts + 1) (sym (noted job)) (grown_with attempts counts request.job outcomes desk.within job)

  counted_new : AreCounted new (request ∷ waiting)
  counted_new place other below = room _ (desk.counted place other below)

  -- the next request comes up
  pub moved : (next : Option Request) (later : List Request) → waiting ≡ option_to_list next ++ later → later ≡ drop 1 waiting
      → IsDesk next later (attempts + 1) 0 new
  moved =
      begun (attempts + 1) new waiting (All-tail HasDistinctWishes request waiting desk.distinct)
      (All-tail (λ (r : Request). IsCounted new r.job) request waiting counted_new) within_new

  -- the request stays with what the outcomes leave
  pub stayed : (rest : Request) → rest ≡ rest_of request outcomes → IsDesk (Some rest) waiting (attempts + 1) (taken + 1) new
  stayed rest is = subst (λ r. IsDesk (Some r) waiting (attempts + 1) (taken + 1) new) (sym is) (record {
    distinct = All-cons HasDistinctWishes _ waiting
        (distinct_still (λ wish. not (places_wish outcomes wish)) request.wishes (All-head HasDistinctWishes request waiting desk.distinct))
        (All-tail HasDistinctWishes request waiting desk.distinct);
    counted = All-cons (λ (r : Request). IsCounted new r.job) _ waiting (All-head (λ (r : Request). IsCounted new r.job) request waiting counted_new)
        (All-tail (λ (r : Request). IsCounted new r.job) request waiting counted_new);
    within = within_new;
    few = omega (arith, desk.few);
    idle = λ none. absurd (cc);
  })

-- what waits is known as what is at the desk is
waiting_too : (P : Request → Type 0) (present : Option Request) (waiting : List Request) → All P (option_to_list present ++ waiting) → All P waiting
waiting_too P None waiting all = all
waiting_too P (Some request) waiting all = All-tail P request waiting all

-- the next request comes up where the present one leaves without an attempt
pub skipped : (present : Option Request) (waiting : List Request) (attempts taken : ℕ) (counts : List (ℕ × ℕ)) → IsDesk present waiting attempts taken counts
    → (next : Option Request) (later : List Request) → waiting ≡ option_to_list next ++ later → later ≡ drop 1 waiting
    → IsDesk next later attempts 0 counts
skipped present waiting attempts taken counts desk =
    begun attempts counts waiting (waiting_too HasDistinctWishes present waiting desk.distinct)
    (waiting_too (λ (r : Request). IsCounted counts r.job) present waiting desk.counted) desk.within
