-- What commits count for their schedulers.
use Rattle.std.proofs.Common.{◌≡◌, ℕ, zero, suc, ◌+◌, ◌<◌, ◌≤◌, Bool, true, false, List, [], ◌∷◌, ◌++◌, ◌==◌, map, set, length, get_or, refl, sym, ap, ap₂, ◌∙◌, arith, cond, append-nil, zero-add, not, if◌then◌else◌}
use Rattle.std.specs.Prelude.{count_by, replicate}
use Rattle.std.specs.List.{filter, flat_map, list_any, range_with_len}
use Rattle.std.proofs.lemmas.Bool.{eq-eqb, eqb-true, false_from_ne_true}
use Rattle.std.proofs.lemmas.Grind.{flat_map-append}
use Rattle.std.proofs.lemmas.List.{length-append}
use Rattle.std.proofs.lemmas.List.Elements.{filter-append}
use Rattle.std.proofs.lemmas.List.Sums.{sum_by-append}
use Rattle.omega_model.proofs.Lists.{by_answer}
use Rattle.omega_model.specs.Reply.{admits}
use Rattle.omega_model.specs.ReportCounts.{Counts, answers_in, claims_nothing, commits_by, counts_of, evicted_by, is_refused, is_withdrawn, leaves_some, places_some}
use Rattle.omega_model.specs.Touches.{is_placed}
use Rattle.omega_model.specs.Work.{is_commit_of, is_empty}
use Rattle.omega_model.specs.declared.claims.Judgement.{Judgement}
use Rattle.omega_model.specs.declared.claims.Txn.{Txn}
use Rattle.omega_model.specs.declared.entries.Entry.{Entry}
use Rattle.omega_model.specs.declared.entries.Entry.TheVariants.{Round, MachineAdd, MachineUpdate, MachineRemove, AttrSet, AttrDelete, End, Commit}
use Rattle.omega_report.specs.Counted.{counts_in}
use Rattle.omega_report.specs.Tallies.{added_at, counts_over, sum_of_counts, tallies}
use Rattle.omega_report.specs.declared.counts.Counts.{Counts as HeldCounts}

-- the tasks evicted by one more answer
pub evicted_placed : (judgement : Judgement) (rest : List Judgement) → is_placed judgement.verdict ≡ true
    → length (evicted_by (judgement ∷ rest)) ≡ length judgement.evicted + length (evicted_by rest)
evicted_placed judgement rest placed = rw placed (length-append judgement.evicted (evicted_by rest))

pub evicted_walked : (judgement : Judgement) (rest : List Judgement) → is_placed judgement.verdict ≡ false
    → length (evicted_by (judgement ∷ rest)) ≡ length (evicted_by rest)
evicted_walked judgement rest walked = rw walked refl

-- the commits of a scheduler with one more entry
commits_push : (scheduler : ℕ) (history : List Entry) (entry : Entry)
    → commits_by scheduler (history ++ entry ∷ []) ≡ (if is_commit_of scheduler entry then commits_by scheduler history ++ entry ∷ [] else commits_by scheduler history)
commits_push scheduler history entry =
    filter-append (is_commit_of scheduler) history (entry ∷ [])
    ∙ by_answer (is_commit_of scheduler entry) (λ t. rw t refl) (λ f. rw f (append-nil (commits_by scheduler history)))

-- what is counted over more commits
counts_joined : (first later : List Entry) → counts_over (first ++ later) ≡ sum_of_counts (counts_over first) (counts_over later)
counts_joined first later =
    let answers = flat_map-append answers_in first later in
    let counted : (p : Judgement → Bool) → count_by p (flat_map answers_in (first ++ later)) ≡ count_by p (flat_map answers_in first) + count_by p (flat_map answers_in later) =
    λ p. ap (count_by p) answers ∙ sum_by-append (λ j. cond (p j) 1 0) (flat_map answers_in first) (flat_map answers_in later) in
    let stopped : length (evicted_by (flat_map answers_in (first ++ later))) ≡ length (evicted_by (flat_map answers_in first)) + length (evicted_by (flat_map answers_in later)) =
    ap (λ js. length (evicted_by js)) answers
    ∙ ap (λ js. length (flat_map (λ (j : Judgement). j.evicted) js)) (filter-append admits (flat_map answers_in first) (flat_map answers_in later))
    ∙ ap length (flat_map-append (λ (j : Judgement). j.evicted) (filter admits (flat_map answers_in first)) (filter admits (flat_map answers_in later)))
    ∙ length-append (evicted_by (flat_map answers_in first)) (evicted_by (flat_map answers_in later)) in
    let all : length (first ++ later) ≡ length first + length later = length-append first later in
    let empty : count_by claims_nothing (first ++ later) ≡ count_by claims_nothing first + count_by claims_nothing later = sum_by-append (λ e. cond (claims_nothing e) 1 0) first later in
    let placing : count_by places_some (first ++ later) ≡ count_by places_some first + count_by places_some later = sum_by-append (λ e. cond (places_some e) 1 0) first later in
    let conflicted : count_by leaves_some (first ++ later) ≡ count_by leaves_some first + count_by leaves_some later = sum_by-append (λ e. cond (leaves_some e) 1 0) first later in
    λ i. record {
      commits = all i;
      empty = empty i;
      placing = placing i;
      conflicted = conflicted i;
      placed = counted (λ j. is_placed j.verdict) i;
      refused = counted (λ j. is_refused j.verdict) i;
      withdrawn = counted (λ j. is_withdrawn j.verdict) i;
      evicted = stopped i;
    }

-- a scheduler's own commit adds what it counts
own_commit : (scheduler : ℕ) (history : List Entry) (entry : Entry) → is_commit_of scheduler entry ≡ true
    → sum_of_counts (counts_of scheduler history) (counts_over (entry ∷ [])) ≡ counts_of scheduler (history ++ entry ∷ [])
own_commit scheduler history entry own =
    let more : commits_by scheduler (history ++ entry ∷ []) ≡ commits_by scheduler history ++ entry ∷ [] = commits_push scheduler history entry ∙ rw own refl in
    sym (ap counts_over more ∙ counts_joined (commits_by scheduler history) (entry ∷ []))

-- any other entry adds nothing
other_entry : (scheduler : ℕ) (history : List Entry) (entry : Entry) → is_commit_of scheduler entry ≡ false
    → counts_of scheduler history ≡ counts_of scheduler (history ++ entry ∷ [])
other_entry scheduler history entry other =
    let same : commits_by scheduler (history ++ entry ∷ []) ≡ commits_by scheduler history = commits_push scheduler history entry ∙ rw other refl in
    sym (ap counts_over same)

-- schedulers of which an entry is no commit keep their counts
others_keep : (history : List Entry) (entry : Entry) (from count : ℕ) → ((scheduler : ℕ) → from ≤ scheduler → is_commit_of scheduler entry ≡ false)
    → map (λ scheduler. counts_of scheduler history) (range_with_len from count) ≡ map (λ scheduler. counts_of scheduler (history ++ entry ∷ [])) (range_with_len from count)
others_keep history entry from zero none = refl
others_keep history entry from (suc count) none =
    ap₂ (λ (c : Counts) (cs : List Counts). c ∷ cs) (other_entry from history entry (none from (omega arith)))
    (others_keep history entry (from + 1) count (λ scheduler above. none scheduler (omega (arith, above))))

differ : (a b : ℕ) → (a ≡ b → ⊥) → (a == b) ≡ false
differ a b apart = false_from_ne_true _ (λ same. apart (eqb-true a b same))

-- a commit adds to the counts of its scheduler alone
commit_adds : (history : List Entry) (by seen : ℕ) (txn : Txn) (reply : List Judgement) (place from count : ℕ) → by ≡ from + place
    → added_at place (counts_over (Commit by seen txn reply ∷ [])) (map (λ scheduler. counts_of scheduler history) (range_with_len from count))
    ≡ map (λ scheduler. counts_of scheduler (history ++ Commit by seen txn reply ∷ [])) (range_with_len from count)
commit_adds history by seen txn reply zero from zero is = refl
commit_adds history by seen txn reply (suc place) from zero is = refl
commit_adds history by seen txn reply zero from (suc count) is =
    let entry = Commit by seen txn reply in
    let own : by ≡ from = omega (arith, is) in
    ap₂ (λ (c : Counts) (cs : List Counts). c ∷ cs) (own_commit from history entry (eq-eqb by from own))
    (others_keep history entry (from + 1) count (λ scheduler above. differ by scheduler (λ same. omega (arith, same, above, own))))
commit_adds history by seen txn reply (suc place) from (suc count) is =
    let entry = Commit by seen txn reply in
    ap₂ (λ (c : Counts) (cs : List Counts). c ∷ cs) (other_entry from history entry (differ by from (λ same. omega (arith, same, is))))
    (commit_adds history by seen txn reply place (from + 1) count (omega (arith, is)))

pub tallies_commit : (schedulers : ℕ) (history : List Entry) (by seen : ℕ) (txn : Txn) (reply : List Judgement)
    → added_at by (counts_over (Commit by seen txn reply ∷ [])) (tallies schedulers history) ≡ tallies schedulers (history ++ Commit by seen txn reply ∷ [])
tallies_commit schedulers history by seen txn reply = commit_adds history by seen txn reply by 0 schedulers (omega arith)

-- an entry that is no commit adds nothing
pub tallies_other : (schedulers : ℕ) (history : List Entry) (entry : Entry) → ((scheduler : ℕ) → is_commit_of scheduler entry ≡ false)
    → tallies schedulers history ≡ tallies schedulers (history ++ entry ∷ [])
tallies_other schedulers history entry none = others_keep history entry 0 schedulers (λ scheduler above. none scheduler)

-- an entry that isn't a commit is no scheduler's
pub no_commit : (entry : Entry) → ((by seen : ℕ) (txn : Txn) (reply : List Judgement) → entry ≡ Commit by seen txn reply → ⊥) → (scheduler : ℕ) → is_commit_of scheduler entry ≡ false
no_commit (Commit by seen txn reply) none scheduler = absurd (none by seen txn reply refl)
no_commit (Round number) none scheduler = refl
no_commit (MachineAdd machine cap) none scheduler = refl
no_commit (MachineUpdate machine cap) none scheduler = refl
no_commit (MachineRemove machine) none scheduler = refl
no_commit (AttrSet machine name value) none scheduler = refl
no_commit (AttrDelete machine name) none scheduler = refl
no_commit (End key machine) none scheduler = refl

-- one commit's counts, in full
pub commit_counts : (scheduler seen : ℕ) (txn : Txn) (reply : List Judgement)
    → counts_over (Commit scheduler seen txn reply ∷ []) ≡ record {
      commits = 1;
      empty = (if is_empty txn.claims then 1 else 0);
      placing = (if list_any admits reply then 1 else 0);
      conflicted = (if list_any (λ judgement. not (admits judgement)) reply then 1 else 0);
      placed = count_by (λ judgement. is_placed judgement.verdict) reply;
      refused = count_by (λ judgement. is_refused judgement.verdict) reply;
      withdrawn = count_by (λ judgement. is_withdrawn judgement.verdict) reply;
      evicted = length (evicted_by reply);
    }
commit_counts scheduler seen txn reply =
    let entry = Commit scheduler seen txn reply in
    let answers : flat_map answers_in (entry ∷ []) ≡ reply = append-nil reply in
    let empty : count_by claims_nothing (entry ∷ []) ≡ (if is_empty txn.claims then 1 else 0) = zero-add _ in
    let placing : count_by places_some (entry ∷ []) ≡ (if list_any admits reply then 1 else 0) = zero-add _ in
    let conflicted : count_by leaves_some (entry ∷ []) ≡ (if list_any (λ judgement. not (admits judgement)) reply then 1 else 0) = zero-add _ in
    λ i. record {
      commits = 1;
      empty = empty i;
      placing = placing i;
      conflicted = conflicted i;
      placed = count_by (λ judgement. is_placed judgement.verdict) (answers i);
      refused = count_by (λ judgement. is_refused judgement.verdict) (answers i);
      withdrawn = count_by (λ judgement. is_withdrawn judgement.verdict) (answers i);
      evicted = length (evicted_by (answers i));
    }

-- counts that the code adds at a place
pub added_set : (held : List HeldCounts) (place : ℕ) (more : Counts) (new old : HeldCounts) → place < length held → old ≡ get_or held place old
    → counts_in new ≡ sum_of_counts (counts_in old) more → map counts_in (set held place new) ≡ added_at place more (map counts_in held)
added_set [] place more new old below at is = absurd (omega (arith, below))
added_set (c ∷ cs) zero more new old below at is =
    ap (λ (x : Counts). x ∷ map counts_in cs) (is ∙ ap (λ (o : HeldCounts). sum_of_counts (counts_in o) more) at)
added_set (c ∷ cs) (suc place) more new old below at is =
    ap (λ (xs : List Counts). counts_in c ∷ xs) (added_set cs place more new old (omega (arith, below)) at is)

-- no scheduler stands past the last one
pub added_past : (counts : List Counts) (place : ℕ) (more : Counts) → length counts ≤ place → added_at place more counts ≡ counts
added_past [] zero more past = refl
added_past [] (suc place) more past = refl
added_past (c ∷ cs) zero more past = absurd (omega (arith, past))
added_past (c ∷ cs) (suc place) more past = ap (λ (xs : List Counts). c ∷ xs) (added_past cs place more (omega (arith, past)))

-- before the first entry nothing is counted
pub none_counted : (none : HeldCounts) → counts_in none ≡ counts_over [] → (from count : ℕ)
    → map counts_in (replicate count none) ≡ map (λ scheduler. counts_of scheduler []) (range_with_len from count)
none_counted none is from zero = refl
none_counted none is from (suc count) = ap₂ (λ (c : Counts) (cs : List Counts). c ∷ cs) is (none_counted none is (from + 1) count)
