-- A scheduler's commits in a history that goes on.
use Rattle.std.proofs.Common.{◌≡◌, ◌≤◌, ◌+◌, ℕ, List, ◌++◌, length, drop, refl, sym, ap, ◌∙◌, arith, eq-eqb, ne_eqb, length-append}
use Rattle.std.specs.Prelude.{◌==◌}
use Rattle.std.specs.List.{filter}
use Rattle.std.proofs.lemmas.List.{drop-append-le}
use Rattle.std.proofs.lemmas.List.Elements.{filter-append, filter_agree}
use Rattle.std.proofs.lemmas.List.Sums.{length-filter}
use mathlib.Core.Logic.{dite}
use native.Mathlib.Decide.{ℕ_discrete}
use Rattle.omega_lock.specs.Lists.{StartsWith, entries_since, is_by}
use Rattle.omega_model.specs.Work.{commits_of, is_commit_of}
use Rattle.omega_model.specs.declared.entries.Entry.{Entry}
use Rattle.omega_model.specs.declared.entries.Entry.TheVariants.{Round, MachineAdd, MachineUpdate, MachineRemove, AttrSet, AttrDelete, End, Commit}
use Rattle.omega_shared.specs.Commits.{GoesOnWithout, commits_since, committer_of}

-- whether two numbers are the same doesn't depend on which is asked for
same_number : (n m : ℕ) → (n == m) ≡ (m == n)
same_number n m =
    dite (ℕ_discrete n m)
    (λ same. eq-eqb n m same ∙ sym (eq-eqb m n (sym same)))
    (λ other. ne_eqb n m other ∙ sym (ne_eqb m n (λ same. other (sym same))))

-- an entry has a scheduler's number if it is a commit of it
pub by_committer : (n : ℕ) (entry : Entry) → is_by n (committer_of entry) ≡ is_commit_of n entry
by_committer n (Round number) = refl
by_committer n (MachineAdd machine cap) = refl
by_committer n (MachineUpdate machine cap) = refl
by_committer n (MachineRemove machine) = refl
by_committer n (AttrSet machine name value) = refl
by_committer n (AttrDelete machine name) = refl
by_committer n (End key machine) = refl
by_committer n (Commit by seen txn reply) = same_number n by

-- the entries of a seat's number are the commits of the scheduler of that number
pub entries_are_commits : (first n : ℕ) (history : List Entry) → entries_since committer_of first n history ≡ commits_since first n history
entries_are_commits first n history =
    filter_agree (λ entry. is_by n (committer_of entry)) (is_commit_of n) (by_committer n) (drop first history)

-- entries that add nothing to a scheduler's commits have none
none_later : (first n : ℕ) (old later : List Entry) → first ≤ length old → commits_since first n (old ++ later) ≡ commits_since first n old
    → commits_of n later ≡ 0
none_later first n old later within same =
    let split : commits_since first n (old ++ later) ≡ commits_since first n old ++ filter (is_commit_of n) later =
    ap (filter (is_commit_of n)) (drop-append-le first old later within) ∙ filter-append (is_commit_of n) (drop first old) later in
    let sizes : length (commits_since first n old) ≡ length (commits_since first n old) + length (filter (is_commit_of n) later) =
    ap length (sym same ∙ split) ∙ length-append (commits_since first n old) (filter (is_commit_of n) later) in
    let count = length-filter (is_commit_of n) later in
    sym count ∙ omega (arith, sizes)

-- where a scheduler's own commits are all of its number before and after, none came later
pub goes_on_without : (first n : ℕ) (old new own : List Entry) → first ≤ length old → StartsWith new old
    → own ≡ commits_since first n old → own ≡ commits_since first n new → GoesOnWithout n old new
goes_on_without first n old new own within starts before after = record {
  later = starts.0;
  goes_on = starts.1;
  others = none_later first n old starts.0 within (ap (commits_since first n) (sym starts.1) ∙ sym after ∙ before);
}
