-- Between a round's rows and its end no machine changes.
use Rattle.std.proofs.Common.{◌≡◌, ◌≤◌, ◌<◌, ℕ, List, [], ◌∷◌, ◌++◌, length, take, drop, nat_eq, Some, refl, sym, ap, subst, arith, ◌∙◌, append_assoc}
use Rattle.std.specs.List.{fold, IsDistinct, AllByRecursion as Each}
use Rattle.std.specs.Prelude.{All, slice_get}
use Rattle.std.proofs.lemmas.List.{append-nil, length-take-le, take-append-drop}
use Rattle.std.proofs.lemmas.List.Elements.{All-from_recursion}
use Rattle.std.proofs.lemmas.Option.{slice_get_within}
use Rattle.omega_model.specs.Cell.{Cell, empty_cell}
use Rattle.omega_model.specs.Lawful.{IsCommitOfRound, MayCommit, RoundSoFar, opened}
use Rattle.omega_model.specs.Machines.{added, attr_deleted, attr_set, change, ensured, numbers_of, removed, updated}
use Rattle.omega_model.specs.Planning.{plan_for}
use Rattle.omega_model.specs.State.{machines_after, state, step}
use Rattle.omega_model.specs.declared.cells.Machine.{Machine}
use Rattle.omega_model.specs.declared.claims.Claim.{Claim}
use Rattle.omega_model.specs.declared.claims.Judgement.{Judgement}
use Rattle.omega_model.specs.declared.claims.Policy.{Policy}
use Rattle.omega_model.specs.declared.claims.Txn.{Txn}
use Rattle.omega_model.specs.declared.entries.Entry.{Entry}
use Rattle.omega_model.specs.declared.entries.Entry.TheVariants.{Round as RoundEntry, MachineAdd, MachineUpdate, MachineRemove, AttrSet, AttrDelete, End, Commit}
use Rattle.omega_model.specs.declared.rows.Row.{Row}
use Rattle.omega_model.specs.declared.rows.Round.{Round}
use Rattle.omega_model.specs.declared.rows.TraceTables.{TraceTables}
use Rattle.omega_model.specs.declared.settings.Settings.{Settings}
use Rattle.omega_model.specs.declared.wishes.Wish.{Wish}
use Rattle.omega_model.proofs.Growing.{state_push}
use Rattle.omega_model.proofs.Listed.{numbers_changed, numbers_ensured}
use Rattle.omega_laws.specs.Constraints.{SuitsItsWish}
use Rattle.omega_laws.proofs.Places.{at_seam_from, front_push, longer}
use Rattle.omega_laws.proofs.RoundFronts.{so_far_before}
use Rattle.omega_laws.proofs.Suited.{plan_suited}

-- no number is listed twice
abbrev AreDistinct : List Machine → Type 0
AreDistinct machines = IsDistinct nat_eq (numbers_of machines)

changed_distinct : (id : ℕ) (f : Machine → Machine) → ((m : Machine) → (f m).id ≡ m.id) → (machines : List Machine)
    → AreDistinct machines → AreDistinct (change id f (ensured id machines))
changed_distinct id f keeps machines distinct =
    subst (IsDistinct nat_eq) (sym (numbers_changed id f keeps (ensured id machines))) (numbers_ensured id machines distinct)

distinct_after : (machines : List Machine) (entry : Entry) → AreDistinct machines → AreDistinct (machines_after machines entry)
distinct_after machines (RoundEntry number) distinct = distinct
distinct_after machines (MachineAdd machine cap) distinct = changed_distinct machine (added cap) (λ m. refl) machines distinct
distinct_after machines (MachineUpdate machine cap) distinct = changed_distinct machine (updated cap) (λ m. refl) machines distinct
distinct_after machines (MachineRemove machine) distinct = changed_distinct machine removed (λ m. refl) machines distinct
distinct_after machines (AttrSet machine name value) distinct = changed_distinct machine (attr_set name value) (λ m. refl) machines distinct
distinct_after machines (AttrDelete machine name) distinct = changed_distinct machine (attr_deleted name) (λ m. refl) machines distinct
distinct_after machines (End key machine) distinct = distinct
distinct_after machines (Commit scheduler seen txn reply) distinct = distinct

distinct_from : (cell : Cell) (history : List Entry) → AreDistinct cell.machines → AreDistinct (fold step cell history).machines
distinct_from cell [] distinct = distinct
distinct_from cell (entry ∷ history) distinct = distinct_from (step cell entry) history (distinct_after cell.machines entry distinct)

-- so it is after every history
state_distinct : (history : List Entry) → AreDistinct (state history).machines
unfolding IsDistinct
state_distinct history = distinct_from empty_cell history tt

module _ (settings : Settings) (trace : TraceTables) (rows : List Row) (start : List Entry) (round : Round) (history : List Entry)
    (so_far : RoundSoFar settings trace rows start round history) where
  -- the entries between are commits, which change no machine
  machines_stay : (before between later : List Entry) → history ≡ before ++ (between ++ later) → length (opened trace rows start round).history ≤ length before
      → (state (before ++ between)).machines ≡ (state before).machines
  machines_stay before [] later is within = ap (λ (h : List Entry). (state h).machines) (append-nil before)
  machines_stay before (entry ∷ between) later is within =
      ap (λ (h : List Entry). (state h).machines) (sym (append_assoc before (entry ∷ []) between))
      ∙ machines_stay (before ++ entry ∷ []) between later (front_push history before entry (between ++ later) is)
      (longer (length (opened trace rows start round).history) before entry within)
      ∙ ap (λ (cell : Cell). cell.machines) (state_push before entry)
      ∙ by_entry entry (at_seam_from (IsCommitOfRound settings (length (opened trace rows start round).history)) (length (opened trace rows start round).history)
      history before entry (between ++ later) is within so_far.commits) where
        by_entry : (entry : Entry) → IsCommitOfRound settings (length (opened trace rows start round).history) before entry
            → machines_after (state before).machines entry ≡ (state before).machines
        by_entry (RoundEntry number) may = absurd may
        by_entry (MachineAdd machine cap) may = absurd may
        by_entry (MachineUpdate machine cap) may = absurd may
        by_entry (MachineRemove machine) may = absurd may
        by_entry (AttrSet machine name value) may = absurd may
        by_entry (AttrDelete machine name) may = absurd may
        by_entry (End key machine) may = absurd may
        by_entry (Commit by seen txn reply) may = refl

  -- so the machines are those that were seen since the rows
  pub seen_machines : (seen : ℕ) → length (opened trace rows start round).history ≤ seen → seen ≤ length history
      → (state (take seen history)).machines ≡ (state history).machines
  seen_machines seen from within =
      let front : List Entry = take seen history in
      let later : List Entry = drop seen history in
      let whole : history ≡ front ++ (later ++ []) =
      sym (take-append-drop seen history) ∙ ap (λ (rest : List Entry). front ++ rest) (sym (append-nil later)) in
      sym (machines_stay front later [] whole
      (subst (λ (n : ℕ). length (opened trace rows start round).history ≤ n) (sym (length-take-le seen history within)) from))
      ∙ ap (λ (h : List Entry). (state h).machines) (take-append-drop seen history)

  -- and what suits its wish on those suits it on these
  pub suited_since : (seen : ℕ) (wishes : List Wish) (claims : List Claim) → length (opened trace rows start round).history ≤ seen → seen ≤ length history
      → All (SuitsItsWish (state (take seen history)).machines wishes) claims
      → All (SuitsItsWish (state history).machines wishes) claims
  suited_since seen wishes claims from within =
      subst (λ (machines : List Machine). All (SuitsItsWish machines wishes) claims) (seen_machines seen from within)

-- each claim of a plan suits its wish on the machines on which it was made
pub planned_suited : (entries : List Entry) (wishes : List Wish) (first : ℕ) (policy : Policy) (claims : List Claim)
    → claims ≡ plan_for (state entries) wishes first policy → All (SuitsItsWish (state entries).machines wishes) claims
planned_suited entries wishes first policy claims planned =
    All-from_recursion (SuitsItsWish (state entries).machines wishes) claims
    (subst (λ (some : List Claim). Each (SuitsItsWish (state entries).machines wishes) some) (sym planned)
    (plan_suited (state entries) wishes first policy (state_distinct entries)))

-- each claim of a commit that is such a plan suits its wish in the state at that commit
pub commit_suited : (settings : Settings) (trace : TraceTables) (rows : List Row) (start : List Entry) (round : Round) (history : List Entry)
    → RoundSoFar settings trace rows start round history
    → (place scheduler seen : ℕ) (txn : Txn) (reply : List Judgement)
    → slice_get history place ≡ Some (Commit scheduler seen txn reply) → length (opened trace rows start round).history ≤ place
    → (wishes : List Wish) (first : ℕ) (policy : Policy) → txn.claims ≡ plan_for (state (take seen (take place history))) wishes first policy
    → All (SuitsItsWish (state (take place history)).machines wishes) txn.claims
commit_suited settings trace rows start round history so_far place scheduler seen txn reply is from wishes first policy planned =
    let front : List Entry = take place history in
    let inside : place < length history = slice_get_within history place (Commit scheduler seen txn reply) is in
    let may : MayCommit settings (length (opened trace rows start round).history) front scheduler seen txn reply =
    so_far.commits place (Commit scheduler seen txn reply) is from in
    suited_since settings trace rows start round front (so_far_before settings trace rows start round history place from (omega arith) so_far)
    seen wishes txn.claims may.rows may.there
    (planned_suited (take seen front) wishes first policy txn.claims planned)
