-- In a history that is lawful so far each commit is a whole attempt.
use Rattle.std.proofs.Common.{◌≡◌, ◌≢◌, ◌≤◌, ◌<◌, ℕ, suc, inl, inr, All, List, [], ◌∷◌, ◌++◌, length, take, drop, Option, Some, refl, sym, ap, subst, arith, ◌∙◌, append-nil, append_assoc}
use Rattle.std.specs.List.{fold, AllByRecursion as Each}
use Rattle.std.specs.Prelude.{IsFalse, slice_get}
use Rattle.std.proofs.lemmas.Bool.{eqb-false}
use Rattle.std.proofs.lemmas.Grind.{flat_map-append}
use Rattle.std.proofs.lemmas.List.Elements.{All-from_recursion, recursion_from_All}
use Rattle.std.proofs.lemmas.List.{take-append-drop}
use Rattle.std.proofs.lemmas.Option.{none-some, slice_get_within}
use Rattle.omega_model.specs.Feed.{rounds}
use Rattle.omega_model.specs.Keys.{is_among}
use Rattle.omega_model.specs.Lawful.{Applied, Lawful, LawfulSoFar, MayCommit, RoundSoFar, Rounds, Underway, opened, rows_of, with_row}
use Rattle.omega_model.specs.Policy.{policy_of, schedulers}
use Rattle.omega_model.specs.Requests.{requests}
use Rattle.omega_model.specs.State.{state}
use Rattle.omega_model.specs.Stepping.{rows_end}
use Rattle.omega_model.specs.RowEntries.{row_entries}
use Rattle.omega_model.specs.Wanted.{wanted}
use Rattle.omega_model.specs.Work.{AgreesWithFirst, Standing, standing_of}
use Rattle.omega_model.specs.declared.cells.TaskKey.{TaskKey}
use Rattle.omega_model.specs.declared.claims.Claim.{Claim}
use Rattle.omega_model.specs.declared.claims.Mode.TheVariants.{Gang}
use Rattle.omega_model.specs.declared.claims.Txn.{Txn}
use Rattle.omega_model.specs.declared.entries.Entry.{Entry}
use Rattle.omega_model.specs.declared.entries.Entry.TheVariants.{Round as RoundEntry, MachineAdd, MachineUpdate, MachineRemove, AttrSet, AttrDelete, End, Commit}
use Rattle.omega_model.specs.declared.rows.Row.{Row}
use Rattle.omega_model.specs.declared.rows.Round.{Round}
use Rattle.omega_model.specs.declared.rows.TraceTables.{TraceTables}
use Rattle.omega_model.specs.declared.settings.Settings.{Settings}
use Rattle.omega_model.specs.declared.wishes.Request.{Request}
use Rattle.omega_model.proofs.Growing.{by_place_push}
use Rattle.omega_model.proofs.Lists.{each_map}
use Rattle.omega_model.proofs.RoundsInOrder.{rounds_push}
use Rattle.omega_laws.specs.WholeCommits.{BeganWith, CommitsWhole, CommitsAreWhole, IsWholeAttempt, SparesItsJob, claimed}
use Rattle.omega_laws.specs.Constraints.{SuitsItsWish}
use Rattle.omega_laws.specs.InRound.{rows_before, rows_now}
use Rattle.omega_laws.specs.NextCommit.{left_of}
use Rattle.omega_laws.proofs.Agreeing.{first_agrees}
use Rattle.omega_laws.proofs.EachLeft.{first_left}
use Rattle.omega_laws.proofs.EntireGangs.{IsOneOf, gangs_entire}
use Rattle.omega_laws.proofs.MachinesStay.{planned_suited, suited_since}
use Rattle.omega_laws.proofs.OneJob.{AsksForItsJob, IsOfJob, plan_of_request, standing_asks}
use Rattle.omega_laws.proofs.OtherJobs.{AreOfOthers, IsOfOther, IsPlanFor, not_among}
use Rattle.omega_laws.proofs.Places.{at_joined, next_is, take_next}
use Rattle.omega_laws.proofs.RoundFronts.{so_far_before}
use Rattle.omega_laws.proofs.RoundsAdd.{round_from}
use Rattle.omega_laws.proofs.RowEntries.{IsOfRow, are_of_row}

module _ (job : ℕ) (txn : Txn) (same_job : txn.job ≡ job) (own : Each (λ claim. claim.key.job ≡ job) txn.claims) where
  claim_spares : (claim : Claim) → (claim.key.job ≡ job) × AreOfOthers job claim.victims → SparesItsJob txn claim
  claim_spares claim is = record {
    own = is.0 ∙ sym same_job;
    others = All-from_recursion (λ (victim : TaskKey). victim.job ≢ claim.key.job) claim.victims
        (each_map (IsOfOther job) (λ (victim : TaskKey). victim.job ≢ claim.key.job)
        (λ victim other same. eqb-false victim.job job other (same ∙ is.0)) claim.victims is.1);
    unclaimed = All-from_recursion (λ (victim : TaskKey). IsFalse (is_among victim (claimed txn.claims))) claim.victims
        (each_map (IsOfOther job) (λ (victim : TaskKey). IsFalse (is_among victim (claimed txn.claims)))
        (λ victim other. not_among job victim txn.claims other own) claim.victims is.1);
  }

module _ (settings : Settings) (trace : TraceTables) where
  -- the first request that a scheduler of gangs has left is one with which the round began
  first_entire : (before : List Entry) (underway : Underway settings trace before) (scheduler : ℕ) (request : Request) (rest : List Request)
      → scheduler < schedulers settings → (policy_of settings scheduler).mode ≡ Gang
      → left_of settings trace (rows_now settings trace before underway) (rows_end settings trace before underway) before scheduler ≡ Some (request ∷ rest)
      → BeganWith settings trace before underway scheduler request
  first_entire before underway scheduler request rest known gangs is =
      let all : List Row = rows_now settings trace before underway in
      let opened_at : ℕ = rows_end settings trace before underway in
      let base : List Entry = (opened trace (rows_before settings trace before underway) underway.start underway.round).history in
      let entire = gangs_entire settings trace (rows_before settings trace before underway) underway.start underway.round before underway.begun scheduler known gangs in
      subst (λ (begun : List Entry). IsOneOf (requests settings trace all begun scheduler) request) (sym underway.begun.begins)
      (first_left (IsOneOf (requests settings trace all base scheduler)) (standing_of settings trace all opened_at scheduler before) request rest entire is)

  -- a transaction that agrees with the first request that remains is a whole attempt
  attempt_whole : (before : List Entry) (underway : Underway settings trace before) (scheduler seen : ℕ) (txn : Txn) → scheduler < schedulers settings
      → rows_end settings trace before underway ≤ seen → seen ≤ length before
      → AgreesWithFirst settings scheduler before seen txn
      (standing_of settings trace (rows_now settings trace before underway) (rows_end settings trace before underway) scheduler before)
      → IsWholeAttempt settings trace before scheduler seen txn
  attempt_whole before underway scheduler seen txn known rows there agrees =
      let all : List Row = rows_now settings trace before underway in
      let opened_at : ℕ = rows_end settings trace before underway in
      let standing : Option Standing = standing_of settings trace all opened_at scheduler before in
      let first = first_agrees settings scheduler before seen txn standing agrees in
      let asks : AsksForItsJob first.0 =
      first_left AsksForItsJob standing first.0 first.1.0 (standing_asks settings trace all opened_at scheduler before) first.1.1.0 in
      let is : IsPlanFor first.0.job first.0.wishes txn.mode txn.claims = plan_of_request settings trace before scheduler seen txn first.0 asks first.1.1.1 in
      let own : Each (λ claim. claim.key.job ≡ first.0.job) txn.claims =
      each_map (λ claim. (claim.key.job ≡ first.0.job) × AreOfOthers first.0.job claim.victims) (λ claim. claim.key.job ≡ first.0.job)
      (λ claim both. both.0) txn.claims is.each in
      let suited : All (SuitsItsWish (state (take seen before)).machines first.0.wishes) txn.claims =
      planned_suited (take seen before) first.0.wishes _ (policy_of settings scheduler) txn.claims first.1.1.1.claims in
      record {
        underway = underway;
        request = first.0;
        first = (first.1.0, first.1.1.0);
        planned = first.1.1.1;
        one_job = All-from_recursion (IsOfJob first.0.job) first.0.wishes asks;
        suited_when_seen = suited;
        suited = suited_since settings trace (rows_before settings trace before underway) underway.start underway.round before underway.begun
            seen first.0.wishes txn.claims rows there suited;
        entire = λ gang. first_entire before underway scheduler first.0 first.1.0 known (sym first.1.1.1.mode ∙ gang) first.1.1.0;
        whole = is.whole;
        spares = All-from_recursion (SparesItsJob txn) txn.claims
            (each_map (λ claim. (claim.key.job ≡ first.0.job) × AreOfOthers first.0.job claim.victims) (SparesItsJob txn)
            (claim_spares first.0.job txn first.1.1.1.job own) txn.claims is.each);
      }

  -- an entry of a row is no commit
  row_whole : (before : List Entry) (entry : Entry) → IsOfRow entry → CommitsWhole settings trace before entry
  row_whole before (RoundEntry number) is = absurd is
  row_whole before (MachineAdd machine cap) is = tt
  row_whole before (MachineUpdate machine cap) is = tt
  row_whole before (MachineRemove machine) is = tt
  row_whole before (AttrSet machine name value) is = tt
  row_whole before (AttrDelete machine name) is = tt
  row_whole before (End key machine) is = tt
  row_whole before (Commit scheduler seen txn reply) is = absurd is

  entries_whole : (history added : List Entry) → CommitsAreWhole settings trace history → Each IsOfRow added
      → CommitsAreWhole settings trace (history ++ added)
  entries_whole history [] whole are = subst (CommitsAreWhole settings trace) (sym (append-nil history)) whole
  entries_whole history (entry ∷ added) whole are =
      subst (CommitsAreWhole settings trace) (append_assoc history (entry ∷ []) added)
      (entries_whole (history ++ entry ∷ []) added
      (by_place_push (CommitsWhole settings trace) history entry whole (row_whole history entry are.0)) are.1)

  rows_whole : (rows : List Row) (applied : Applied) → CommitsAreWhole settings trace applied.history
      → CommitsAreWhole settings trace (fold (with_row trace) applied rows).history
  rows_whole [] applied whole = whole
  rows_whole (row ∷ rows) applied whole =
      let left = wanted (applied.rows ++ row ∷ []) in
      rows_whole rows (with_row trace applied row)
      (entries_whole applied.history (row_entries trace.disks (state applied.history) left row) whole
      (recursion_from_All IsOfRow (row_entries trace.disks (state applied.history) left row) (are_of_row trace.disks (state applied.history) left row)))

  -- a round's rows have no commits
  opened_whole : (rows : List Row) (start : List Entry) (round : Round) → CommitsAreWhole settings trace start
      → CommitsAreWhole settings trace (opened trace rows start round).history
  opened_whole rows start round whole =
      rows_whole round.rows (record { rows = rows; history = start ++ RoundEntry round.number ∷ [] })
      (by_place_push (CommitsWhole settings trace) start (RoundEntry round.number) whole tt)

  module _ (done : ℕ) (round : Round) (start : List Entry) (next : slice_get (rounds trace settings.window) done ≡ Some round)
      (before_it : Rounds settings trace [] [] (take done (rounds trace settings.window)) start) where
    abbrev rows : List Row
    rows = rows_of (take done (rounds trace settings.window))

    -- each commit of a round of the trace
    commits_whole : (history : List Entry) → RoundSoFar settings trace rows start round history
        → (place : ℕ) (entry : Entry) → slice_get history place ≡ Some entry → length (opened trace rows start round).history ≤ place
        → CommitsWhole settings trace (take place history) entry
    commits_whole history so_far place (RoundEntry number) is from = tt
    commits_whole history so_far place (MachineAdd machine cap) is from = tt
    commits_whole history so_far place (MachineUpdate machine cap) is from = tt
    commits_whole history so_far place (MachineRemove machine) is from = tt
    commits_whole history so_far place (AttrSet machine name value) is from = tt
    commits_whole history so_far place (AttrDelete machine name) is from = tt
    commits_whole history so_far place (End key machine) is from = tt
    commits_whole history so_far place (Commit scheduler seen txn reply) is from =
        let may : MayCommit settings (length (opened trace rows start round).history) (take place history) scheduler seen txn reply =
        so_far.commits place (Commit scheduler seen txn reply) is from in
        let inside : place < length history = slice_get_within history place (Commit scheduler seen txn reply) is in
        let underway : Underway settings trace (take place history) = record {
          done = done;
          round = round;
          next = next;
          start = start;
          whole = before_it;
          begun = so_far_before settings trace rows start round history place from (omega arith) so_far;
        } in
        attempt_whole (take place history) underway scheduler seen txn may.known may.rows may.there
        ((so_far.work scheduler may.known).1.due place (Commit scheduler seen txn reply) is from refl)

    round_whole : (history : List Entry) → CommitsAreWhole settings trace start → RoundSoFar settings trace rows start round history
        → CommitsAreWhole settings trace history
    round_whole history whole so_far =
        let base : List Entry = (opened trace rows start round).history in
        let is : history ≡ base ++ drop (length base) history = round_from settings trace rows start round history so_far in
        subst (CommitsAreWhole settings trace) (sym is)
        (at_joined (CommitsWhole settings trace) base (drop (length base) history) (opened_whole rows start round whole)
        (commits_whole (base ++ drop (length base) history) (subst (λ (h : List Entry). RoundSoFar settings trace rows start round h) is so_far)))

  -- some rounds that come after some first ones
  rounds_whole : (done : ℕ) (some rest : List Round) (start history : List Entry) → drop done (rounds trace settings.window) ≡ some ++ rest
      → Rounds settings trace [] [] (take done (rounds trace settings.window)) start
      → CommitsAreWhole settings trace start
      → Rounds settings trace (rows_of (take done (rounds trace settings.window))) start some history
      → CommitsAreWhole settings trace history
  rounds_whole done [] rest start history is before_it whole later = subst (CommitsAreWhole settings trace) (sym later) whole
  rounds_whole done (round ∷ some) rest start history is before_it whole later =
      let all : List Round = rounds trace settings.window in
      let next = next_is all done round (some ++ rest) is in
      let longer : take (suc done) all ≡ take done all ++ round ∷ [] = take_next all done round next.0 in
      let middle : List Entry = later.0 in
      let more_rows : rows_of (take (suc done) all) ≡ rows_of (take done all) ++ round.rows =
      ap rows_of longer ∙ flat_map-append (λ (round : Round). round.rows) (take done all) (round ∷ [])
      ∙ ap (λ (added : List Row). rows_of (take done all) ++ added) (append-nil round.rows) in
      rounds_whole (suc done) some rest middle history next.1
      (subst (λ (first : List Round). Rounds settings trace [] [] first middle) (sym longer)
      (rounds_push settings trace [] [] (take done all) round start middle before_it later.1.0))
      (round_whole done round start next.0 before_it middle whole later.1.0.begun)
      (subst (λ (rows : List Row). Rounds settings trace rows middle some history) (sym more_rows) later.1.1)

module _ (settings : Settings) (trace : TraceTables) where
  none_whole : CommitsAreWhole settings trace []
  none_whole place entry is = absurd (none-some entry is)

  -- the first rounds of a trace
  first_whole : (some rest : List Round) (history : List Entry) → rounds trace settings.window ≡ some ++ rest
      → Rounds settings trace [] [] some history → CommitsAreWhole settings trace history
  first_whole some rest history is whole = rounds_whole settings trace 0 some rest [] history is refl none_whole whole

  -- each commit of a lawful history is a whole attempt
  pub lawful_whole : (history : List Entry) → Lawful settings trace history → CommitsAreWhole settings trace history
  lawful_whole history lawful = first_whole (rounds trace settings.window) [] history (sym (append-nil (rounds trace settings.window))) lawful

  -- and so is each of a history that is lawful so far
  pub so_far_whole : (history : List Entry) → LawfulSoFar settings trace history → CommitsAreWhole settings trace history
  so_far_whole history (inl none) = subst (CommitsAreWhole settings trace) (sym none) none_whole
  so_far_whole history (inr underway) =
      let all : List Round = rounds trace settings.window in
      round_whole settings trace underway.done underway.round underway.start underway.next underway.whole history
      (first_whole (take underway.done all) (drop underway.done all) underway.start (sym (take-append-drop underway.done all)) underway.whole)
      underway.begun
