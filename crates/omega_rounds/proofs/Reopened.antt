-- What was quiet where the rows of a round end stays so while a history goes on by commits.
use Rattle.std.proofs.Common.{◌≡◌, ◌≤◌, ℕ, zero, suc, true, List, [], ◌∷◌, length, take, drop, Some, refl, sym, ap, subst, arith, ◌∙◌, inl, inr}
use Rattle.std.specs.Prelude.{slice_get}
use Rattle.std.specs.List.{All, AllByRecursion as Each}
use Rattle.std.proofs.lemmas.List.{append-nil, take-append-le}
use Rattle.std.proofs.lemmas.List.Elements.{All-from_recursion}
use Rattle.omega_model.specs.Touches.{is_commit}
use Rattle.omega_feed.specs.Asked.{Asked}
use Rattle.omega_feed.specs.Open.{OpenPlaces, OthersAreQuiet}
use Rattle.omega_lock.specs.Lists.{StartsWith}
use Rattle.omega_model.specs.Lawful.{IsCommitOfRound}
use Rattle.omega_model.specs.State.{state}
use Rattle.omega_model.specs.Wanted.{WantedTask}
use Rattle.omega_model.specs.declared.entries.Entry.{Entry}
use Rattle.omega_model.specs.declared.entries.Entry.TheVariants.{Round as RoundEntry, MachineAdd, MachineUpdate, MachineRemove, AttrSet, AttrDelete, End, Commit}
use Rattle.omega_model.specs.declared.settings.Settings.{Settings}
use Rattle.omega_rounds.specs.Keeping.{IsWorld}
use Rattle.omega_opening.specs.Reopening.{WereQuiet}
use Rattle.omega_workers.specs.WorkerSteps.{WorkerSteps}
use Rattle.omega_rounds.specs.Stages.{Stage}
use Rattle.omega_workers.specs.declared.worker.Worker.{Worker}
use Rattle.omega_workers.specs.declared.steps.Stepped.{Stepped}
use Rattle.omega_workers.specs.declared.steps.Stepped.TheVariants.{Synced, Committed, Idle}
use Rattle.omega_rounds.proofs.Worlds.{rows_within}

-- what holds at all places from one on holds of the rest of a list
each_dropped : {X : Type 0} (P : X → Type 0) (n : ℕ) (xs : List X) → ((place : ℕ) (x : X) → slice_get xs place ≡ Some x → n ≤ place → P x)
    → Each P (drop n xs)
each_dropped P zero [] holds = tt
each_dropped P zero (x ∷ xs) holds =
    (holds zero x refl (omega arith), each_dropped P zero xs (λ place y is past. holds (suc place) y is (omega arith)))
each_dropped P (suc n) [] holds = tt
each_dropped P (suc n) (x ∷ xs) holds = each_dropped P n xs (λ place y is past. holds (suc place) y is (omega (arith, past)))

-- an entry of a round behind its rows is a commit
of_round : (settings : Settings) (opened_at : ℕ) (before : List Entry) (entry : Entry) → IsCommitOfRound settings opened_at before entry
    → is_commit entry ≡ true
of_round settings opened_at before (RoundEntry number) is = absurd is
of_round settings opened_at before (MachineAdd machine cap) is = absurd is
of_round settings opened_at before (MachineUpdate machine cap) is = absurd is
of_round settings opened_at before (MachineRemove machine) is = absurd is
of_round settings opened_at before (AttrSet machine name value) is = absurd is
of_round settings opened_at before (AttrDelete machine name) is = absurd is
of_round settings opened_at before (End key machine) is = absurd is
of_round settings opened_at before (Commit scheduler seen txn reply) is = refl

module _ (stage : Stage) (tasks : List WantedTask) (history : List Entry) (workers : List Worker) (world : IsWorld stage tasks history workers) where
  -- the rows of the round that is under way end within the history
  pub opened_within : stage.opened_at ≤ length history
  opened_within = elim (world.lawful world.made.0 world.made.1).run [
    | inl none ↦ let start : stage.opened_at ≡ 0 = none.start in omega (arith, start)
    | inr has ↦
        subst (λ (n : ℕ). n ≤ length history) (sym has.rows)
        (rows_within stage.settings world.made.0 history has.in_round.underway)
  ]

  commit_since : (place : ℕ) (entry : Entry) → slice_get history place ≡ Some entry → stage.opened_at ≤ place → is_commit entry ≡ true
  commit_since place entry here past = elim (world.lawful world.made.0 world.made.1).run [
    | inl none ↦
        let nothing : slice_get [] place ≡ Some entry = subst (λ (h : List Entry). slice_get h place ≡ Some entry) none.is_new.empty here in
        absurd (cc)
    | inr has ↦
        of_round stage.settings _ (take place history) entry
        (has.in_round.underway.begun.commits place entry here (subst (λ (n : ℕ). n ≤ place) has.rows past))
  ]

  -- the entries since then are commits
  pub commits_since : All (λ entry. is_commit entry ≡ true) (drop stage.opened_at history)
  commits_since =
      All-from_recursion (λ entry. is_commit entry ≡ true) (drop stage.opened_at history)
      (each_dropped (λ entry. is_commit entry ≡ true) stage.opened_at history commit_since)

  -- what was quiet where they end stays so while the history goes on
  pub were_quiet : (places : OpenPlaces) (asked : Asked) (later : List Entry) → StartsWith later history
      → WereQuiet places asked stage.opened_at history → WereQuiet places asked stage.opened_at later
  were_quiet places asked later more quiet =
      let same : take stage.opened_at later ≡ take stage.opened_at history =
      ap (take stage.opened_at) more.1 ∙ take-append-le stage.opened_at history more.0 opened_within in
      subst (λ (h : List Entry). OthersAreQuiet places asked (state h).tasks) (sym same) quiet

-- a history that is the same goes on from itself
pub goes_on_same : (before after : List Entry) → after ≡ before → StartsWith after before
goes_on_same before after same = ([], same ∙ sym (append-nil before))

-- a step of a worker lets the history go on
pub goes_on_step : (settings : Settings) (scheduler : ℕ) (before after : List Entry) (old new : Worker) (stepped : Stepped)
    → WorkerSteps settings scheduler before old after new stepped → StartsWith after before
goes_on_step settings scheduler before after old new Idle did = goes_on_same before after did.history
goes_on_step settings scheduler before after old new Synced did = goes_on_same before after did.history
goes_on_step settings scheduler before after old new (Committed place) did = (_, did.appended)
