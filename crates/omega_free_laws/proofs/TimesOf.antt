-- The times of a run by the free clock are those of its commits.
use Rattle.std.proofs.Common.{◌≡◌, ◌+◌, ℕ, false, List, [], ◌∷◌, ◌++◌, length, refl, sym, ap, subst, ◌∙◌, inl, inr, arith}
use Rattle.std.specs.List.{fold}
use Rattle.std.proofs.lemmas.Bool.{both_ways}
use Rattle.std.proofs.lemmas.List.{map_push}
use Rattle.std.proofs.lemmas.List.Sums.{fold-append}
use Rattle.omega_model.specs.Touches.{is_commit}
use Rattle.omega_model.specs.declared.claims.Judgement.{Judgement}
use Rattle.omega_model.specs.declared.claims.Txn.{Txn}
use Rattle.omega_model.specs.declared.entries.Entry.{Entry}
use Rattle.omega_model.specs.declared.entries.Entry.TheVariants.{Round as RoundEntry, MachineAdd, MachineUpdate, MachineRemove, AttrSet, AttrDelete, End, Commit}
use Rattle.omega_free_laws.specs.Readings.{Reading}
use Rattle.omega_model.specs.declared.settings.Settings.{Settings}
use Rattle.omega_laws.specs.VirtualTime.{Timed}
use Rattle.omega_free_laws.specs.Free.{FreeRun, after}
use Rattle.omega_free_laws.specs.FreeLaws.{AreTimesOf, CommitPlace, CommitsSoFar, placed_commits, read_one}
use Rattle.omega_free_laws.specs.FreeSteps.{DueCommit, Moment}
use Rattle.omega_free_laws.specs.NextStep.{Happens}
use Rattle.omega_free_laws.proofs.OneStep.{holds_after}
use Rattle.omega_free_laws.proofs.Seen.{stays_ended, stays_opened}

nothing_read : CommitsSoFar
nothing_read = record { place = 0; commits = [] }

read_place : (read : CommitsSoFar) (entry : Entry) → (read_one read entry).place ≡ read.place + 1
read_place read (RoundEntry number) = refl
read_place read (MachineAdd machine cap) = refl
read_place read (MachineUpdate machine cap) = refl
read_place read (MachineRemove machine) = refl
read_place read (AttrSet machine name value) = refl
read_place read (AttrDelete machine name) = refl
read_place read (End key machine) = refl
read_place read (Commit by seen txn reply) = refl

read_places : (read : CommitsSoFar) (entries : List Entry) → (fold read_one read entries).place ≡ read.place + length entries
read_places read [] = omega arith
read_places read (entry ∷ entries) =
    let rest = read_places (read_one read entry) entries in
    let first = read_place read entry in
    omega (arith, rest, first)

read_none : (read : CommitsSoFar) (entry : Entry) → is_commit entry ≡ false → (read_one read entry).commits ≡ read.commits
read_none read (RoundEntry number) none = refl
read_none read (MachineAdd machine cap) none = refl
read_none read (MachineUpdate machine cap) none = refl
read_none read (MachineRemove machine) none = refl
read_none read (AttrSet machine name value) none = refl
read_none read (AttrDelete machine name) none = refl
read_none read (End key machine) none = refl
read_none read (Commit by seen txn reply) none = absurd (both_ways _ none refl)

placed_none : (history : List Entry) (entry : Entry) → is_commit entry ≡ false → placed_commits (history ++ entry ∷ []) ≡ placed_commits history
placed_none history entry none =
    ap (λ (read : CommitsSoFar). read.commits) (fold-append read_one (record { place = 0; commits = [] }) history (entry ∷ []))
    ∙ read_none (fold read_one (record { place = 0; commits = [] }) history) entry none

placed_push : (history : List Entry) (by seen : ℕ) (txn : Txn) (reply : List Judgement)
    → placed_commits (history ++ Commit by seen txn reply ∷ []) ≡ placed_commits history ++ record { place = length history; scheduler = by } ∷ []
placed_push history by seen txn reply =
    let at : (fold read_one (record { place = 0; commits = [] }) history).place ≡ length history =
    let all = read_places (record { place = 0; commits = [] }) history in omega (arith, all) in
    ap (λ (read : CommitsSoFar). read.commits) (fold-append read_one (record { place = 0; commits = [] }) history (Commit by seen txn reply ∷ []))
    ∙ ap (λ (n : ℕ). placed_commits history ++ record { place = n; scheduler = by } ∷ []) at

module _ (settings : Settings) (reading : Reading) where
  -- the times so far are those of the commits so far
  abbrev AreSoFar : Moment → Type 0
  AreSoFar moment = AreTimesOf moment.past.history moment.times

  are_next : (old new : Moment) → AreSoFar old → Happens settings reading old new → AreSoFar new
  are_next old new are (inl opens) =
      subst AreSoFar (sym opens.happens)
      (stays_opened (λ (before : List Entry). AreTimesOf before old.times) (λ before entry none are. are ∙ sym (placed_none before entry none))
      reading.trace old.past.rows old.past.history (reading.heeded opens.round) are)
  are_next old new are (inr (inl ends)) =
      subst AreSoFar (sym ends.happens)
      (stays_ended (λ (before : List Entry). AreTimesOf before old.times) (λ before key machine are. are ∙ sym (placed_none before (End key machine) refl))
      reading old.past.rows old.past.history ends.end are)
  are_next old new are (inr (inr commits)) =
      let due : DueCommit = commits.due in
      let timed : Timed = record { place = length old.past.history; scheduler = due.by; sync = due.attempt.sync; time = due.attempt.due } in
      subst AreSoFar (sym commits.happens)
      (map_push (λ (it : Timed). record { place = it.place; scheduler = it.scheduler }) old.times timed
      ∙ ap (λ (front : List CommitPlace). front ++ record { place = length old.past.history; scheduler = due.by } ∷ []) are
      ∙ sym (placed_push old.past.history due.by due.attempt.seen _ _))

  pub free_times : (history : List Entry) (times : List Timed) → FreeRun settings reading history times → AreTimesOf history times
  free_times history times free =
      subst (λ (h : List Entry). AreTimesOf h times) (sym free.is_history)
      (subst (AreTimesOf (after settings reading free.steps).past.history) (sym free.is_times)
      (holds_after settings reading AreSoFar refl are_next free.steps))
