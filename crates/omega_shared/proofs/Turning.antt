-- What a seat has seen after its turn at the lock.
use Rattle.std.proofs.Common.{◌≡◌, ◌≤◌, ℕ, false, List, [], ◌∷◌, ◌++◌, length, sym, ap, ap₂, subst, ◌∙◌, arith, inl, inr, ⊎_elim}
use Rattle.std.specs.Prelude.{Result, Ok, Err, OnOk, OnErr, IfOk, Some}
use Rattle.std.proofs.lemmas.List.{append-nil}
use Rattle.omega_lock.specs.Lists.{StartsWith}
use Rattle.omega_lock.specs.Seats.{AddsAtMostOne, IsSameSeat, OwnIsSeen as LockOwnIsSeen, SeatState}
use Rattle.omega_lock.proofs.Entries.{starts_length, starts_trans}
use Rattle.omega_model.specs.declared.claims.Reply.{Reply}
use Rattle.omega_model.specs.declared.claims.Txn.{Txn}
use Rattle.omega_model.specs.declared.entries.Entry.{Entry}
use Rattle.omega_shared.specs.Commits.{GoesOnWithout, commit_after, commits_since, committer_of}
use Rattle.omega_shared.specs.Passes.{IsPassSeat, pass_at}
use Rattle.omega_shared.specs.Turns.{Answers, Commits}
use Rattle.omega_shared.proofs.Owning.{entries_are_commits, goes_on_without}

-- a seat was handed the turn, with this history
pub record TakesTurn (old held : SeatState Entry) (history : List Entry) : Type 0 where
  pub same : IsSameSeat old held
  pub seen : held.seen ≡ history
  pub extends : StartsWith held.seen old.seen
  pub own : held.own ≡ old.own
  pub own_seen : LockOwnIsSeen committer_of held

-- it has given the turn back, with this history
pub record GivesBack (held new : SeatState Entry) (history : List Entry) : Type 0 where
  pub same : IsSameSeat held new
  pub free : new.holds ≡ false
  pub seen : new.seen ≡ history
  pub own_seen : LockOwnIsSeen committer_of new

module _ (old held new : SeatState Entry) (before after : List Entry) where
  -- what the seat sees in its turn that it hadn't seen is none of its own
  pub sees_others : IsPassSeat old → TakesTurn old held before → GoesOnWithout old.number old.seen before
  sees_others seat takes =
      let own : old.own ≡ commits_since old.first_length old.number held.seen =
      sym takes.own ∙ takes.own_seen ∙ entries_are_commits held.first_length held.number held.seen
      ∙ ap₂ (λ (first n : ℕ). commits_since first n held.seen) takes.same.first_length takes.same.number in
      subst (GoesOnWithout old.number old.seen) takes.seen
      (goes_on_without old.first_length old.number old.seen held.seen old.own seat.first takes.extends seat.own own)

  -- what the seat has seen goes on from what it had seen, where the history only grew
  pub extends_seen : TakesTurn old held before → GivesBack held new after → StartsWith after before → StartsWith new.seen old.seen
  extends_seen takes gives grows =
      let all : StartsWith before old.seen = subst (λ h. StartsWith h old.seen) takes.seen takes.extends in
      subst (λ h. StartsWith h old.seen) (sym gives.seen) (starts_trans after before old.seen grows all)

  -- and the seat is that of a pass again
  pub is_pass_seat : IsPassSeat old → TakesTurn old held before → GivesBack held new after → StartsWith after before → IsPassSeat new
  is_pass_seat seat takes gives grows =
      let longer : length old.seen ≤ length new.seen = starts_length new.seen old.seen (extends_seen takes gives grows) in
      let first : new.first_length ≡ old.first_length = gives.same.first_length ∙ takes.same.first_length in
      let began = seat.first in record {
        free = gives.free;
        own = gives.own_seen ∙ entries_are_commits new.first_length new.number new.seen;
        first = omega (arith, longer, first, began);
      }

  -- where the history stayed, all that is new is none of its own
  pub sees_others_after : {V F : Type 0} (result : Result V F) → OnErr result (after ≡ before) → IsPassSeat old → TakesTurn old held before → GivesBack held new after
      → OnErr result (GoesOnWithout old.number old.seen new.seen)
  sees_others_after (Ok value) stays seat takes gives = tt
  sees_others_after (Err refused) stays seat takes gives =
      subst (GoesOnWithout old.number old.seen) (sym (gives.seen ∙ stays)) (sees_others seat takes)

  -- one commit more, which is answered on what was there before it
  pub commits_after : {F : Type 0} (n seen : ℕ) (txn : Txn) (result : Result Reply F) → n ≡ old.number
      → OnOk result (after ≡ before ++ commit_after before n seen txn ∷ []) → IfOk result (Answers before seen txn)
      → IsPassSeat old → TakesTurn old held before → GivesBack held new after
      → ((entry : Entry) → after ≡ held.seen ++ entry ∷ [] → new.own ≡ held.own ++ entry ∷ [])
      → IfOk result (Commits (pass_at old) (pass_at new) seen txn)
  commits_after n seen txn (Err refused) number grown answers seat takes gives more = tt
  commits_after n seen txn (Ok reply) number grown answers seat takes gives more =
      let entry : Entry = commit_after before old.number seen txn in
      let grows : after ≡ before ++ entry ∷ [] = grown ∙ ap (λ (by : ℕ). before ++ commit_after before by seen txn ∷ []) number in
      let gains : new.own ≡ held.own ++ entry ∷ [] = more entry (grows ∙ ap (λ (h : List Entry). h ++ entry ∷ []) (sym takes.seen)) in record {
        before = before;
        others = sees_others seat takes;
        commit_seen = gives.seen ∙ grows;
        own = gains ∙ ap (λ (own : List Entry). own ++ entry ∷ []) takes.own;
        answers = answers;
      }

-- a history that a commit was appended to, or that stayed, has at most one entry more
pub adds_at_most_one : {F : Type 0} (n by : ℕ) (seen : ℕ) (before after : List Entry) (txn : Txn) (result : Result Reply F) → by ≡ n
    → OnOk result (after ≡ before ++ commit_after before by seen txn ∷ []) → OnErr result (after ≡ before)
    → AddsAtMostOne committer_of n before after
adds_at_most_one n by seen before after txn (Ok reply) same grown stays = inr (commit_after before by seen txn, grown, ap Some same)
adds_at_most_one n by seen before after txn (Err refused) same grown stays = inl stays

-- a list with at most one entry more goes on from what it was
pub adds_goes_on : (n : ℕ) (before after : List Entry) → AddsAtMostOne committer_of n before after → StartsWith after before
adds_goes_on n before after adds =
    ⊎_elim (λ (same : after ≡ before). ([], same ∙ sym (append-nil before)))
    (λ (more : (entry : Entry) × (after ≡ before ++ entry ∷ []) × (committer_of entry ≡ Some n)). (more.0 ∷ [], more.1)) adds
