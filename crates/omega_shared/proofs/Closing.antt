-- What is known of all passes once the lock is closed with their seats.
use Rattle.std.proofs.Common.{◌≡◌, ℕ, ◌<◌, true, List, length, drop, get_or, map, refl, sym, ap, subst, ◌∙◌, arith, eq-eqb}
use Rattle.std.specs.Prelude.{All, Any, Some}
use Rattle.std.proofs.Math.ListN.{get_or-map}
use Rattle.std.proofs.lemmas.List.{length-map}
use Rattle.std.proofs.lemmas.List.Elements.{All-map, All-same}
use Rattle.omega_lock.specs.Lists.{StartsWith, entries_since, is_by}
use Rattle.omega_lock.specs.Seats.{SeatState}
use Rattle.omega_model.specs.Work.{is_commit_of}
use Rattle.omega_model.specs.declared.entries.Entry.{Entry}
use Rattle.omega_shared.specs.Commits.{GoesOnWithout, commits_since, committer_of}
use Rattle.omega_shared.specs.Passes.{IsPassSeat, PassState, pass_at}
use Rattle.omega_shared.proofs.Owning.{by_committer, entries_are_commits, goes_on_without}

module _ (seats : List (SeatState Entry)) (passes : List PassState) (same : map pass_at seats ≡ passes) where
  -- there are as many seats as passes
  pub as_many : length seats ≡ length passes
  as_many = sym (length-map seats pass_at) ∙ ap length same

  -- what holds of each pass holds of the pass at each seat
  pub of_seats : (P : PassState → Type 0) → All P passes → All (λ seat. P (pass_at seat)) seats
  of_seats P all = λ k seat within.
      let there : k < length passes = omega (arith, within, as_many) in
      subst P (ap (λ ps. get_or ps k (pass_at seat)) (sym same) ∙ get_or-map pass_at seats k seat) (all k (pass_at seat) there)

  -- and the other way round
  pub of_passes : (P : PassState → Type 0) → All (λ seat. P (pass_at seat)) seats → All P passes
  of_passes P all = All-same P passes (map pass_at seats) (sym same) (All-map P pass_at seats all)

  -- an entry with a seat's number is a commit of its pass
  commit_of_one : (entry : Entry) → Any (λ seat. committer_of entry ≡ Some seat.number) seats → Any (λ pass. is_commit_of pass.number entry ≡ true) passes
  commit_of_one entry (k, seat, within, at, by) = (
    k,
    pass_at seat,
    omega (arith, within, as_many),
    ap (λ ps. get_or ps k (pass_at seat)) (sym same) ∙ get_or-map pass_at seats k seat ∙ ap pass_at at,
    sym (by_committer seat.number entry) ∙ ap (is_by seat.number) by ∙ eq-eqb seat.number seat.number refl,
  )

  module _ (first : ℕ) (history : List Entry) where
    pub own_commits : All (λ seat. seat.own ≡ entries_since committer_of first seat.number history) seats
        → All (λ pass. pass.own ≡ commits_since first pass.number history) passes
    own_commits own =
        of_passes (λ pass. pass.own ≡ commits_since first pass.number history)
        (λ k seat within. own k seat within ∙ entries_are_commits first (get_or seats k seat).number history)

    pub commits_of_passes : All (λ entry. Any (λ seat. committer_of entry ≡ Some seat.number) seats) (drop first history)
        → All (λ entry. Any (λ pass. is_commit_of pass.number entry ≡ true) passes) (drop first history)
    commits_of_passes given = λ k entry within. commit_of_one (get_or (drop first history) k entry) (given k entry within)

    -- after what a pass has seen there is no commit of its number
    pub no_others : All IsPassSeat seats → All (λ seat. StartsWith history seat.seen) seats
        → All (λ seat. seat.own ≡ entries_since committer_of first seat.number history) seats
        → All (λ seat. seat.first_length ≡ first) seats
        → All (λ pass. GoesOnWithout pass.number pass.seen history) passes
    no_others kept seen own began =
        of_passes (λ pass. GoesOnWithout pass.number pass.seen history) (λ k other within.
        let seat : SeatState Entry = get_or seats k other in
        let is : IsPassSeat seat = kept k other within in
        goes_on_without seat.first_length seat.number seat.seen history seat.own is.first (seen k other within) is.own
        (own k other within ∙ entries_are_commits first seat.number history ∙ ap (λ n. commits_since n seat.number history) (sym (began k other within))))
