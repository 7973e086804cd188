-- Worked answers: whose turn it is, what it has seen, and what is no whole gang.
use Rattle.std.proofs.Common.{◌≡◌, ◌≢◌, ℕ, false, List, [], ◌∷◌, refl, inl, inr, arith}
use Rattle.std.specs.Prelude.{IsFalse}
use Rattle.std.proofs.lemmas.List.Elements.{All-from_recursion, recursion_from_All}
use Rattle.omega_model.specs.Keys.{is_among}
use Rattle.omega_model.specs.Turns.{StandsBefore, round_commits}
use Rattle.omega_model.specs.declared.cells.Need.{Need}
use Rattle.omega_model.specs.declared.cells.Spec.{Spec}
use Rattle.omega_model.specs.declared.cells.TaskKey.{TaskKey}
use Rattle.omega_model.specs.declared.claims.Claim.{Claim}
use Rattle.omega_model.specs.declared.claims.Mode.TheVariants.{Gang, Incremental}
use Rattle.omega_model.specs.declared.claims.Rule.TheVariants.{Fine}
use Rattle.omega_model.specs.declared.claims.Txn.{Txn}
use Rattle.omega_model.specs.declared.entries.Entry.{Entry}
use Rattle.omega_model.specs.declared.entries.Entry.TheVariants.{Round, MachineAdd, Commit}
use Rattle.omega_model.specs.declared.wishes.Request.{Request}
use Rattle.omega_model.specs.declared.wishes.Wish.{Wish}
use Rattle.omega_laws.specs.WholeCommits.{ClaimsAllOrNothing, SparesItsJob}
use Rattle.omega_laws.specs.TurnOrder.{GoesEarlier, LostItsTurn, sees_in_turn, turn_of}

unfoldable amount : ℕ → Need
amount n = record { cpu = n; mem = n; disk = 0 }

-- an empty commit of this scheduler
unfoldable nothing_by : ℕ → ℕ → Entry
nothing_by scheduler seen = Commit scheduler seen (record { job = 1; rule = Fine; mode = Incremental; claims = [] }) []

-- schedulers 0, 1 and 2 have committed in the first turn of the last round, and 1 in the second
unfoldable turns : List Entry
turns =
    Round 0 ∷ nothing_by 1 1
    ∷ Round 4 ∷ MachineAdd 1 (amount 10) ∷ nothing_by 0 4 ∷ nothing_by 1 4 ∷ nothing_by 2 4 ∷ nothing_by 1 7 ∷ []

-- the commit of the round before isn't counted
second_turn : turn_of turns 0 ≡ 1
unfolding amount nothing_by turns
second_turn = refl

third_turn : turn_of turns 1 ≡ 2
unfolding amount nothing_by turns
third_turn = refl

-- scheduler 2 commits next in the second turn, which began with the commit of scheduler 1
sees_the_first_turn : sees_in_turn turns 2 ≡ 7
unfolding amount nothing_by turns
sees_the_first_turn = refl

-- the third turn begins now
sees_all : sees_in_turn turns 1 ≡ 8
unfolding amount nothing_by turns
sees_all = refl

-- a lesser turn goes first, whatever the numbers
by_turn : GoesEarlier turns 2 1
unfolding amount nothing_by turns
by_turn = inl (omega arith)

-- and of equal turns the lesser number
by_number : GoesEarlier turns 0 2
unfolding amount nothing_by turns
by_number = inr (refl, omega arith)

-- scheduler 0 has lost its second turn to scheduler 1
lost : LostItsTurn turns 0
unfolding amount nothing_by turns
lost all = by_last (recursion_from_All (StandsBefore 1 0) (round_commits turns) all).1.1.1.0 where
  by_last : StandsBefore 1 0 (record { place = 7; scheduler = 1; turn = 1 }) → ⊥
  by_last (inl earlier) = absurd (omega arith)
  by_last (inr same) = let below = same.1 in absurd (omega arith)

unfoldable key : ℕ → ℕ → TaskKey
key job index = record { job = job; index = index }

unfoldable little : Spec
little = record { need = amount 1; prec = 5; differ = false }

-- the claim of a task of job 7 on machine 1, with these victims
unfoldable claim_of : ℕ → List TaskKey → Claim
claim_of index victims = record { key = key 7 index; machine = 1; spec = little; victims = victims }

unfoldable gang : List Claim → Txn
gang claims = record { job = 7; rule = Fine; mode = Gang; claims = claims }

unfoldable wish : ℕ → Wish
wish index = record { key = key 7 index; spec = little; constraints = [] }

-- two tasks of job 7
unfoldable two : Request
two = record { job = 7; wishes = wish 0 ∷ wish 1 ∷ [] }

-- a gang that claims the second of them alone isn't whole
half : ClaimsAllOrNothing two (gang (claim_of 1 [] ∷ [])) → ⊥
unfolding amount key little claim_of gang wish two
half (inl all) = absurd (cc)
half (inr none) = absurd (cc)

-- and one that evicts the first for the second doesn't spare its job
evicts_its_own : SparesItsJob (gang (claim_of 0 [] ∷ claim_of 1 (key 7 0 ∷ []) ∷ [])) (claim_of 1 (key 7 0 ∷ [])) → ⊥
unfolding amount key little claim_of gang
evicts_its_own spares = spares.others 0 (key 7 0) (omega arith) refl

-- one that evicts a task of job 8 does
evicts_another : SparesItsJob (gang (claim_of 0 [] ∷ claim_of 1 (key 8 0 ∷ []) ∷ [])) (claim_of 1 (key 8 0 ∷ []))
unfolding amount key little claim_of gang
evicts_another = record {
  own = refl;
  others = All-from_recursion (λ (victim : TaskKey). victim.job ≢ 7) (key 8 0 ∷ []) ((λ same. absurd (omega (arith, same))), tt);
  unclaimed = All-from_recursion (λ (victim : TaskKey). IsFalse (is_among victim (key 7 0 ∷ key 7 1 ∷ []))) (key 8 0 ∷ []) (refl, tt);
}
