-- Room for the names of the tasks that claims evict.
use Rattle.std.specs.Prelude.{◌≡◌, ℕ, ◌≤◌, List, [], ◌∷◌, length, map}
use Rattle.omega_model.specs.declared.claims.Claim.{Claim}
use Rattle.omega_model.specs.declared.claims.Judgement.{Judgement}

-- how many victims each claim has
abbrev pub victim_counts : List Claim → List ℕ
victim_counts claims = map (λ claim. length claim.victims) claims

-- each claim is answered, and no more is evicted for it than it has victims
abbrev pub EvictWithin : List Claim → List Judgement → Type 0
EvictWithin [] [] = Unit {0}
EvictWithin (claim ∷ claims) (judgement ∷ reply) = (length judgement.evicted ≤ length claim.victims) × EvictWithin claims reply
EvictWithin _ _ = ⊥

-- a list in which there is no answer yet, with room for one where there is room for names
pub record IsAnswerRoom {X : Type 0} (answers : List X) (capacity : ℕ) (rooms : List ℕ) : Type 0 where
  pub none : answers ≡ []
  pub each : length rooms ≤ capacity
