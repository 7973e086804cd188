-- Machines that meet the constraints of what is claimed on them.
use Rattle.std.specs.Prelude.{◌≡◌, ℕ, List, Some, IsSomeAnd, IsTrue, slice_get}
use Rattle.omega_model.specs.Cell.{machine_at}
use Rattle.omega_model.specs.Plan.{claim_of}
use Rattle.omega_model.specs.Planning.{suits}
use Rattle.omega_model.specs.declared.cells.Machine.{Machine}
use Rattle.omega_model.specs.declared.claims.Claim.{Claim}
use Rattle.omega_model.specs.declared.wishes.Wish.{Wish}

-- a claim is for one of these wishes, and its machine, as it is in this list, meets the wish's constraints
pub record SuitsItsWish (machines : List Machine) (wishes : List Wish) (claim : Claim) : Type 0 where
  pub wish : Wish
  pub number : ℕ
  pub wished : slice_get wishes number ≡ Some wish
  pub is_for : claim ≡ claim_of wish claim.victims claim.machine
  pub suited : IsSomeAnd (machine_at machines claim.machine) (λ machine. IsTrue (suits wish machine.attrs))
