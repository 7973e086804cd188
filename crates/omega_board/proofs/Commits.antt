-- The placed claims of a commit, one after the other.
use Rattle.std.proofs.Common.{◌≡◌, ℕ, ◌≤◌, true, false, ◌&&◌, inl, inr, List, [], ◌∷◌, length, sum_by, IsTrue, refl, ap, ◌∙◌, subst, ◌==◌}
use Rattle.std.specs.List.{list_any, zip, fold}
use Rattle.std.proofs.lemmas.Bool.{both_ways, eqb-true, and_parts, or_cases}
use Rattle.omega_model.specs.Applying.{MayPlaceAll}
use Rattle.omega_model.specs.Cell.{Cell, machine_at}
use Rattle.omega_model.specs.Judge.{is_up}
use Rattle.omega_model.specs.Machines.{is_listed}
use Rattle.omega_model.specs.Reply.{tasks_after_claim, after_claim}
use Rattle.omega_model.specs.Touches.{is_placed, places_on}
use Rattle.omega_model.specs.declared.cells.Machine.{Machine}
use Rattle.omega_model.specs.declared.claims.Claim.{Claim}
use Rattle.omega_model.specs.declared.claims.Judgement.{Judgement}
use Rattle.omega_machines.specs.Table.{machines_of, seq_at}
use Rattle.omega_board.specs.Board.{BoardState, cell_of}
use Rattle.omega_board.specs.Undo.{UndoState, IsUndoOf}
use Rattle.omega_board.proofs.Parts.{not_refused}
use Rattle.omega_board.proofs.Placed.{placeable_fine, is_placed-Placed}
use Rattle.omega_model.proofs.Lists.{by_answer}

-- how many victims some claims have
abbrev pub victims_in : List Claim → ℕ
victims_in claims = sum_by (λ claim. length claim.victims) claims

-- cells with equal parts are equal
pub cell_is : (a b : Cell) → a.machines ≡ b.machines → a.tasks ≡ b.tasks → a ≡ b
cell_is a b machines tasks = λ i. record { machines = machines i; tasks = tasks i }

-- these claims are still to be placed, as was answered to them, of all claims and answers
pub record IsPlacing (start board : BoardState) (log : UndoState) (all : List (Claim × Judgement)) (left : List Claim) (reply : List Judgement) : Type 0 where
  pub places : MayPlaceAll (cell_of board) (zip left reply)
  pub tasks : fold tasks_after_claim board.tasks (zip left reply) ≡ fold tasks_after_claim start.tasks all
  pub machines : machines_of board.table ≡ machines_of start.table
  pub seqs : (id : ℕ) → seq_at board.table id ≡ seq_at start.table id
  pub undo : IsUndoOf board log
  pub claims : length left ≤ log.claims
  pub victims : victims_in left ≤ log.victims

-- a machine that is up is listed
pub up_listed : (machines : List Machine) (id : ℕ) → is_up (machine_at machines id) ≡ true → IsTrue (is_listed id machines)
up_listed [] id up = up
up_listed (m ∷ ms) id up = by_answer (m.id == id) (λ t. rw t refl) (λ f. rw f (up_listed ms id (rw f at up)))

-- the machine of a claim that is placed is listed
pub placed_listed : (cell : Cell) (decided : List (Claim × Judgement)) (id : ℕ) → MayPlaceAll cell decided → IsTrue (list_any (places_on id) decided) → IsTrue (is_listed id cell.machines)
placed_listed cell [] id places any = absurd (both_ways false refl any)
placed_listed cell ((claim, judgement) ∷ decided) id places any =
    elim (or_cases (is_placed judgement.verdict && claim.machine == id) (list_any (places_on id) decided) any) [
      | inl h ↦
          let parts = and_parts _ _ h in
          let up = not_refused (is_up (machine_at cell.machines claim.machine)) (placeable_fine cell claim (ap (λ (j : Judgement). j.verdict) (places.0 parts.0) ∙ is_placed-Placed judgement.verdict parts.0)).up in
          subst (λ n. IsTrue (is_listed n cell.machines)) (eqb-true _ _ parts.1) (up_listed cell.machines claim.machine up)
      | inr h ↦ placed_listed (after_claim cell (claim, judgement)) decided id places.1 h
    ]
