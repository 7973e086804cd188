-- What a copy knows of a history that goes on.
use Rattle.std.proofs.Common.{◌≡◌, ◌≤◌, ◌+◌, ℕ, List, length, map, take, sym, ap, ◌∙◌, arith, length-append}
use Rattle.std.specs.Prelude.{Result, Ok, Err, IfOk}
use Rattle.std.proofs.lemmas.List.{take-append-le}
use Rattle.omega_lock.specs.Lists.{StartsWith}
use Rattle.omega_model.specs.Cell.{Cell}
use Rattle.omega_model.specs.Copy.{StandsFor}
use Rattle.omega_model.specs.State.{state}
use Rattle.omega_model.specs.Touches.{seq, copied_seqs}
use Rattle.omega_model.specs.declared.claims.Claim.{Claim}
use Rattle.omega_model.specs.declared.entries.Entry.{Entry}

-- a copy that stands for a history stands for it when it has gone on
pub stands_later : (cell : Cell) (seqs : ℕ → ℕ) (seen : ℕ) (old new : List Entry) → StandsFor cell seqs seen old → StartsWith new old → StandsFor cell seqs seen new
stands_later cell seqs seen old new stands on =
    let within = stands.within in
    let first : take seen new ≡ take seen old = ap (take seen) on.1 ∙ take-append-le seen old on.0 within in
    let longer : length new ≡ length old + length on.0 = ap length on.1 ∙ length-append old on.0 in record {
      within = omega (arith, within, longer);
      machines = stands.machines ∙ ap (λ h. (state h).machines) (sym first);
      tasks = stands.tasks ∙ ap (λ h. (state h).tasks) (sym first);
      numbers = λ id. stands.numbers id ∙ ap (λ h. seq h id) (sym first);
    }

-- the sequence numbers in a copy are the same by a history that has gone on
pub seqs_later : {V F : Type 0} (seqs : Result V F) (items : V → List ℕ) (seen : ℕ) (old new : List Entry) (claims : List Claim)
    → seen ≤ length old → StartsWith new old → IfOk seqs (λ v. items v ≡ copied_seqs old seen claims) → IfOk seqs (λ v. items v ≡ copied_seqs new seen claims)
seqs_later (Ok v) items seen old new claims within on same =
    let first : take seen new ≡ take seen old = ap (take seen) on.1 ∙ take-append-le seen old on.0 within in
    same ∙ ap (λ h. map (λ (claim : Claim). seq h claim.machine) claims) (sym first)
seqs_later (Err refused) items seen old new claims within on same = tt
