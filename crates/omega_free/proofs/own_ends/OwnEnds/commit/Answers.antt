use Rattle.std.proofs.Common.{◌≡◌, ◌++◌, ◌∷◌, ◌-◌, ℕ, [], List, Some, ap, arith, length, length-append, refl, subst, sym, ◌∙◌}
use Rattle.std.specs.Prelude.{slice_get}
use Rattle.std.proofs.lemmas.Option.{same_Some}
use Rattle.omega_laws.proofs.Places.{get_seam}
use Rattle.omega_model.specs.declared.entries.Entry.{Entry}
use Rattle.omega_model.specs.declared.entries.Entry.TheVariants.{Commit}
use Rattle.omega_pieces.specs.Due.{KeepsEnds}
use Rattle.omega_pieces.specs.Kept.{KeepsPieces}
use Rattle.omega_pieces.proofs.PiecesOn.{keeps_entry}
use Rattle.omega_free.proofs.own_ends.OwnEnds.commit.Goals as goal

pub returns-in_ok-commit : goal.returns-in_ok-commit
returns-in_ok-commit c trace rows history times by seen txn reply timed keeps is place time =
    let entry : Entry = Commit by seen txn reply in
    let whole : c.history.result.now ≡ history ++ entry ∷ [] = c.history.ensures.history ∙ is in
    let long = length-append history (entry ∷ []) in
    let at : length (history ++ entry ∷ []) - 1 ≡ length history = omega (arith, long) in
    let last : slice_get c.history.result.now (length c.history.result.now - 1) ≡ Some entry =
    ap (λ (all : List Entry). slice_get all (length all - 1)) whole ∙ ap (λ (n : ℕ). slice_get (history ++ entry ∷ []) n) at ∙ get_seam history entry [] in
    let found : c.in-Some-Commit.field-0.now ≡ entry = same_Some c.in-Some-Commit.field-0.now entry (c.in-Some-Commit.ensures.value ∙ last) in
    let same : Commit c.in-Some-Commit.field-0-0 c.in-Some-Commit.field-0-1 c.in-Some-Commit.txn c.as_slice.result.now ≡ entry =
    ap (Commit c.in-Some-Commit.field-0-0 c.in-Some-Commit.field-0-1 c.in-Some-Commit.txn) c.as_slice.ensures ∙ sym c.in-Some-Commit.field-0-is ∙ found in
    record {
      low = keeps.low;
      pieces = subst (λ (all : List Entry). KeepsPieces trace rows all c.args.self.now.pieces) (sym is)
          (keeps_entry trace rows history c.args.self.now.pieces entry (λ key low. refl) keeps.pieces);
      due = subst (λ (all : List Entry). KeepsEnds trace all (times ++ timed ∷ []) c.commit.new.self) (ap (λ (it : Entry). history ++ it ∷ []) same ∙ sym is)
          (c.in_ok-commit.ensures trace rows history times c.in-Some-Commit.field-0-0 c.in-Some-Commit.field-0-1 timed keeps.pieces keeps.due place time);
    }
