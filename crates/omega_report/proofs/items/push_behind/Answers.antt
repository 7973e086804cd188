use Rattle.std.proofs.Common.{◌≡◌, ℕ, List, [], ◌∷◌, ◌++◌, ◌==◌, length, map, sym, subst}
use Rattle.omega_report.specs.Pages.{added_bytes, open_form}
use Rattle.omega_report.specs.Spelling.{word_of}
use Rattle.omega_report.proofs.Growing.{form_added}
use Rattle.omega_report.proofs.items.push_behind.Goals as goal

pub returns : goal.returns
returns c lines were =
    let line = map word_of c.args.words.now in
    rw (c.in_ok-push_item.ensures.bytes, c.is_empty-is_first.ensures, c.as_slice.ensures.value)
    (subst (λ (bytes : List ℕ). bytes ++ added_bytes c.args.format (length bytes == 0) line ≡ open_form c.args.format (lines ++ line ∷ []))
    (sym were) (form_added c.args.format lines line))
