-- Lines that are ended.
use Rattle.std.proofs.Common.{◌≡◌, ℕ, ◌==◌, List, [], ◌∷◌, ◌++◌, length, map, refl, sym, ap, subst, ◌∙◌, append_assoc}
use Rattle.omega_model.specs.Report.{Line, word_text}
use Rattle.omega_model.specs.ReportForms.{array_json}
use Rattle.omega_model.specs.declared.settings.Format.TheVariants.{Json}
use Rattle.omega_report.specs.Forms.{line_form}
use Rattle.omega_report.specs.JsonOfText.{json_of_words, texts_of, words_json}
use Rattle.omega_report.specs.Pages.{end_of_array, more_items, open_json}
use Rattle.omega_report.proofs.Growing.{no_bytes}
use Rattle.omega_report.proofs.Joined.{join_items}

items : (lines : List Line) → map (line_form Json) lines ≡ map words_json (texts_of lines)
items [] = refl
items (line ∷ lines) = ap (λ (rest : List (List ℕ)). words_json (map word_text line) ∷ rest) (items lines)

array_closed : (line : Line) (lines : List Line)
    → (91 ∷ line_form Json line ++ more_items lines) ++ 93 ∷ 10 ∷ [] ≡ array_json (map (line_form Json) (line ∷ lines)) ++ 10 ∷ []
array_closed line lines =
    rw (join_items (line_form Json) 44 line lines) (ap (λ (b : List ℕ). 91 ∷ b) (sym (append_assoc (line_form Json line ++ more_items lines) (93 ∷ []) (10 ∷ []))))

closed : (lines : List Line) → open_json lines ++ end_of_array (length (open_json lines) == 0) ≡ json_of_words (texts_of lines)
closed [] = refl
closed (line ∷ lines) =
    rw (no_bytes (line_form Json line ++ more_items lines) 91)
    (array_closed line lines ∙ ap (λ (all : List (List ℕ)). array_json all ++ 10 ∷ []) (items (line ∷ lines)))

-- the bytes of lines whose array is closed
pub bytes_closed : (bytes : List ℕ) (lines : List Line) → bytes ≡ open_json lines
    → bytes ++ end_of_array (length bytes == 0) ≡ json_of_words (texts_of lines)
bytes_closed bytes lines same =
    subst (λ (b : List ℕ). b ++ end_of_array (length b == 0) ≡ json_of_words (texts_of lines)) (sym same) (closed lines)
