-- A line in a format, by its words.
use Rattle.std.proofs.Common.{◌≡◌, List, ℕ, [], ◌∷◌, ◌++◌, map, refl, ap, ◌∙◌, append_assoc}
use Rattle.std.specs.List.{join_with_byte}
use Rattle.omega_model.specs.Report.{Line, word_text}
use Rattle.omega_model.specs.declared.settings.Format.{Format}
use Rattle.omega_model.specs.declared.settings.Format.TheVariants.{Text, Json}
use Rattle.omega_report.specs.Forms.{closing, gap, line_form, opening, word_form}
use Rattle.omega_report.specs.JsonOfText.{text_json}

texts : (line : Line) → map (word_form Json) line ≡ map text_json (map word_text line)
texts [] = refl
texts (word ∷ line) = ap (λ (rest : List (List ℕ)). text_json (word_text word) ∷ rest) (texts line)

-- what begins it, its words with what parts them, and what ends it
form_is : (format : Format) (line : Line)
    → opening format ++ join_with_byte (gap format) (map (word_form format) line) ++ closing format ≡ line_form format line
form_is Text line = refl
form_is Json line = ap (λ (words : List (List ℕ)). 91 ∷ join_with_byte 44 words ++ 93 ∷ []) (texts line)

-- where these are written one behind the other
pub line_written : (format : Format) (line : Line) (before opened words after : List ℕ)
    → opened ≡ before ++ opening format → words ≡ opened ++ join_with_byte (gap format) (map (word_form format) line)
    → after ≡ words ++ closing format → after ≡ before ++ line_form format line
line_written format line before opened words after one two three =
    three ∙ ap (λ (front : List ℕ). front ++ closing format) (two ∙ ap (λ (front : List ℕ). front ++ join_with_byte (gap format) (map (word_form format) line)) one)
    ∙ regroup before (opening format) (join_with_byte (gap format) (map (word_form format) line)) (closing format)
    ∙ ap (λ (bytes : List ℕ). before ++ bytes) (form_is format line) where
      regroup : (a b c d : List ℕ) → ((a ++ b) ++ c) ++ d ≡ a ++ (b ++ c ++ d)
      regroup a b c d = simp append_assoc
