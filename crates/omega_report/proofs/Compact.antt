-- The compact text of lines as a JSON value.
use Rattle.std.proofs.Common.{◌≡◌, ℕ, ◌==◌, true, List, [], ◌∷◌, ◌++◌, map, refl, sym, ap, ap₂, ◌∙◌, append_assoc, arith, inl, inr}
use Rattle.std.specs.Prelude.{nat_le, not}
use Rattle.std.specs.List.{flat_map, list_all}
use Rattle.std.proofs.lemmas.Bool.{and_parts, or_cases, eqb-true, leb-true}
use Rattle.json.specs.Print.{escape, escape_byte}
use Rattle.json.proofs.Printed.Strings.{escape_byte_plain}
use Rattle.serde_json.specs.Written.{compact_text, items_text}
use Rattle.serde_json.specs.View.{items_of}
use Rattle.omega_model.specs.Report.{Line, Word, Name, Number}
use Rattle.omega_model.specs.ReportForms.{are_plain, is_plain, is_plain_byte, json_of, line_json, word_json}
use Rattle.omega_model.specs.Work.{is_empty}
use Rattle.omega_report.specs.Items.{line_data, report_data, word_data}
use Rattle.omega_report.proofs.Joined.{join_items}

-- ---- plain bytes have no escape

unescaped : (byte : ℕ) → is_plain_byte byte ≡ true → escape_byte byte ≡ byte ∷ []
unescaped byte plain = elim (or_cases (byte == 45) _ plain) [
  | inl dash ↦ let e = eqb-true byte 45 dash in escape_byte_plain byte (λ h. omega arith) (λ h. omega arith) (omega arith)
  | inr small ↦ let above = leb-true 97 byte (and_parts (nat_le 97 byte) _ small).0 in
      escape_byte_plain byte (λ h. omega arith) (λ h. omega arith) (omega arith)
]

name_unescaped : (name : List ℕ) → list_all is_plain_byte name ≡ true → escape name ≡ name
name_unescaped [] plain = refl
name_unescaped (byte ∷ name) plain =
    let parts = and_parts (is_plain_byte byte) (list_all is_plain_byte name) plain in
    ap₂ (λ (a b : List ℕ). a ++ b) (unescaped byte parts.0) (name_unescaped name parts.1)

-- ---- words and lines

word_compact : (word : Word) → is_plain word ≡ true → compact_text (word_data word) ≡ word_json word
word_compact (Name name) plain =
    ap (λ (b : List ℕ). 34 ∷ (b ++ 34 ∷ [])) (name_unescaped name (and_parts (not (is_empty name)) (list_all is_plain_byte name) plain).1)
word_compact (Number number) plain = refl

more_compact : (line : Line) → list_all is_plain line ≡ true
    → items_text true (items_of (map word_data line)) ≡ flat_map (λ (w : Word). 44 ∷ word_json w) line ++ 93 ∷ []
more_compact [] plain = refl
more_compact (word ∷ line) plain =
    let parts = and_parts (is_plain word) (list_all is_plain line) plain in
    ap₂ (λ (a b : List ℕ). 44 ∷ (a ++ b)) (word_compact word parts.0) (more_compact line parts.1)
    ∙ sym (append_assoc (44 ∷ word_json word) (flat_map (λ (w : Word). 44 ∷ word_json w) line) (93 ∷ []))

-- the compact text of a line is the array of its words
line_compact : (line : Line) → list_all is_plain line ≡ true → compact_text (line_data line) ≡ line_json line
line_compact [] plain = refl
line_compact (word ∷ line) plain =
    let parts = and_parts (is_plain word) (list_all is_plain line) plain in
    ap₂ (λ (a b : List ℕ). 91 ∷ (a ++ b)) (word_compact word parts.0) (more_compact line parts.1)
    ∙ ap (λ (b : List ℕ). 91 ∷ b) (sym (append_assoc (word_json word) (flat_map (λ (w : Word). 44 ∷ word_json w) line) (93 ∷ [])))
    ∙ ap (λ (b : List ℕ). 91 ∷ (b ++ 93 ∷ [])) (sym (join_items word_json 44 word line))

-- ---- all lines

more_lines_compact : (lines : List Line) → are_plain lines ≡ true
    → items_text true (items_of (map line_data lines)) ≡ flat_map (λ (l : Line). 44 ∷ line_json l) lines ++ 93 ∷ []
more_lines_compact [] plain = refl
more_lines_compact (line ∷ lines) plain =
    let parts = and_parts (list_all is_plain line) (are_plain lines) plain in
    ap₂ (λ (a b : List ℕ). 44 ∷ (a ++ b)) (line_compact line parts.0) (more_lines_compact lines parts.1)
    ∙ sym (append_assoc (44 ∷ line_json line) (flat_map (λ (l : Line). 44 ∷ line_json l) lines) (93 ∷ []))

-- the compact text of lines is the array of their arrays
pub lines_compact : (lines : List Line) → are_plain lines ≡ true → compact_text (report_data lines) ++ 10 ∷ [] ≡ json_of lines
lines_compact [] plain = refl
lines_compact (line ∷ lines) plain =
    let parts = and_parts (list_all is_plain line) (are_plain lines) plain in
    ap (λ (b : List ℕ). b ++ 10 ∷ [])
    (ap₂ (λ (a b : List ℕ). 91 ∷ (a ++ b)) (line_compact line parts.0) (more_lines_compact lines parts.1)
    ∙ ap (λ (b : List ℕ). 91 ∷ b) (sym (append_assoc (line_json line) (flat_map (λ (l : Line). 44 ∷ line_json l) lines) (93 ∷ [])))
    ∙ ap (λ (b : List ℕ). 91 ∷ (b ++ 93 ∷ [])) (sym (join_items line_json 44 line lines)))
