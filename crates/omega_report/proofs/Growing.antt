-- A page with one more line.
use Rattle.std.proofs.Common.{◌≡◌, ℕ, ◌==◌, Bool, true, false, List, [], ◌∷◌, ◌++◌, length, refl, sym, ap, ◌∙◌, subst, append_assoc, arith}
use Rattle.std.specs.Prelude.{fold}
use Rattle.std.specs.List.{flat_map, list_all}
use Rattle.std.proofs.lemmas.Bool.{and_parts}
use Rattle.std.proofs.lemmas.Bool.Decides.{nat_tests}
use Rattle.std.proofs.lemmas.Grind.{flat_map-append}
use Rattle.std.proofs.lemmas.List.{append-nil}
use Rattle.std.proofs.lemmas.List.Folds.{list_all-append}
use Rattle.std.proofs.lemmas.List.Sums.{fold-append}
use Rattle.omega_model.specs.Report.{Line, Word, line_text}
use Rattle.omega_model.specs.ReportForms.{is_plain}
use Rattle.omega_model.specs.declared.settings.Format.{Format}
use Rattle.omega_model.specs.declared.settings.Format.TheVariants.{Text, Json}
use Rattle.omega_report.specs.Forms.{line_form}
use Rattle.omega_report.specs.Pages.{IsPage, added_bytes, more_items, open_form}
use Rattle.omega_report.specs.Readings.{Reading, lines_read, nothing_read, read_byte, whole_lines}
use Rattle.omega_report.specs.Spelling.{are_short, is_plain_line}
use Rattle.omega_report.proofs.ReadBack.{read_json, read_text}
use Rattle.omega_report.proofs.ShortWords.{item_same}
use Rattle.omega_report.proofs.Spelled.{line_words}

-- ---- what is read

read_item : (lines : List Line) (word : Word) (line : Line) → list_all is_plain (word ∷ line) ≡ true → are_short (word ∷ line) ≡ true
    → fold read_byte (whole_lines lines) (line_form Json (word ∷ line)) ≡ whole_lines (lines ++ (word ∷ line) ∷ [])
read_item lines word line plain short =
    ap (fold read_byte (whole_lines lines)) (item_same (word ∷ line) plain short)
    ∙ read_json lines word line (line_words (word ∷ line) plain short)

read_added : (format : Format) (is_first : Bool) (lines : List Line) (line : Line)
    → is_plain_line line ≡ true → are_short line ≡ true
    → fold read_byte (whole_lines lines) (added_bytes format is_first line) ≡ whole_lines (lines ++ line ∷ [])
read_added format is_first lines [] plain short = cc
read_added Text is_first lines (word ∷ line) plain short =
    read_text lines word line (line_words (word ∷ line) (and_parts _ (list_all is_plain (word ∷ line)) plain).1 short)
read_added Json true lines (word ∷ line) plain short = read_item lines word line (and_parts _ (list_all is_plain (word ∷ line)) plain).1 short
read_added Json false lines (word ∷ line) plain short = read_item lines word line (and_parts _ (list_all is_plain (word ∷ line)) plain).1 short

-- ---- what is written

one_more : (f : Line → List ℕ) (lines : List Line) (line : Line)
    → flat_map f lines ++ f line ≡ flat_map f (lines ++ line ∷ [])
one_more f lines line = sym (flat_map-append f lines (line ∷ []) ∙ ap (λ (b : List ℕ). flat_map f lines ++ b) (append-nil (f line)))

pub no_bytes : (bytes : List ℕ) (byte : ℕ) → (length (byte ∷ bytes) == 0) ≡ false
no_bytes bytes byte = grind (arith, nat_tests)

pub form_added : (format : Format) (lines : List Line) (line : Line)
    → open_form format lines ++ added_bytes format (length (open_form format lines) == 0) line ≡ open_form format (lines ++ line ∷ [])
form_added Text lines line = one_more line_text lines line
form_added Json [] line = sym (append-nil (91 ∷ line_form Json line))
form_added Json (first ∷ lines) line =
    rw (no_bytes (line_form Json first ++ more_items lines) 91)
    (append_assoc (91 ∷ line_form Json first) (more_items lines) (44 ∷ line_form Json line)
    ∙ ap (λ (b : List ℕ). (91 ∷ line_form Json first) ++ b) (one_more (λ l. 44 ∷ line_form Json l) lines line))

-- ---- both

-- a page with a line more, and the lines that are read in it
pub record Grows (format : Format) (bytes : List ℕ) (line : Line) (grown : List ℕ) : Type 0 where
  pub lines : lines_read grown ≡ lines_read bytes ++ line ∷ []
  pub page : IsPage format grown

read_grown : (format : Format) (bytes : List ℕ) (is_first : Bool) (line : Line) → IsPage format bytes
    → is_plain_line line ≡ true → are_short line ≡ true
    → fold read_byte nothing_read (bytes ++ added_bytes format is_first line) ≡ whole_lines (lines_read bytes ++ line ∷ [])
read_grown format bytes is_first line page plain short =
    fold-append read_byte nothing_read bytes (added_bytes format is_first line)
    ∙ ap (λ (r : Reading). fold read_byte r (added_bytes format is_first line)) page.ended
    ∙ read_added format is_first (lines_read bytes) line plain short

lines_grown : (format : Format) (bytes : List ℕ) (is_first : Bool) (line : Line) → IsPage format bytes
    → is_plain_line line ≡ true → are_short line ≡ true
    → lines_read (bytes ++ added_bytes format is_first line) ≡ lines_read bytes ++ line ∷ []
unfolding lines_read
lines_grown format bytes is_first line page plain short =
    ap (λ (r : Reading). r.lines) (read_grown format bytes is_first line page plain short)

all_push : (p : Line → Bool) (lines : List Line) (line : Line) → list_all p lines ≡ true → p line ≡ true → list_all p (lines ++ line ∷ []) ≡ true
all_push p lines line all one = rw (list_all-append p lines (line ∷ []), all, one) refl

pub page_grows : (format : Format) (bytes : List ℕ) (line : Line) → IsPage format bytes
    → is_plain_line line ≡ true → are_short line ≡ true
    → Grows format bytes line (bytes ++ added_bytes format (length bytes == 0) line)
page_grows format bytes line page plain short =
    let is_first : Bool = (length bytes == 0) in
    let lines = lines_grown format bytes is_first line page plain short in
    let form : (bytes ++ added_bytes format is_first line ≡ open_form format (lines_read bytes ++ line ∷ [])) =
    subst (λ (b : List ℕ). b ++ added_bytes format (length b == 0) line ≡ open_form format (lines_read bytes ++ line ∷ []))
    (sym page.form) (form_added format (lines_read bytes) line) in
    record {
      lines = lines;
      page = record {
        form = form ∙ ap (open_form format) (sym lines);
        ended = read_grown format bytes is_first line page plain short ∙ ap whole_lines (sym lines);
        plain = ap (list_all (λ words. list_all is_plain words)) lines ∙ all_push (λ words. list_all is_plain words) (lines_read bytes) line page.plain (and_parts _ (list_all is_plain line) plain).1;
        short = ap (list_all are_short) lines ∙ all_push are_short (lines_read bytes) line page.short short;
      };
    }
