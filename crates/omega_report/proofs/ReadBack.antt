-- The lines that are read in the bytes of lines are these lines.
use Rattle.std.proofs.Common.{◌≡◌, ℕ, List, [], ◌∷◌, ◌++◌, map, refl, sym, ap, ◌∙◌, append_assoc}
use Rattle.std.specs.Prelude.{fold}
use Rattle.std.specs.List.{join_with_byte}
use Rattle.std.proofs.lemmas.List.{append-nil}
use Rattle.omega_model.specs.Report.{Line, Word, Name, Number, line_text, word_text}
use Rattle.omega_model.specs.ReportForms.{line_json, word_json}
use Rattle.omega_report.specs.Readings.{Reading, read_byte, whole_lines, words_read}
use Rattle.omega_report.proofs.Spelled.{AreSpelled, AreWords, IsSpelled, Spells}

-- these lines, words and bytes are read so far
abbrev at : List Line → Line → List ℕ → Reading
at lines words bytes = record { lines = lines; words = words; bytes = bytes }

read_letter : (lines : List Line) (words : Line) (bytes : List ℕ) (byte : ℕ) → IsSpelled byte
    → read_byte (at lines words bytes) byte ≡ at lines words (bytes ++ byte ∷ [])
read_letter lines words bytes byte s = rw (s.mark, s.gap, s.ending) refl

read_letters : (lines : List Line) (words : Line) (before bytes more : List ℕ) → AreSpelled bytes
    → fold read_byte (at lines words before) (bytes ++ more) ≡ fold read_byte (at lines words (before ++ bytes)) more
read_letters lines words before [] more s = ap (λ (b : List ℕ). fold read_byte (at lines words b) more) (sym (append-nil before))
read_letters lines words before (byte ∷ bytes) more s =
    ap (λ (r : Reading). fold read_byte r (bytes ++ more)) (read_letter lines words before byte s.0)
    ∙ read_letters lines words (before ++ byte ∷ []) bytes more s.1
    ∙ ap (λ (b : List ℕ). fold read_byte (at lines words b) more) (append_assoc before (byte ∷ []) bytes)

-- a form of words that leaves their bytes under way
abbrev Leaves : (Word → List ℕ) → Word → Type 0
Leaves form word = (lines : List Line) (words : Line) (more : List ℕ)
    → fold read_byte (at lines words []) (form word ++ more) ≡ fold read_byte (at lines words (word_text word)) more

leaves_text : (word : Word) → Spells (word_text word) word → Leaves word_text word
leaves_text word s lines words more = read_letters lines words [] (word_text word) more s.spelled

leaves_json : (word : Word) → Spells (word_text word) word → Leaves word_json word
leaves_json (Name name) s lines words more =
    ap (λ (b : List ℕ). fold read_byte (at lines words []) b) (append_assoc name (34 ∷ []) more)
    ∙ read_letters lines words [] name (34 ∷ more) s.spelled
leaves_json (Number number) s lines words more = read_letters lines words [] (word_text (Number number)) more s.spelled

-- what is read of a line, word by word
module _ (form : Word → List ℕ) (leaves : (word : Word) → Spells (word_text word) word → Leaves form word)
    (gap stop : ℕ)
    (gaps : (lines : List Line) (words : Line) (bytes : List ℕ) → read_byte (at lines words bytes) gap ≡ at lines (words_read words bytes) [])
    (stops : (lines : List Line) (words : Line) (bytes : List ℕ) → read_byte (at lines words bytes) stop ≡ whole_lines (lines ++ words_read words bytes ∷ []))
  where
    read_words : (lines : List Line) (words : Line) (word : Word) (line : Line) (more : List ℕ) → AreWords (word ∷ line)
        → fold read_byte (at lines words []) (join_with_byte gap (map form (word ∷ line)) ++ stop ∷ more)
        ≡ fold read_byte (whole_lines (lines ++ (words ++ word ∷ line) ∷ [])) more
    read_words lines words word [] more s =
        leaves word s.0 lines words (stop ∷ more)
        ∙ ap (λ (r : Reading). fold read_byte r more) (stops lines words (word_text word) ∙ ap (λ (ws : Line). whole_lines (lines ++ ws ∷ [])) (s.0.read words))
    read_words lines words word (next ∷ line) more s =
        ap (λ (b : List ℕ). fold read_byte (at lines words []) b) (append_assoc (form word) (gap ∷ join_with_byte gap (map form (next ∷ line))) (stop ∷ more))
        ∙ leaves word s.0 lines words (gap ∷ join_with_byte gap (map form (next ∷ line)) ++ stop ∷ more)
        ∙ ap (λ (r : Reading). fold read_byte r (join_with_byte gap (map form (next ∷ line)) ++ stop ∷ more))
        (gaps lines words (word_text word) ∙ ap (λ (ws : Line). at lines ws []) (s.0.read words))
        ∙ read_words lines (words ++ word ∷ []) next line more s.1
        ∙ ap (λ (ws : Line). fold read_byte (whole_lines (lines ++ ws ∷ [])) more) (append_assoc words (word ∷ []) (next ∷ line))

pub read_text : (lines : List Line) (word : Word) (line : Line) → AreWords (word ∷ line)
    → fold read_byte (whole_lines lines) (line_text (word ∷ line)) ≡ whole_lines (lines ++ (word ∷ line) ∷ [])
read_text lines word line s =
    read_words word_text leaves_text 32 10 (λ ls ws b. refl) (λ ls ws b. refl) lines [] word line [] s

pub read_json : (lines : List Line) (word : Word) (line : Line) → AreWords (word ∷ line)
    → fold read_byte (whole_lines lines) (line_json (word ∷ line)) ≡ whole_lines (lines ++ (word ∷ line) ∷ [])
read_json lines word line s =
    read_words word_json leaves_json 44 93 (λ ls ws b. refl) (λ ls ws b. refl) lines [] word line [] s
