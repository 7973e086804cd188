-- The JSON that is written of a text, byte by byte, is that of its words.
use Rattle.std.proofs.Common.{◌≡◌, ℕ, ◌≤◌, ◌==◌, true, false, List, [], ◌∷◌, ◌++◌, map, refl, sym, ap, ◌∙◌, append_assoc, arith}
use Rattle.std.specs.Prelude.{fold}
use Rattle.std.specs.List.{flat_map, join_with_byte, list_all}
use Rattle.std.proofs.lemmas.Bool.{and_parts}
use Rattle.std.proofs.lemmas.Bool.Decides.{nat_tests}
use Rattle.std.proofs.lemmas.List.{append-nil}
use Rattle.omega_report.specs.JsonOfText.{are_words, is_word_byte, json_of_words, text_json, text_of_words, words_json}
use Rattle.omega_report.specs.Writing.{WritingState, after_byte, ending, lead}
use Rattle.omega_report.specs.declared.json_of_text.Position.{Position}
use Rattle.omega_report.specs.declared.json_of_text.Position.TheVariants.{Beginning, NewLine, SameLine}
use Rattle.omega_report.proofs.Joined.{join_items}

-- so far this JSON is written, and these bytes of a word are read
abbrev at : List ℕ → List ℕ → Position → WritingState
at json word position = record { json = json; word = word; position = position }

-- a byte of a word ends nothing
above : (byte : ℕ) → is_word_byte byte ≡ true → 33 ≤ byte
above byte inner = grind (arith, nat_tests)

no_space : (byte : ℕ) → is_word_byte byte ≡ true → (byte == 32) ≡ false
no_space byte inner = let high = above byte inner in grind (arith, nat_tests)

no_feed : (byte : ℕ) → is_word_byte byte ≡ true → (byte == 10) ≡ false
no_feed byte inner = let high = above byte inner in grind (arith, nat_tests)

-- the bytes of a word are kept
keep_byte : (json before : List ℕ) (byte : ℕ) (position : Position) → is_word_byte byte ≡ true
    → after_byte (at json before position) byte ≡ at json (before ++ byte ∷ []) position
keep_byte json before byte position inner = rw (no_space byte inner, no_feed byte inner) refl

keep_bytes : (json before bytes more : List ℕ) (position : Position) → list_all is_word_byte bytes ≡ true
    → fold after_byte (at json before position) (bytes ++ more) ≡ fold after_byte (at json (before ++ bytes) position) more
keep_bytes json before [] more position inner = ap (λ (b : List ℕ). fold after_byte (at json b position) more) (sym (append-nil before))
keep_bytes json before (byte ∷ bytes) more position inner =
    let parts = and_parts (is_word_byte byte) (list_all is_word_byte bytes) inner in
    ap (λ (w : WritingState). fold after_byte w (bytes ++ more)) (keep_byte json before byte position parts.0)
    ∙ keep_bytes json (before ++ byte ∷ []) bytes more position parts.1
    ∙ ap (λ (b : List ℕ). fold after_byte (at json b position) more) (append_assoc before (byte ∷ []) bytes)

-- the JSON of a line that follows some other JSON
abbrev line_behind : List ℕ → Position → List (List ℕ) → List ℕ
line_behind json position words = (json ++ lead position) ++ (join_with_byte 44 (map text_json words) ++ 93 ∷ [])

write_line : (json : List ℕ) (position : Position) (words : List (List ℕ)) (more : List ℕ)
    → list_all (list_all is_word_byte) words ≡ true
    → fold after_byte (at json [] position) (join_with_byte 32 words ++ 10 ∷ more)
    ≡ fold after_byte (at (line_behind json position words) [] NewLine) more
write_line json position [] more inner =
    ap (λ (b : List ℕ). fold after_byte (at (b ++ 93 ∷ []) [] NewLine) more) (append-nil (json ++ lead position))
write_line json position (word ∷ []) more inner =
    let parts = and_parts (list_all is_word_byte word) _ inner in
    keep_bytes json [] word (10 ∷ more) position parts.0
    ∙ ap (λ (b : List ℕ). fold after_byte (at b [] NewLine) more) (append_assoc (json ++ lead position) (text_json word) (93 ∷ []))
write_line json position (word ∷ next ∷ words) more inner =
    let parts = and_parts (list_all is_word_byte word) (list_all (list_all is_word_byte) (next ∷ words)) inner in
    ap (fold after_byte (at json [] position)) (append_assoc word (32 ∷ join_with_byte 32 (next ∷ words)) (10 ∷ more))
    ∙ keep_bytes json [] word (32 ∷ join_with_byte 32 (next ∷ words) ++ 10 ∷ more) position parts.0
    ∙ write_line ((json ++ lead position) ++ text_json word) SameLine (next ∷ words) more parts.1
    ∙ ap (λ (b : List ℕ). fold after_byte (at b [] NewLine) more)
    (regroup (json ++ lead position) (text_json word) (join_with_byte 44 (map text_json (next ∷ words)))) where
      regroup : (a b r : List ℕ) → ((a ++ b) ++ 44 ∷ []) ++ (r ++ 93 ∷ []) ≡ a ++ ((b ++ 44 ∷ r) ++ 93 ∷ [])
      regroup a b r = simp append_assoc

-- further lines, each after a comma
abbrev more_lines : List (List (List ℕ)) → List ℕ
more_lines lines = flat_map (λ words. 44 ∷ words_json words) lines

write_more : (json : List ℕ) (lines : List (List (List ℕ))) → are_words lines ≡ true
    → fold after_byte (at json [] NewLine) (text_of_words lines) ≡ at (json ++ more_lines lines) [] NewLine
write_more json [] inner = ap (λ (b : List ℕ). at b [] NewLine) (sym (append-nil json))
write_more json (words ∷ lines) inner =
    let parts = and_parts (list_all (list_all is_word_byte) words) (are_words lines) inner in
    let line : List ℕ = join_with_byte 44 (map text_json words) ++ 93 ∷ [] in
    ap (fold after_byte (at json [] NewLine)) (append_assoc (join_with_byte 32 words) (10 ∷ []) (text_of_words lines))
    ∙ write_line json NewLine words (text_of_words lines) parts.0
    ∙ ap (λ (b : List ℕ). fold after_byte (at b [] NewLine) (text_of_words lines)) (append_assoc json (44 ∷ 91 ∷ []) line)
    ∙ write_more (json ++ 44 ∷ 91 ∷ line) lines parts.1
    ∙ ap (λ (b : List ℕ). at b [] NewLine) (append_assoc json (44 ∷ 91 ∷ line) (more_lines lines))

-- the JSON with its end, after a whole text
abbrev pub finished : WritingState → List ℕ
finished writing = writing.json ++ ending writing.position

pub written : (lines : List (List (List ℕ))) → are_words lines ≡ true
    → finished (fold after_byte (at [] [] Beginning) (text_of_words lines)) ≡ json_of_words lines
written [] inner = refl
written (words ∷ lines) inner =
    let parts = and_parts (list_all (list_all is_word_byte) words) (are_words lines) inner in
    ap finished
    (ap (fold after_byte (at [] [] Beginning)) (append_assoc (join_with_byte 32 words) (10 ∷ []) (text_of_words lines))
    ∙ write_line [] Beginning words (text_of_words lines) parts.0
    ∙ write_more (91 ∷ words_json words) lines parts.1)
    ∙ rw (join_items words_json 44 words lines) (regroup (words_json words) (more_lines lines)) where
      regroup : (a b : List ℕ) → ((91 ∷ a) ++ b) ++ 93 ∷ 10 ∷ [] ≡ (91 ∷ (a ++ b) ++ 93 ∷ []) ++ 10 ∷ []
      regroup a b = ap (λ (x : List ℕ). 91 ∷ x) (sym (append_assoc (a ++ b) (93 ∷ []) (10 ∷ [])))
