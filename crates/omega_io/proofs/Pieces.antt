-- Bytes that are handed over or written in parts.
use Rattle.std.proofs.Common.{◌≡◌, ◌∙◌, ℕ, ◌+◌, ◌≤◌, List, ◌++◌, length, take, drop, Option, Some, None, sym, ap, arith, append_assoc}
use Rattle.std.specs.Prelude.{option_map}
use Rattle.std.proofs.lemmas.List.{take-append-drop, take-take, drop-take, drop-drop, take_at, length-take-le}
use Rattle.omega_io.specs.Edge.{Appends, HandsOver}

-- the first bytes, and the first of those that are left
pub take_parts : (n m : ℕ) (xs : List ℕ) → take (n + m) xs ≡ take n xs ++ take m (drop n xs)
take_parts n m xs =
    let whole = take-append-drop n (take (n + m) xs) in
    sym (rw (take-take n (n + m) xs (omega arith), drop-take n m xs) at whole)

-- two writes are one of both pieces
pub appends_more : (first second : List ℕ) (a b c : Option (List ℕ)) → Appends first a b → Appends second b c → Appends (first ++ second) a c
appends_more first second None b c h k = k ∙ ap (option_map (λ (w : List ℕ). w ++ second)) h
appends_more first second (Some w) b c h k =
    k ∙ ap (option_map (λ (w : List ℕ). w ++ second)) h ∙ ap Some (append_assoc w first second)

-- two reads are one of both pieces
pub hands_more : (first second : List ℕ) (a b c : Option (List ℕ)) → HandsOver first a b → HandsOver second b c → HandsOver (first ++ second) a c
hands_more first second a b None h k = h ∙ ap (option_map (λ (l : List ℕ). first ++ l)) k
hands_more first second a b (Some l) h k =
    h ∙ ap (option_map (λ (l : List ℕ). first ++ l)) k ∙ ap Some (sym (append_assoc first second l))

-- what was copied into the front of a piece, and what is left after it
pub handed : (bytes piece copied : List ℕ) (taken count : ℕ) → copied ≡ take count (drop taken bytes) → count ≤ length (drop taken bytes)
    → drop taken bytes ≡ take count (copied ++ drop count piece) ++ drop (taken + count) bytes
handed bytes piece copied taken count same fits =
    let long : length copied ≡ count = ap length same ∙ length-take-le count (drop taken bytes) fits in
    let front : take count (copied ++ drop count piece) ≡ take count (drop taken bytes) =
    take_at copied (drop count piece) count long ∙ same in
    rw (front, ← drop-drop count taken bytes) (sym (take-append-drop count (drop taken bytes)))
