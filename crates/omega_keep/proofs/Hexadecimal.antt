-- Bytes in hexadecimal, one after the other.
use Rattle.std.proofs.Common.{◌≡◌, ℕ, zero, suc, ◌+◌, ◌<◌, ◌≤◌, ◌/◌, ◌%◌, List, [], ◌∷◌, length, drop, refl, subst, arith}
use Rattle.std.specs.List.{slice_index}
use Rattle.hex.specs.Hex.{encode_lower, encode_with, lower_digits, IsBytes}

pub next_byte : (bytes : List ℕ) (i : ℕ) → i < length bytes
    → encode_lower (drop i bytes) ≡ slice_index lower_digits (slice_index bytes i / 16) ∷ slice_index lower_digits (slice_index bytes i % 16) ∷ encode_lower (drop (i + 1) bytes)
unfolding encode_with
next_byte [] i h = absurd (omega arith)
next_byte (byte ∷ bytes) zero h = refl
next_byte (byte ∷ bytes) (suc i) h = let one : suc i + 1 ≡ suc (i + 1) = omega arith in rw one (next_byte bytes i (omega arith))

pub no_byte : (bytes : List ℕ) (i : ℕ) → length bytes ≤ i → encode_lower (drop i bytes) ≡ []
unfolding encode_with
no_byte [] zero h = refl
no_byte [] (suc i) h = refl
no_byte (byte ∷ bytes) zero h = absurd (omega arith)
no_byte (byte ∷ bytes) (suc i) h = no_byte bytes i (omega arith)

bytes_first : (byte : ℕ) (bytes : List ℕ) → byte < 256 → IsBytes bytes → IsBytes (byte ∷ bytes)
bytes_first byte bytes small more zero = small
bytes_first byte bytes small more (suc k) = more k

pub bytes_from : (bytes : List ℕ) (i : ℕ) → i < length bytes → slice_index bytes i < 256 → IsBytes (drop (i + 1) bytes) → IsBytes (drop i bytes)
bytes_from [] i h small more = absurd (omega arith)
bytes_from (byte ∷ bytes) zero h small more = bytes_first byte bytes small more
bytes_from (byte ∷ bytes) (suc i) h small more =
    let one : suc i + 1 ≡ suc (i + 1) = omega arith in
    bytes_from bytes i (omega arith) small (subst (λ n. IsBytes (drop n (byte ∷ bytes))) one more)
