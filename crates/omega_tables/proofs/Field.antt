-- The field of a record at a place, and nothing where there is none.
use Rattle.std.proofs.Common.{◌≡◌, ℕ, zero, suc, List, [], ◌∷◌, get_or, refl, Option, Some, None, Bor}
use Rattle.std.specs.Option.{unwrap_or}
use Rattle.std.specs.Prelude.{option_map}
use Rattle.csv.specs.Records.{field_at}

pub field_or_none : (fields : List (List ℕ)) (place : ℕ) → unwrap_or (field_at fields place) [] ≡ get_or fields place []
unfolding field_at
field_or_none [] place = refl
field_or_none (field ∷ fields) zero = refl
field_or_none (field ∷ fields) (suc place) = field_or_none fields place

pub now_or : (field : Option (Bor (List ℕ))) (other : Bor (List ℕ)) → (unwrap_or field other).now ≡ unwrap_or (option_map (λ f. f.now) field) other.now
now_or (Some field) other = refl
now_or None other = refl
