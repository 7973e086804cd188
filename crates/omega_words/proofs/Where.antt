-- What an answer by `where_it` tells.
use Rattle.std.proofs.Common.{◌≡◌, Bool, true, false, Some, None, is_some, ap, refl, sym, true≢false}
use Rattle.std.specs.Prelude.{unwrap_or}
use Rattle.omega_words.specs.Choices.{where_it}

pub passed : {X : Type 0} (p : Bool) (v x : X) → Some x ≡ where_it p v → (p ≡ true) × (x ≡ v)
passed true v x e = (refl, ap (λ o. unwrap_or o x) e)
passed false v x e = absurd (true≢false (ap is_some e))

pub failed : {X : Type 0} (p : Bool) (v : X) → None ≡ where_it p v → p ≡ false
failed true v e = absurd (true≢false (sym (ap is_some e)))
failed false v e = refl
