use Rattle.std.proofs.Common.{◌≡◌, ℕ, drop}
use Rattle.std.specs.List.{list_any, zip}
use Rattle.omega_model.specs.Touches.{places_on}
use Rattle.omega_keep.specs.Touching.{noted, places_of}
use Rattle.omega_keep.proofs.touches.Touches.touch_placed.Given as goal

abbrev pub invariant-loop-i : goal.invariant-loop-i
invariant-loop-i l = (id : ℕ) → noted l.place (list_any (places_on id) (zip (drop l.i l.claims) (drop l.i l.reply))) (places_of l.self.places id) ≡ noted l.place (list_any (places_on id) (zip l.claims l.reply)) (places_of l.fn.self.places id)
