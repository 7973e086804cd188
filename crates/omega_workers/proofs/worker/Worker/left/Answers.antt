use Rattle.std.proofs.Common.{◌≡◌, ◌∙◌, List, [], ◌∷◌, Some, length, refl}
use Rattle.std.specs.Prelude.{option_map, slice_get, unwrap_or}
use Rattle.omega_laws.specs.VirtualTime.{first_wishes}
use Rattle.omega_model.specs.declared.wishes.Request.{Request}
use Rattle.omega_workers.proofs.worker.Worker.left.Goals as goal

-- the wishes of the first of some requests
of_first : (requests : List Request) → unwrap_or (option_map (λ (request : Request). length request.wishes) (slice_get requests 0)) 0 ≡ first_wishes (Some requests)
of_first [] = refl
of_first (request ∷ requests) = refl

pub returns : goal.returns
returns c = c.wish_count.ensures ∙ of_first c.args.self.now.desk.requests
