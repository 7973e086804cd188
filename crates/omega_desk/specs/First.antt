-- The first request that is left at a desk.
use Rattle.std.specs.Prelude.{Option, Some, None}
use Rattle.omega_model.specs.declared.wishes.Request.{Request}
use Rattle.omega_desk.specs.declared.first.First.{First}
use Rattle.omega_desk.specs.declared.first.First.TheVariants.{Listed, Counted}

-- the request, whether its wishes are listed or counted
abbrev pub request_in : First → Request
request_in (Listed request) = request
request_in (Counted request) = request

-- the request, if one is left
abbrev pub first_request : Option First → Option Request
first_request None = None
first_request (Some first) = Some (request_in first)

-- the request, if one is left of which wishes are counted
abbrev pub counted_request : Option First → Option Request
counted_request None = None
counted_request (Some (Listed request)) = None
counted_request (Some (Counted request)) = Some request
