-- What is wished for of one job.
use Rattle.std.specs.Prelude.{ℕ, List}
use Rattle.omega_model.specs.declared.wishes.Request.{Request}
use Rattle.omega_model.specs.declared.wishes.Wish.{Wish}

-- the request of a job with these wishes, also where there are none
abbrev pub request_for : ℕ → List Wish → Request
request_for job wishes = record { job = job; wishes = wishes }
