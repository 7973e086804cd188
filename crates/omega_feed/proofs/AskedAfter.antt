-- What a trace asks for after its rows, and what one more row does to it.
use Rattle.std.proofs.Common.{◌≡◌, ℕ, Bool, true, false, cond, ◌==◌, List, [], ◌∷◌, ◌++◌, Option, map, refl, ap, ◌∙◌, arith}
use Rattle.std.specs.List.{filter, filter_map, cons_option}
use Rattle.std.proofs.lemmas.Grind.{common_steps}
use Rattle.omega_model.specs.Cell.{Cell}
use Rattle.omega_model.specs.Feed.{feed}
use Rattle.omega_model.specs.OpenRequests.{open_requests}
use Rattle.omega_model.specs.Requests.{jobs_in_order, request_of, wishes_of, is_waiting}
use Rattle.omega_model.specs.Wishes.{wish_of}
use Rattle.omega_model.specs.Routing.{scheduler_of}
use Rattle.omega_model.specs.Wanted.{wanted, wanted_after}
use Rattle.omega_model.specs.declared.rows.Row.{Row}
use Rattle.omega_model.specs.declared.rows.TraceTables.{TraceTables}
use Rattle.omega_model.specs.declared.settings.Settings.{Settings}
use Rattle.omega_model.specs.ExtraTasks.{activities_of}
use Rattle.omega_feed.proofs.ExtraIndexes.{extras_asked}
use Rattle.omega_feed.specs.Asked.{routed, asked_after, job_request, asked_requests}

filter_mapped : {X Y : Type 0} (f : X → Y) (p : Y → Bool) (xs : List X) → filter p (map f xs) ≡ map f (filter (λ x. p (f x)) xs)
filter_mapped f p [] = refl
filter_mapped f p (x ∷ xs) = by_cases (p (f x)) (filter_mapped f p xs) where
  by_cases : (b : Bool) → filter p (map f xs) ≡ map f (filter (λ x. p (f x)) xs)
      → cond b (f x ∷ filter p (map f xs)) (filter p (map f xs)) ≡ map f (cond b (x ∷ filter (λ x. p (f x)) xs) (filter (λ x. p (f x)) xs))
  by_cases true e = ap (λ z. f x ∷ z) e
  by_cases false e = e

filter_map_mapped : {X Y Z : Type 0} (f : X → Y) (h : Y → Option Z) (k : X → Option Z) → ((x : X) → h (f x) ≡ k x) → (xs : List X)
    → filter_map h (map f xs) ≡ filter_map k xs
filter_map_mapped f h k e [] = refl
filter_map_mapped f h k e (x ∷ xs) = ap (λ z. cons_option z (filter_map h (map f xs))) (e x) ∙ ap (λ z. cons_option (k x) z) (filter_map_mapped f h k e xs)

-- the requests are the open requests
pub asked_open : (settings : Settings) (trace : TraceTables) (rows : List Row) (cell : Cell) (scheduler : ℕ)
    → asked_requests (asked_after settings trace rows) cell scheduler ≡ open_requests settings trace rows cell scheduler
asked_open settings trace rows cell scheduler =
    let jobs = jobs_in_order (feed trace) in
    ap (λ z. filter_map (job_request (asked_after settings trace rows) cell) z) (filter_mapped (routed settings trace) (λ job. job.scheduler == scheduler) jobs)
    ∙ filter_map_mapped (routed settings trace) (job_request (asked_after settings trace rows) cell)
    (λ job. request_of job (wishes_of settings trace cell (wanted rows) job))
    (λ job. ap (λ z. request_of job (map (wish_of trace) (filter (is_waiting cell job) (wanted rows)) ++ z))
    (extras_asked settings trace rows cell (wanted rows) job (activities_of trace job)))
    (filter (λ job. scheduler_of settings trace job == scheduler) jobs)

-- one more row changes the wanted tasks alone
pub asked_more : (settings : Settings) (trace : TraceTables) (rows : List Row) (row : Row)
    → asked_after settings trace (rows ++ row ∷ []) ≡ record (asked_after settings trace rows) { tasks = wanted_after (wanted rows) row }
asked_more settings trace rows row =
    let more : wanted (rows ++ row ∷ []) ≡ wanted_after (wanted rows) row = grind (arith, common_steps) in
    ap (λ z. record (asked_after settings trace rows) { tasks = z }) more
