-- The requests of a scheduler are its open ones without those of jobs that are given up.
use Rattle.std.proofs.Common.{◌≡◌, ℕ, Bool, true, false, cond, ◌&&◌, List, [], ◌∷◌, Option, Some, None, refl}
use Rattle.std.specs.List.{filter, filter_map, cons_option}
use Rattle.omega_model.specs.OpenRequests.{open_requests, is_worked_on}
use Rattle.omega_model.specs.Feed.{feed}
use Rattle.omega_model.specs.Requests.{requests, jobs_in_order, request_of, wishes_of}
use Rattle.omega_model.specs.State.{state}
use Rattle.omega_model.specs.Wanted.{wanted}
use Rattle.omega_model.specs.declared.entries.Entry.{Entry}
use Rattle.omega_model.specs.declared.rows.Row.{Row}
use Rattle.omega_model.specs.declared.rows.TraceTables.{TraceTables}
use Rattle.omega_model.specs.declared.settings.Settings.{Settings}
use Rattle.omega_model.specs.declared.wishes.Request.{Request}
use Rattle.omega_model.specs.declared.wishes.Wish.{Wish}

-- one more answer, which is kept where b says so
kept : {Y : Type 0} (q : Y → Bool) (o : Option Y) (b : Bool) (M N : List Y)
    → ((y : Y) → o ≡ Some y → q y ≡ b) → N ≡ filter q M → cond b (cons_option o N) N ≡ filter q (cons_option o M)
kept q None true M N f e = e
kept q None false M N f e = e
kept q (Some y) true M N f e = rw (f y refl, e) refl
kept q (Some y) false M N f e = rw (f y refl) e

-- a second test of what goes in is a test of what comes out
pub filter_map-tested : {X Y : Type 0} (h : X → Option Y) (a b : X → Bool) (q : Y → Bool)
    → ((x : X) (y : Y) → h x ≡ Some y → q y ≡ b x)
    → (xs : List X) → filter_map h (filter (λ x. a x && b x) xs) ≡ filter q (filter_map h (filter a xs))
filter_map-tested h a b q f [] = refl
filter_map-tested {X} h a b q f (x ∷ xs) = by_cases (a x) (b x) (f x) (filter_map-tested h a b q f xs) where
  by_cases : (s t : Bool) → ((y : _) → h x ≡ Some y → q y ≡ t)
      → filter_map h (filter (λ x. a x && b x) xs) ≡ filter q (filter_map h (filter a xs))
      → filter_map h (cond (s && t) (x ∷ filter (λ x. a x && b x) xs) (filter (λ x. a x && b x) xs))
      ≡ filter q (filter_map h (cond s (x ∷ filter a xs) (filter a xs)))
  by_cases true true g e = kept q (h x) true _ _ g e
  by_cases true false g e = kept q (h x) false _ _ g e
  by_cases false t g e = e

-- a request is of the job for which it was made
request_job : (job : ℕ) (wishes : List Wish) (request : Request) → request_of job wishes ≡ Some request → request.job ≡ job
request_job job [] request is = absurd (cc)
request_job job (wish ∷ wishes) request is = cc

pub requests_from_open : (settings : Settings) (trace : TraceTables) (rows : List Row) (history : List Entry) (scheduler : ℕ)
    → requests settings trace rows history scheduler
    ≡ filter (is_worked_on settings history) (open_requests settings trace rows (state history) scheduler)
requests_from_open settings trace rows history scheduler =
    filter_map-tested
    (λ job. request_of job (wishes_of settings trace (state history) (wanted rows) job))
    _ _
    (is_worked_on settings history)
    (λ job request is. rw (request_job job _ request is) refl)
    (jobs_in_order (feed trace))
