-- What is asked of a scheduler in a round is no more than a trace has.
use Rattle.std.proofs.Common.{◌≡◌, ℕ, ◌+◌, ◌≤◌, true, List, [], ◌∷◌, map, length, take, Option, Some, None, refl, arith, inl, inr, length-append, length-take}
use Rattle.std.proofs.lemmas.List.{length-map}
use Rattle.std.specs.Prelude.{◌==◌, not, unwrap_or}
use Rattle.std.specs.List.{cons_option, filter, filter_map, list_any, range_with_len, AllByRecursion as Each}
use Rattle.std.proofs.lemmas.Bool.{eq-eqb, or_right}
use Rattle.std.proofs.lemmas.Bool.{cases_lt}
use Rattle.omega_feed.proofs.ExtraIndexes.{extras_room}
use Rattle.omega_model.proofs.Fewer.{filter_fewer}
use Rattle.omega_model.proofs.Lists.{each_filter, each_map}
use Rattle.omega_model.specs.Cell.{Cell}
use Rattle.omega_model.specs.ExtraTasks.{activities_of, extra_count, extra_wish, running_extras, wanted_of, wishes_after, wishes_for_extras, first_extra, used_in, capacity_in_all}
use Rattle.omega_model.specs.Feed.{feed}
use Rattle.omega_model.specs.Fields.{most_activities}
use Rattle.omega_model.specs.Requests.{is_waiting, jobs_in_order, request_of, requests, wishes_of, works_on}
use Rattle.omega_model.specs.State.{state}
use Rattle.omega_model.specs.Wanted.{WantedTask, wanted}
use Rattle.omega_model.specs.Wishes.{wish_of}
use Rattle.omega_model.specs.declared.entries.Entry.{Entry}
use Rattle.omega_model.specs.declared.rows.Row.{Row}
use Rattle.omega_model.specs.declared.rows.TraceTables.{TraceTables}
use Rattle.omega_model.specs.declared.settings.Settings.{Settings}
use Rattle.omega_model.specs.declared.wishes.Request.{Request}
use Rattle.omega_model.specs.declared.wishes.Wish.{Wish}
use Rattle.omega_sim.proofs.Shorter.{some_fewer, wanted_few}

-- ---- extra tasks

module _ (settings : Settings) (trace : TraceTables) (few : (job : ℕ) → unwrap_or (activities_of trace job) 0 ≤ most_activities) where
  count_few : (cell : Cell) (job activities : ℕ) (asked : List WantedTask) (model : WantedTask)
      → extra_count settings cell job activities asked model.spec.need ≤ activities
  count_few cell job activities asked model =
      elim (cases_lt 0 (extra_count settings cell job activities asked model.spec.need)) [
        | inl some ↦
            let room = extras_room settings.extra activities (length (wanted_of job asked)) (length (running_extras cell job)) model.spec.need (used_in cell) (capacity_in_all cell) some in
            omega (arith, room)
        | inr none ↦ omega arith
      ]

  after_few : (cell : Cell) (asked : List WantedTask) (job : ℕ) (activities : Option ℕ) (models : List WantedTask)
      → unwrap_or activities 0 ≤ 10000 → length (wishes_after settings trace cell asked job activities models) ≤ 10000
  after_few cell asked job None models low = omega arith
  after_few cell asked job (Some activities) [] low = omega arith
  after_few cell asked job (Some activities) (model ∷ others) low =
      let count : ℕ = extra_count settings cell job activities asked model.spec.need in
      let held : List ℕ = map (λ task. task.key.index) (running_extras cell job) in
      let free : List ℕ = filter (λ index. not (list_any (λ other. other == index) held)) (range_with_len first_extra (length held + count)) in
      let long = length-map (take count free) (extra_wish trace model) in
      let taken = length-take count free in
      let most = count_few cell job activities asked model in
      omega (arith, long, taken, most, low)

  wishes_few : (cell : Cell) (asked : List WantedTask) (job : ℕ) → length (wishes_of settings trace cell asked job) ≤ length asked + 10000
  wishes_few cell asked job =
      let own : List Wish = map (wish_of trace) (filter (is_waiting cell job) asked) in
      let extra : List Wish = wishes_for_extras settings trace cell asked job in
      let all = length-append own extra in
      let each = length-map (filter (is_waiting cell job) asked) (wish_of trace) in
      let fewer = filter_fewer (is_waiting cell job) asked in
      let most = after_few cell asked job (activities_of trace job) (wanted_of job asked) (few job) in
      omega (arith, all, each, fewer, most)

-- ---- requests

-- a number stands in a list
abbrev pub IsIn : List ℕ → ℕ → Type 0
IsIn numbers n = list_any (λ m. m == n) numbers ≡ true

in_more : (n m : ℕ) (ns : List ℕ) → IsIn ns n → IsIn (m ∷ ns) n
in_more n m ns is = or_right (m == n) (list_any (λ k. k == n) ns) is

-- each number of a list stands in it
pub each_is_in : (ns : List ℕ) → Each (IsIn ns) ns
each_is_in [] = tt
each_is_in (n ∷ ns) = (
  rw (eq-eqb n n refl) refl,
  each_map (IsIn ns) (IsIn (n ∷ ns)) (λ m is. in_more m n ns is) ns (each_is_in ns),
)

-- a request is for one of these jobs, and has no more than so many wishes
pub record IsAsked (jobs : List ℕ) (most : ℕ) (request : Request) : Type 0 where
  pub job : IsIn jobs request.job
  pub wishes : length request.wishes ≤ most

one_asked : (jobs : List ℕ) (most job : ℕ) (wishes : List Wish) (rest : List Request) → IsIn jobs job → length wishes ≤ most
    → Each (IsAsked jobs most) rest → Each (IsAsked jobs most) (cons_option (request_of job wishes) rest)
one_asked jobs most job [] rest is low all = all
one_asked jobs most job (wish ∷ wishes) rest is low all = (record { job = is; wishes = low }, all)

made_asked : (jobs some : List ℕ) (most : ℕ) (wishes : ℕ → List Wish) → ((job : ℕ) → length (wishes job) ≤ most) → Each (IsIn jobs) some
    → Each (IsAsked jobs most) (filter_map (λ job. request_of job (wishes job)) some)
made_asked jobs [] most wishes few all = tt
made_asked jobs (job ∷ some) most wishes few all =
    one_asked jobs most job (wishes job) (filter_map (λ other. request_of other (wishes other)) some) all.0 (few job)
    (made_asked jobs some most wishes few all.1)

module _ (settings : Settings) (trace : TraceTables) (few : (job : ℕ) → unwrap_or (activities_of trace job) 0 ≤ most_activities) (rows : List Row) (history : List Entry) (scheduler : ℕ) where
  pub requests_asked : (most : ℕ) → length rows + 10000 ≤ most
      → Each (IsAsked (jobs_in_order (feed trace)) most) (requests settings trace rows history scheduler)
  requests_asked most high =
      let jobs : List ℕ = jobs_in_order (feed trace) in
      made_asked jobs (filter (works_on settings trace history scheduler) jobs) most (wishes_of settings trace (state history) (wanted rows))
      (λ job.
      let long = wishes_few settings trace few (state history) (wanted rows) job in
      let all = wanted_few rows in
      omega (arith, long, all, high))
      (each_filter (IsIn jobs) (works_on settings trace history scheduler) jobs (each_is_in jobs))

  pub requests_few : length (requests settings trace rows history scheduler) ≤ length (jobs_in_order (feed trace))
  requests_few =
      let jobs : List ℕ = jobs_in_order (feed trace) in
      let mine : List ℕ = filter (works_on settings trace history scheduler) jobs in
      let some = some_fewer (λ job. request_of job (wishes_of settings trace (state history) (wanted rows) job)) mine in
      let fewer = filter_fewer (works_on settings trace history scheduler) jobs in
      omega (arith, some, fewer)
