-- What a scheduler is asked to place: requests for its own jobs, none before the first row, and none that
-- wishes for a task twice.
use Rattle.std.proofs.Common.{◌≡◌, ◌≤◌, ◌+◌, ℕ, Bool, true, not, List, [], ◌∷◌, length, Option, Some, None, refl, ap, subst, arith, ◌∙◌, ◌==◌}
use Rattle.std.specs.List.{All, cons_option, filter, filter_map, fold, list_any, AllByRecursion as Each}
use Rattle.std.proofs.lemmas.Bool.{and_parts, eqb-true, lt-leb}
use Rattle.std.proofs.lemmas.List.Elements.{All-from_recursion}
use Rattle.omega_model.specs.Cell.{Cell}
use Rattle.omega_model.specs.ExtraTasks.{HasLowIndex, activities_of, wishes_after}
use Rattle.omega_model.specs.Feed.{feed}
use Rattle.omega_model.specs.OpenRequests.{is_worked_on, open_requests}
use Rattle.omega_model.specs.Reply.{admits}
use Rattle.omega_model.specs.Requests.{failed, failed_after, jobs_in_order, request_of, requests, wishes_of, works_on}
use Rattle.omega_model.specs.Routing.{scheduler_of}
use Rattle.omega_model.specs.State.{state}
use Rattle.omega_model.specs.Wanted.{wanted}
use Rattle.omega_model.specs.declared.entries.Entry.{Entry}
use Rattle.omega_model.specs.declared.entries.Entry.TheVariants.{Round, MachineAdd, MachineUpdate, MachineRemove, AttrSet, AttrDelete, End, Commit}
use Rattle.omega_model.specs.declared.rows.Row.{Row}
use Rattle.omega_model.specs.declared.rows.TraceTables.{TraceTables}
use Rattle.omega_model.specs.declared.settings.Settings.{Settings}
use Rattle.omega_model.specs.declared.wishes.Request.{Request}
use Rattle.omega_model.specs.declared.wishes.Wish.{Wish}
use Rattle.omega_model.proofs.Lists.{by_answer, each_map, each_passes}
use Rattle.omega_model.proofs.OpenRequests.{requests_from_open}
use Rattle.omega_desk.proofs.Asked.{requests_distinct}
use Rattle.omega_desk.specs.Walks.{HasDistinctWishes}
use Rattle.omega_workers.specs.Workers.{IsRoutedTo}
use Rattle.omega_laws.proofs.Suited.{OfValue, each_mapped}

-- the request of a job
of_job : (settings : Settings) (trace : TraceTables) (scheduler job : ℕ) (wishes : List Wish) → scheduler_of settings trace job ≡ scheduler
    → OfValue (IsRoutedTo settings trace scheduler) (request_of job wishes)
of_job settings trace scheduler job [] routed = tt
of_job settings trace scheduler job (wish ∷ wishes) routed = routed

-- each request of a scheduler is for one of its jobs
pub requests_own : (settings : Settings) (trace : TraceTables) (rows : List Row) (history : List Entry) (scheduler : ℕ)
    → All (IsRoutedTo settings trace scheduler) (requests settings trace rows history scheduler)
requests_own settings trace rows history scheduler =
    let test : ℕ → Bool = works_on settings trace history scheduler in
    let own : ℕ → Type 0 = λ job. scheduler_of settings trace job ≡ scheduler in
    let jobs : List ℕ = filter test (jobs_in_order (feed trace)) in
    All-from_recursion (IsRoutedTo settings trace scheduler) _
    (each_mapped own (IsRoutedTo settings trace scheduler) (λ job. request_of job (wishes_of settings trace (state history) (wanted rows) job))
    (λ job routed. of_job settings trace scheduler job _ routed) jobs
    (each_map (λ job. test job ≡ true) own (λ job passes. eqb-true _ _ (and_parts _ _ passes).0) jobs (each_passes test (jobs_in_order (feed trace)))))

-- so is each that is asked, also where jobs that are given up count
pub open_own : (settings : Settings) (trace : TraceTables) (rows : List Row) (history : List Entry) (scheduler : ℕ)
    → Each (IsRoutedTo settings trace scheduler) (open_requests settings trace rows (state history) scheduler)
open_own settings trace rows history scheduler =
    let test : ℕ → Bool = λ job. scheduler_of settings trace job == scheduler in
    let own : ℕ → Type 0 = λ job. scheduler_of settings trace job ≡ scheduler in
    let jobs : List ℕ = filter test (jobs_in_order (feed trace)) in
    each_mapped own (IsRoutedTo settings trace scheduler) (λ job. request_of job (wishes_of settings trace (state history) (wanted rows) job))
    (λ job routed. of_job settings trace scheduler job _ routed) jobs
    (each_map (λ job. test job ≡ true) own (λ job passes. eqb-true _ _ passes) jobs (each_passes test (jobs_in_order (feed trace))))

none_mapped : (asks : ℕ → Option Request) → ((job : ℕ) → asks job ≡ None) → (jobs : List ℕ) → filter_map asks jobs ≡ []
none_mapped asks none [] = refl
none_mapped asks none (job ∷ jobs) = ap (λ (o : Option Request). cons_option o (filter_map asks jobs)) (none job) ∙ none_mapped asks none jobs

-- without a wanted task a job gets no extras
no_extras : (settings : Settings) (trace : TraceTables) (cell : Cell) (job : ℕ) (activities : Option ℕ) → wishes_after settings trace cell [] job activities [] ≡ []
no_extras settings trace cell job None = refl
no_extras settings trace cell job (Some activities) = refl

-- before the first row nothing is asked
pub requests_none : (settings : Settings) (trace : TraceTables) (scheduler : ℕ) → requests settings trace [] [] scheduler ≡ []
requests_none settings trace scheduler =
    none_mapped (λ job. request_of job (wishes_of settings trace (state []) (wanted []) job))
    (λ job. ap (request_of job) (no_extras settings trace (state []) job (activities_of trace job)))
    (filter (works_on settings trace [] scheduler) (jobs_in_order (feed trace)))

failed_grows : (job count : ℕ) (entry : Entry) → failed_after job count entry ≤ count + 1
failed_grows job count (Round number) = omega arith
failed_grows job count (MachineAdd machine cap) = omega arith
failed_grows job count (MachineUpdate machine cap) = omega arith
failed_grows job count (MachineRemove machine) = omega arith
failed_grows job count (AttrSet machine name value) = omega arith
failed_grows job count (AttrDelete machine name) = omega arith
failed_grows job count (End key machine) = omega arith
failed_grows job count (Commit scheduler seen txn reply) =
    by_answer (txn.job == job)
    (λ t. by_answer (list_any admits reply) (λ a. rw (t, a) (omega arith)) (λ b. rw (t, b) (omega arith)))
    (λ f. rw f (omega arith))

failed_within : (job count : ℕ) (history : List Entry) → fold (failed_after job) count history ≤ count + length history
failed_within job count [] = omega arith
failed_within job count (entry ∷ history) =
    let rest : fold (failed_after job) (failed_after job count entry) history ≤ failed_after job count entry + length history =
    failed_within job (failed_after job count entry) history in
    let one : failed_after job count entry ≤ count + 1 = failed_grows job count entry in
    omega (arith, rest, one)

all_kept : {X : Type 0} (test : X → Bool) → ((x : X) → test x ≡ true) → (xs : List X) → filter test xs ≡ xs
all_kept test passes [] = refl
all_kept test passes (x ∷ xs) = rw (passes x) (ap (λ rest. x ∷ rest) (all_kept test passes xs))

-- no request wishes for a task twice, also where jobs that are given up count: they are the requests under
-- settings that give no job up
pub open_distinct : (settings : Settings) (trace : TraceTables) (rows : List Row) (history : List Entry) (scheduler : ℕ)
    → All HasLowIndex (wanted rows) → All HasDistinctWishes (open_requests settings trace rows (state history) scheduler)
open_distinct settings trace rows history scheduler low =
    let patient : Settings = record settings { give_up = length history + 1 } in
    let all : List Request = open_requests settings trace rows (state history) scheduler in
    let tried : (request : Request) → is_worked_on patient history request ≡ true =
    λ request. let few : failed history request.job ≤ 0 + length history = failed_within request.job 0 history in
    ap not (lt-leb (length history + 1) (failed history request.job) (omega (arith, few))) in
    subst (All HasDistinctWishes) (requests_from_open patient trace rows history scheduler ∙ all_kept (is_worked_on patient history) tried all)
    (requests_distinct patient trace rows history scheduler low)
