-- A world before its first round, and its workers.
use Rattle.std.proofs.Common.{◌≡◌, ◌+◌, ℕ, List, [], ◌∷◌, ◌++◌, length, Some, None, refl, sym, ap, ap₂, subst, arith, ◌∙◌, inl, inr, length-append}
use Rattle.std.specs.List.{All, sum_by}
use Rattle.std.proofs.lemmas.List.Elements.{All-nil}
use Rattle.omega_feed.specs.Asked.{Asked, asked_after}
use Rattle.omega_model.specs.Feed.{rounds}
use Rattle.omega_model.specs.Policy.{schedulers}
use Rattle.omega_model.specs.Ranges.{IsInRange}
use Rattle.omega_model.specs.Requests.{failed, requests}
use Rattle.omega_model.specs.Work.{Standing, fresh}
use Rattle.omega_model.specs.declared.entries.Entry.{Entry}
use Rattle.omega_model.specs.declared.rows.Row.{Row}
use Rattle.omega_model.specs.declared.rows.Round.{Round}
use Rattle.omega_model.specs.declared.rows.TraceTables.{TraceTables}
use Rattle.omega_model.specs.declared.settings.Settings.{Settings}
use Rattle.omega_model.specs.declared.wishes.Request.{Request}
use Rattle.omega_desk.specs.Counts.{count_of}
use Rattle.omega_desk.specs.Desks.{DeskState, left_at}
use Rattle.omega_rounds.specs.Keeping.{IsNew, IsWorld, world_at}
use Rattle.omega_rounds.specs.Beginning.{AreNewWorkers}
use Rattle.omega_workers.specs.Workers.{IsDeskOf, IsRoutedTo, IsWorker, synced_of, to_do_of}
use Rattle.omega_rounds.specs.Stages.{IsInRunOf, Source, stage_of}
use Rattle.omega_workers.specs.declared.worker.Worker.{Worker}
use Rattle.omega_workers.proofs.HavingPlans.{plan_none}
use Rattle.omega_rounds.proofs.Requested.{requests_none}
use Rattle.omega_rounds.proofs.WorkerLists.{push_cases, seen_none}
use Rattle.omega_rounds.proofs.WorldBegins.{none_to_do}

-- a worker is that of a scheduler that has done nothing yet
abbrev IsNewWorker : Settings → ℕ → Worker → Type 0
IsNewWorker settings number worker = IsWorker settings [] number worker × ((synced_of worker ≡ None) × (left_at worker.desk ≡ fresh (λ job. 0) []))

-- one more worker
pub workers_more : (settings : Settings) (count : ℕ) (workers : List Worker) (worker : Worker) → AreNewWorkers settings count workers
    → IsWorker settings [] count worker → synced_of worker ≡ None → left_at worker.desk ≡ fresh (λ job. 0) []
    → AreNewWorkers settings (count + 1) (workers ++ worker ∷ [])
workers_more settings count workers worker are is synced left = record {
  count = let so : length workers ≡ count = are.count in omega (arith, length-append workers (worker ∷ []));
  each = λ number other here. elim (push_cases workers worker number other here) [
    | inl old ↦ are.each number other old
    | inr new ↦
        subst (IsNewWorker settings number) new.1
        (subst (λ (n : ℕ). IsNewWorker settings n worker) (sym (new.0 ∙ are.count)) (is, (synced, left)))
  ];
}

-- what a world has of a trace
pub made_of : (settings : Settings) (trace : TraceTables) (all : List Round) (asked : Asked) (rows : List Row)
    → all ≡ rounds trace settings.window → asked ≡ asked_after settings trace rows
    → (begun opened_at : ℕ) → IsInRunOf (stage_of settings all asked begun opened_at) trace
made_of settings trace all asked rows rounds_are asks begun opened_at =
    ap₂ (λ (rs : List Round) (a : Asked). let s : Source = record { rounds = rs; asked = record a { tasks = [] } } in s) rounds_are asks

-- what is left to the desk of a scheduler that has done nothing yet
desk_new : (settings : Settings) (trace : TraceTables) (number : ℕ) (desk : DeskState) → left_at desk ≡ fresh (λ job. 0) []
    → IsDeskOf settings trace [] 0 [] number desk
desk_new settings trace number desk left =
    let none : [] ≡ desk.requests = sym (ap (λ (s : Standing). s.requests) left) in
    let count : (job : ℕ) → 0 ≡ count_of desk.counts job = λ job. sym (ap (λ (s : Standing). s.failing job) left) in
    let asked : requests settings trace [] [] number ≡ desk.requests = requests_none settings trace number ∙ none in
    record {
      left = record {
        remains = ap (λ (l : List Request). Some l) asked;
        due = λ place entry here. absurd (cc);
      };
      standing = fresh (failed []) (requests settings trace [] [] number);
      stands = refl;
      requests = asked;
      taken = sym (ap (λ (s : Standing). s.taken) left);
      own = subst (All (IsRoutedTo settings trace number)) none (All-nil (IsRoutedTo settings trace number));
      counts = λ job own. count job;
      failures = λ job own. count job;
    }

-- a world before its first round
pub world_new : (settings : Settings) (trace : TraceTables) (all : List Round) (asked : Asked) (history : List Entry) (workers : List Worker)
    → IsInRange settings → all ≡ rounds trace settings.window → asked ≡ asked_after settings trace [] → history ≡ []
    → AreNewWorkers settings (schedulers settings) workers
    → IsWorld (stage_of settings all asked 0 0) asked.tasks history workers
world_new settings trace all asked history workers range rounds_are asks none are =
    subst (λ (h : List Entry). IsWorld (stage_of settings all asked 0 0) asked.tasks h workers) (sym none) (record {
      range = range;
      within = omega arith;
      asked = ap (λ (a : Asked). a.tasks) asks;
      count = are.count;
      each_worker = λ number worker here. (are.each number worker here).0;
      each_plan = λ number worker here. plan_none [] worker (are.each number worker here).1.0;
      made = (trace, made_of settings trace all asked [] rounds_are asks 0 0);
      lawful = λ other made. record {
        run = inl (record {
          is_new = record { empty = refl; nobody = seen_none synced_of workers (λ number worker here. (are.each number worker here).1.0) };
          none = refl;
          start = refl;
        });
        desks = λ number worker here. desk_new settings other number worker.desk (are.each number worker here).1.1;
      };
    })

-- the world of these workers is new, and no commit can follow
pub is_new : (settings : Settings) (count : ℕ) (history : List Entry) (workers : List Worker) → history ≡ [] → AreNewWorkers settings count workers
    → IsNew (world_at history workers)
is_new settings count history workers none are = record {
  empty = none;
  nobody = seen_none synced_of workers (λ number worker here. (are.each number worker here).1.0);
}

pub nothing_to_do : (settings : Settings) (count : ℕ) (workers : List Worker) → AreNewWorkers settings count workers → sum_by to_do_of workers ≡ 0
nothing_to_do settings count workers are =
    none_to_do workers (λ number worker here. ap (λ (s : Standing). s.requests) (are.each number worker here).1.1)
