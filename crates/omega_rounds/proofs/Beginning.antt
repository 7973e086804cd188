-- Workers that begin with their requests one after the other.
use Rattle.std.proofs.Common.{◌≡◌, ◌≢◌, ◌≤◌, ◌<◌, ◌+◌, ℕ, List, [], length, set, Some, refl, sym, ap, subst, arith, ◌∙◌, inl, inr, None}
use Rattle.std.specs.Prelude.{slice_get}
use Rattle.std.specs.List.{All}
use Rattle.std.proofs.lemmas.List.{length-set}
use Rattle.std.proofs.lemmas.Option.{slice_get_within}
use Rattle.omega_feed.specs.Asked.{Asked, asked_after}
use Rattle.omega_model.specs.Cell.{Cell}
use Rattle.omega_model.specs.ExtraTasks.{HasLowIndex}
use Rattle.omega_model.specs.OpenRequests.{open_requests as all_requests}
use Rattle.omega_model.specs.State.{state}
use Rattle.omega_model.specs.Work.{fresh}
use Rattle.omega_model.specs.declared.entries.Entry.{Entry}
use Rattle.omega_model.specs.declared.rows.Row.{Row}
use Rattle.omega_model.specs.declared.rows.TraceTables.{TraceTables}
use Rattle.omega_model.specs.declared.settings.Settings.{Settings}
use Rattle.omega_model.specs.declared.wishes.Request.{Request}
use Rattle.omega_desk.specs.Desks.{IsSameDesk, left_at, still_tried}
use Rattle.omega_desk.specs.Walks.{HasDistinctWishes}
use Rattle.omega_rounds.specs.Beginning.{BeginAll, BeginsWorker, IsAsked}
use Rattle.omega_workers.specs.Workers.{HaveNoWork, synced_of}
use Rattle.omega_workers.specs.declared.worker.Worker.{Worker}
use Rattle.omega_rounds.proofs.Requested.{open_distinct}
use Rattle.omega_rounds.proofs.WorkerLists.{set_cases, set-other}

-- the workers before a place have begun, and the others are as they were
pub record HaveBegun (asked : Asked) (history : List Entry) (old now : List Worker) (place : ℕ) : Type 0 where
  pub count : length now ≡ length old
  pub done : (number : ℕ) (worker : Worker) → number < place → slice_get now number ≡ Some worker
      → (before : Worker) × ((slice_get old number ≡ Some before) × BeginsWorker asked history number before worker)
  pub rest : (number : ℕ) → place ≤ number → slice_get now number ≡ slice_get old number

-- none has
pub begun_none : (asked : Asked) (history : List Entry) (old : List Worker) → HaveBegun asked history old old 0
begun_none asked history old = record {
  count = refl;
  done = λ number worker below here. absurd (omega arith);
  rest = λ number above. refl;
}

-- one more has
pub begun_more : (asked : Asked) (history : List Entry) (old now : List Worker) (place : ℕ) (worker next : Worker)
    → HaveBegun asked history old now place → slice_get now place ≡ Some worker → BeginsWorker asked history place worker next
    → HaveBegun asked history old (set now place next) (place + 1)
begun_more asked history old now place worker next have here begins = record {
  count = length-set now place next ∙ have.count;
  done = λ number other below there. elim (set_cases now place next number other there) [
    | inl same ↦
        subst (λ (n : ℕ). (before : Worker) × ((slice_get old n ≡ Some before) × BeginsWorker asked history n before other)) (sym same.0)
        (worker, (sym (have.rest place (omega arith)) ∙ here, subst (BeginsWorker asked history place worker) same.1 begins))
    | inr before ↦ have.done number other (let apart : number ≢ place = before.0 in grind (arith)) before.1
  ];
  rest = λ number above.
      set-other now place next number (λ same. let e : number ≡ place = same in absurd (omega (arith, e, above)))
      ∙ have.rest number (omega (arith, above));
}

-- all have
pub begun_all : (asked : Asked) (history : List Entry) (old now : List Worker) (place : ℕ) → HaveBegun asked history old now place → length now ≤ place
    → BeginAll asked history old now
begun_all asked history old now place have all = record {
  count = have.count;
  each = λ number worker here. have.done number worker (let within : number < length now = slice_get_within now number worker here in omega (arith, within, all)) here;
}

-- a worker that hasn't begun has no work
pub idle_still : (asked : Asked) (history : List Entry) (old now : List Worker) (place : ℕ) (worker : Worker)
    → HaveBegun asked history old now place → HaveNoWork old → slice_get now place ≡ Some worker → worker.desk.requests ≡ []
idle_still asked history old now place worker have idle here = idle place worker (sym (have.rest place (omega arith)) ∙ here)

-- what is asked of a scheduler wishes for no task twice
pub asked_distinct : (asked : Asked) (history : List Entry) (cell : Cell) (place : ℕ) (all : List Request) → IsAsked asked → All HasLowIndex asked.tasks → cell ≡ state history
    → ((settings : Settings) (trace : TraceTables) (rows : List Row) → asked ≡ asked_after settings trace rows → all ≡ all_requests settings trace rows cell place)
    → All HasDistinctWishes all
asked_distinct asked history cell place all is low now are =
    subst (All HasDistinctWishes)
    (sym (are is.settings is.trace is.rows is.asks ∙ ap (λ (c : Cell). all_requests is.settings is.trace is.rows c place) now))
    (open_distinct is.settings is.trace is.rows history place (subst (All HasLowIndex) (ap (λ (a : Asked). a.tasks) is.asks) low))

-- a worker begins
pub worker_begins : (asked : Asked) (history : List Entry) (cell : Cell) (place : ℕ) (all : List Request) (old new : Worker) → cell ≡ state history
    → ((settings : Settings) (trace : TraceTables) (rows : List Row) → asked ≡ asked_after settings trace rows → all ≡ all_requests settings trace rows cell place)
    → IsSameDesk old.desk new.desk → new.desk.attempts ≡ old.desk.attempts
    → left_at new.desk ≡ fresh (left_at old.desk).failing (still_tried old.desk.settings (left_at old.desk).failing all)
    → synced_of new ≡ None
    → BeginsWorker asked history place old new
worker_begins asked history cell place all old new now are desk attempts left synced = record {
  desk = desk;
  attempts = attempts;
  left = λ settings trace rows asks.
      left
      ∙ ap (λ (rs : List Request). fresh (left_at old.desk).failing (still_tried old.desk.settings (left_at old.desk).failing rs))
      (are settings trace rows asks ∙ ap (λ (c : Cell). all_requests settings trace rows c place) now);
  synced = synced;
}
