-- What a scheduler has planned, and what plans need, while the history goes on.
use Rattle.std.proofs.Common.{◌≡◌, ◌≢◌, ◌≤◌, ◌<◌, ℕ, List, [], ◌∷◌, length, map, Option, Some, None, sym, ap, subst, ◌∙◌, arith, inl, inr, set}
use Rattle.std.specs.Prelude.{IfSome, slice_get}
use Rattle.std.proofs.lemmas.Bool.{ne_eqb}
use Rattle.std.proofs.lemmas.List.{length-set}
use Rattle.omega_model.specs.Policy.{schedulers}
use Rattle.omega_model.specs.Ranges.{IsInRange}
use Rattle.omega_model.specs.Touches.{seq}
use Rattle.omega_model.specs.declared.claims.Claim.{Claim}
use Rattle.omega_model.specs.declared.entries.Entry.{Entry}
use Rattle.omega_model.specs.declared.rows.Round.{Round}
use Rattle.omega_model.specs.declared.rows.Row.{Row}
use Rattle.omega_model.specs.declared.rows.TraceTables.{TraceTables}
use Rattle.omega_model.specs.declared.settings.Settings.{Settings}
use Rattle.omega_model.specs.Lawful.{opened}
use Rattle.omega_model.proofs.Lists.{each_map}
use Rattle.omega_plan.specs.Indexes.{AreIndexesOf}
use Rattle.omega_plan.specs.declared.indexes.Indexes.{Indexes}
use Rattle.omega_desk.specs.Desks.{DeskState}
use Rattle.omega_lock.specs.Lists.{StartsWith}
use Rattle.omega_shared.specs.Commits.{GoesOnWithout}
use Rattle.omega_laws.specs.NextCommit.{attempt}
use Rattle.omega_workers.specs.Plans.{HasPlan, IsPlan, IsReady}
use Rattle.omega_workers.specs.Workers.{IsWorker}
use Rattle.omega_workers.specs.WorkerSteps.{WorkerSteps}
use Rattle.omega_workers.specs.declared.plans.Plan.{Plan}
use Rattle.omega_workers.specs.declared.worker.Worker.{Worker}
use Rattle.omega_workers.specs.declared.steps.Stepped.{Stepped}
use Rattle.omega_workers.specs.declared.steps.Stepped.TheVariants.{Synced, Committed, Idle}
use Rattle.omega_workers.proofs.CommitCounts.{commits_other, indexes_on}
use Rattle.omega_workers.proofs.SyncedOrNot.{each_first}
use Rattle.omega_rounds.specs.Keeping.{AreIndexesFor}
use Rattle.omega_rounds.proofs.OpenedEntries.{indexes_opened}
use Rattle.omega_rounds.proofs.WorkerLists.{set_cases}
use Rattle.omega_rounds.proofs.Without.{attempt_without, front_without, longer_without}

-- indexes of a history for each scheduler are those of a longer one
pub indexes_for_on : (count : ℕ) (indexes : List Indexes) (before after : List Entry) → StartsWith after before → AreIndexesFor count before indexes
    → AreIndexesFor count after indexes
indexes_for_on count indexes before after on are = record {
  count = are.count;
  each = each_map (AreIndexesOf before) (AreIndexesOf after) (λ one. indexes_on one before after on) indexes are.each;
}

-- also where the first are others
pub indexes_for_first : (count : ℕ) (indexes : List Indexes) (first : Indexes) (before after : List Entry) → StartsWith after before → AreIndexesFor count before indexes
    → AreIndexesOf after first → AreIndexesFor count after (set indexes 0 first)
indexes_for_first count indexes first before after on are is =
    let longer : AreIndexesFor count after indexes = indexes_for_on count indexes before after on are in
    record {
      count = length-set indexes 0 first ∙ are.count;
      each = each_first (AreIndexesOf after) indexes first longer.each is;
    }

-- and those of one in which a round opens
pub indexes_for_opened : (trace : TraceTables) (rows : List Row) (start : List Entry) (round : Round) (count : ℕ) (indexes : List Indexes) → AreIndexesFor count start indexes
    → AreIndexesFor count (opened trace rows start round).history indexes
indexes_for_opened trace rows start round count indexes are = record {
  count = are.count;
  each = each_map (AreIndexesOf start) (AreIndexesOf (opened trace rows start round).history) (indexes_opened trace rows start round) indexes are.each;
}

if_some : (P Q : Plan → Type 0) → ((plan : Plan) → P plan → Q plan) → (o : Option Plan) → IfSome o P → IfSome o Q
if_some P Q f None holds = tt
if_some P Q f (Some plan) holds = f plan holds

module _ (old new : List Entry) where
  plan_without : (desk : DeskState) → GoesOnWithout desk.scheduler old new → (plan : Plan) → IsPlan old desk plan → IsPlan new desk plan
  plan_without desk on plan is =
      let longer = longer_without desk.scheduler old new on in
      let within : plan.seen ≤ length old = is.within in
      record {
        within = omega (arith, longer, within);
        txn = record {
          request = is.txn.request;
          rest = is.txn.rest;
          work = is.txn.work;
          is = is.txn.is ∙ attempt_without desk.scheduler old new on desk.settings plan.seen is.txn.request within;
        };
        few = is.few;
        seqs = is.seqs
            ∙ ap (λ (h : List Entry). map (λ (claim : Claim). seq h claim.machine) plan.txn.claims) (sym (front_without desk.scheduler old new on plan.seen within));
        listed = is.listed;
      }

  -- in a history that goes on without a commit of its scheduler, a worker has its plan still
  pub has_plan_without : (worker : Worker) → GoesOnWithout worker.desk.scheduler old new → HasPlan old worker → HasPlan new worker
  has_plan_without worker on = if_some (IsPlan old worker.desk) (IsPlan new worker.desk) (plan_without worker.desk on) worker.plan

module _ (settings : Settings) (before after : List Entry) (scheduler : ℕ) (old new : Worker) where
  -- another worker has its plan after a step
  plan_other : (stepped : Stepped) → WorkerSteps settings scheduler before old after new stepped
      → (number : ℕ) (worker : Worker) → worker.desk.scheduler ≡ number → number ≢ scheduler → HasPlan before worker → HasPlan after worker
  plan_other Idle did number worker own apart has = subst (λ (h : List Entry). HasPlan h worker) (sym did.history) has
  plan_other Synced did number worker own apart has = subst (λ (h : List Entry). HasPlan h worker) (sym did.history) has
  plan_other (Committed place) did number worker own apart has =
      let entry : Entry = attempt settings before scheduler did.seen did.request in
      has_plan_without before after worker (subst (λ (n : ℕ). GoesOnWithout n before after) (sym own) (record {
        later = entry ∷ [];
        goes_on = did.appended;
        others = commits_other number [] entry (ne_eqb scheduler number (λ same. apart (sym same)));
      })) has

  -- each worker has its plan after it
  pub plans_after : (stepped : Stepped) (workers : List Worker) → WorkerSteps settings scheduler before old after new stepped
      → HasPlan after new
      → ((number : ℕ) (worker : Worker) → slice_get workers number ≡ Some worker → IsWorker settings before number worker)
      → ((number : ℕ) (worker : Worker) → slice_get workers number ≡ Some worker → HasPlan before worker)
      → (number : ℕ) (worker : Worker) → slice_get (set workers scheduler new) number ≡ Some worker → HasPlan after worker
  plans_after stepped workers did now each_worker each number worker here = elim (set_cases workers scheduler new number worker here) [
    | inl same ↦ subst (λ (s : Worker). HasPlan after s) same.1 now
    | inr other ↦ plan_other stepped did number worker (each_worker number worker other.1).scheduler other.0 (each number worker other.1)
  ]

module _ (settings : Settings) (scheduler : ℕ) (before : List Entry) (old : Worker) (is : IsWorker settings before scheduler old) where
  -- a scheduler's worker that has its plan is ready for a step
  pub ready_at : IsInRange settings → scheduler < schedulers settings → HasPlan before old → IsReady old.desk before old
  ready_at range known plan = record {
    range = subst (λ (s : Settings). IsInRange s) (sym is.settings) range;
    known = subst (λ (n : ℕ). n < schedulers old.desk.settings) (sym is.scheduler)
        (subst (λ (s : Settings). scheduler < schedulers s) (sym is.settings) known);
    is_worker = subst (λ (s : Settings). IsWorker s before old.desk.scheduler old) (sym is.settings)
        (subst (λ (n : ℕ). IsWorker settings before n old) (sym is.scheduler) is);
    plan = plan;
  }

  -- who is ready beside a history for the scheduler's next step is the scheduler's worker there
  pub ready_for : (after : List Entry) (new : Worker) → IsReady old.desk after new → IsWorker settings after scheduler new
  ready_for after new ready =
      subst (λ (s : Settings). IsWorker s after scheduler new) is.settings
      (subst (λ (n : ℕ). IsWorker old.desk.settings after n new) is.scheduler ready.is_worker)

  -- what it does at its desk the scheduler does
  pub steps_for : (after : List Entry) (new : Worker) (stepped : Stepped) → WorkerSteps old.desk.settings old.desk.scheduler before old after new stepped
      → WorkerSteps settings scheduler before old after new stepped
  steps_for after new stepped did =
      subst (λ (s : Settings). WorkerSteps s scheduler before old after new stepped) is.settings
      (subst (λ (n : ℕ). WorkerSteps old.desk.settings n before old after new stepped) is.scheduler did)
