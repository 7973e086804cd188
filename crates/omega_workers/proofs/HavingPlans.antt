-- What a worker has planned.
use Rattle.std.proofs.Common.{◌≡◌, ◌∙◌, ℕ, List, Option, Some, None, refl, sym, ap, subst}
use Rattle.std.specs.Prelude.{IfSome, option_map}
use Rattle.omega_model.specs.declared.entries.Entry.{Entry}
use Rattle.omega_workers.specs.Plans.{HasPlan, IsPlan}
use Rattle.omega_workers.specs.Workers.{synced_of}
use Rattle.omega_workers.specs.declared.plans.Plan.{Plan}
use Rattle.omega_workers.specs.declared.worker.Worker.{Worker}

no_plan : (plan : Option Plan) → option_map (λ (p : Plan). p.seen) plan ≡ None → plan ≡ None
no_plan None none = refl
no_plan (Some plan) none = absurd (cc)

-- who hasn't synced has no plan
pub unplanned : (worker : Worker) → synced_of worker ≡ None → worker.plan ≡ None
unplanned worker none = no_plan worker.plan none

-- who has no plan hasn't synced
pub unsynced : (worker : Worker) → worker.plan ≡ None → synced_of worker ≡ None
unsynced worker none = ap (option_map (λ (plan : Plan). plan.seen)) none

-- who hasn't synced needs no plan
pub plan_none : (history : List Entry) (worker : Worker) → synced_of worker ≡ None → HasPlan history worker
plan_none history worker none = subst (λ (plan : Option Plan). IfSome plan (IsPlan history worker.desk)) (sym (unplanned worker none)) tt

-- who has synced has a plan
pub plan_missing : (worker : Worker) (seen : ℕ) → synced_of worker ≡ Some seen → None ≡ worker.plan → ⊥
plan_missing worker seen synced none = let clash : None ≡ Some seen = sym (unsynced worker (sym none)) ∙ synced in absurd (cc)

-- what a worker has planned is its plan
pub plan_there : (history : List Entry) (worker : Worker) (plan : Plan) → HasPlan history worker → Some plan ≡ worker.plan → IsPlan history worker.desk plan
plan_there history worker plan has there = subst (λ (o : Option Plan). IfSome o (IsPlan history worker.desk)) (sym there) has

-- and so much its scheduler has seen
pub seen_there : (worker : Worker) (plan : Plan) → Some plan ≡ worker.plan → synced_of worker ≡ Some plan.seen
seen_there worker plan there = ap (option_map (λ (p : Plan). p.seen)) (sym there)
