-- A transaction that was planned on a copy or a view.
use Rattle.std.specs.Prelude.{◌≡◌, ◌≤◌, ◌<◌, ◌^◌, List, length, IfOk}
use Rattle.omega_model.specs.Touches.{copied_seqs}
use Rattle.omega_model.specs.declared.entries.Entry.{Entry}
use Rattle.omega_shared.specs.declared.planned.PlannedTxn.{PlannedTxn}

-- a transaction may be committed as of the first `seen` entries of a history: it has fewer claims than a withdrawn
-- claim can name, and its sequence numbers, if there was memory for them, are those that the claims' machines have
-- there. That its claims are a plan is not asked
pub record IsPlannedOn (history : List Entry) (planned : PlannedTxn) : Type 0 where
  pub few : length planned.txn.claims < 2 ^ 32
  pub seen : planned.seen ≤ length history
  pub seqs : IfOk planned.seqs (λ numbers. numbers.items ≡ copied_seqs history planned.seen planned.txn.claims)
