use Rattle.std.proofs.Common.{Bor, ◌∙◌, sym, ap}
use Rattle.std.specs.Prelude.{option_map}
use Rattle.omega_model.specs.declared.wishes.Request.{Request}
use Rattle.omega_workers.proofs.Attempted.{planned_over}
use Rattle.omega_workers.proofs.WorkerCommits.{first_none}
use Rattle.omega_workers.proofs.attempt.attempt_txn.Goals as goal

pub unreachable-requires : goal.unreachable-requires
unreachable-requires c =
    c.requires.may.work (first_none c.args.desk.now.requests
    (sym (ap (option_map (λ (r : Bor Request). r.now)) c.in_default.is) ∙ c.present.ensures))

pub returns-clause-txn : goal.returns-clause-txn
returns-clause-txn c =
    planned_over c.args.desk.now c.args.board.now c.in-Some.request.now c.start_on-start.result c.policy.result c.in_ok-txn.txn
    (sym (ap (option_map (λ (r : Bor Request). r.now)) c.in-Some.is) ∙ c.present.ensures)
    c.start_on-start.ensures.drawn c.policy.ensures c.in_ok-txn.ensures.job c.in_ok-txn.ensures.rule c.in_ok-txn.ensures.mode c.in_ok-txn.ensures.claims
