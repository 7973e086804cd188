use Rattle.std.proofs.Common.{rules, ◌≡◌, ◌∷◌, List, subst, sym}
use Rattle.omega_workers.specs.Forked.{AllHaveSyncedOrStay, AreReady}
use Rattle.omega_workers.specs.declared.worker.Worker.{Worker}
use Rattle.omega_workers.proofs.SyncedOrNot.{all_stay}
use Rattle.omega_workers.proofs.forked.+sync_each.Goals as goal

pub returns-in_err-sync_if_due-clause-workers : goal.returns-in_err-sync_if_due-clause-workers
returns-in_err-sync_if_due-clause-workers t c =
    let whole : c.args.workers.now ≡ c.in-Some.worker.now ∷ c.in-Some.rest.now = search rules in
    let ready = subst (AreReady c.args.cell.now.history) whole c.requires.ready in
    subst (λ (olds : List Worker). AllHaveSyncedOrStay c.args.cell.now.history olds (c.sync_if_due.new.self ∷ c.in-Some.rest.now)) (sym whole)
    (c.sync_if_due.ensures.may, all_stay c.args.cell.now.history c.in-Some.rest.now ready.1)
