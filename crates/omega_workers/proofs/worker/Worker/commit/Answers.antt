use Rattle.std.proofs.Common.{◌∷◌, ◌++◌, ◌∙◌, ℕ, [], List, sym, ap}
use Rattle.std.specs.Prelude.{slice_get}
use Rattle.omega_model.specs.State.{reply_of}
use Rattle.omega_model.specs.Work.{outcomes_of}
use Rattle.omega_model.specs.declared.claims.Txn.{Txn}
use Rattle.omega_model.specs.declared.entries.Entry.{Entry}
use Rattle.omega_model.specs.declared.entries.Entry.TheVariants.{Commit}
use Rattle.omega_model.specs.declared.wishes.Request.{Request}
use Rattle.omega_desk.specs.Desks.{DeskState}
use Rattle.omega_workers.proofs.HavingPlans.{plan_none, plan_there, seen_there, unsynced}
use Rattle.omega_workers.proofs.WorkerCommits.{answers_first, worker_after}
use Rattle.omega_workers.proofs.worker.Worker.commit.Goals as goal

pub take-requires-in-Ok-clause-answers : goal.take-requires-in-Ok-clause-answers
take-requires-in-Ok-clause-answers c =
    let desk : DeskState = c.args.self.now.desk in
    let first = (plan_there c.args.cell.now.history c.args.self.now c.in-Some.field-0 c.requires.ready.plan c.in-Some.ensures.value).txn in
    answers_first desk.settings desk.scheduler c.args.cell.now.history c.reserve.new.self.history c.in-Some.field-0.seen desk.requests
    first.request c.in-Ok.prepared c.commit-reply.result.outcomes
    (sym (ap (λ (requests : List Request). slice_get requests 0) first.work))
    (c.in-Ok.ensures.txn ∙ first.is) c.commit-reply.ensures.outcomes

pub take-requires-in-Ok-clause-listed : goal.take-requires-in-Ok-clause-listed
take-requires-in-Ok-clause-listed c =
    (plan_there c.args.cell.now.history c.args.self.now c.in-Some.field-0 c.requires.ready.plan c.in-Some.ensures.value).listed

pub returns-in-Ok-clause-ready : goal.returns-in-Ok-clause-ready
returns-in-Ok-clause-ready c = record {
  range = c.requires.ready.range;
  known = c.requires.ready.known;
  is_worker =
      (let desk : DeskState = c.args.self.now.desk in
      let first = (plan_there c.args.cell.now.history c.args.self.now c.in-Some.field-0 c.requires.ready.plan c.in-Some.ensures.value).txn in
      let txn : Txn = c.in-Ok.prepared in
      let same = c.reserve.ensures.history in
      worker_after desk.settings desk.scheduler c.args.cell.now.history c.commit-reply.new.self.history c.args.self.now c.take-in-Ok.new.self first.request
      txn c.commit-reply.result.outcomes
      (record {
        worker = c.requires.ready.is_worker;
        seen = c.in-Some.field-0.seen;
        synced = seen_there c.args.self.now c.in-Some.field-0 c.in-Some.ensures.value;
        tries = c.requires.ready.range.tries.0;
        first = sym (ap (λ (requests : List Request). slice_get requests 0) first.work);
        is = c.in-Ok.ensures.txn ∙ first.is;
        appended = c.commit-reply.ensures.history
            ∙ ap (λ (n : ℕ). c.reserve.new.self.history ++ Commit n c.in-Some.field-0.seen txn (reply_of c.reserve.new.self.history c.in-Some.field-0.seen txn) ∷ []) c.scheduler-scheduler.ensures
            ∙ ap (λ (h : List Entry). h ++ Commit desk.scheduler c.in-Some.field-0.seen txn (reply_of h c.in-Some.field-0.seen txn) ∷ []) same;
        outcome = c.commit-reply.ensures.outcomes ∙ ap (λ (h : List Entry). outcomes_of txn.claims (reply_of h c.in-Some.field-0.seen txn)) same;
        same = c.take-in-Ok.ensures.desk;
        attempts = c.take-in-Ok.ensures.attempts;
        moved = c.take-in-Ok.ensures.left;
      }) c.take.new.self c.take.ensures.after);
  plan = plan_none c.commit-reply.new.self.history (record { desk = c.take-in-Ok.new.self; plan = c.take.new.self })
      (unsynced (record { desk = c.take-in-Ok.new.self; plan = c.take.new.self }) c.take.ensures.after);
}
