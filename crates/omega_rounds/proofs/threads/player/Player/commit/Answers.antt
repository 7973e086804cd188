use Rattle.std.proofs.Common.{ℕ, refl, subst}
use Rattle.omega_shared.specs.Turns.{Commits}
use Rattle.omega_workers.proofs.HavingPlans.{plan_there, unsynced}
use Rattle.omega_rounds.proofs.PlayingOn.{planned_all, plans_first, plays_on_commit, plays_on_none, takes_answers}
use Rattle.omega_rounds.proofs.Without.{indexes_without}
use Rattle.omega_rounds.specs.declared.threads.player.Player.{Player}
use Rattle.omega_rounds.proofs.threads.player.Player.commit.Goals as goal

pub commit_planned-requires-clause-few : goal.commit_planned-requires-clause-few
commit_planned-requires-clause-few g c = (plan_there c.args.self.now.pass.seen c.args.self.now.worker c.in-Some.field-0 c.requires.plan c.in-Some.ensures.value).few

pub commit_planned-requires-clause-seen : goal.commit_planned-requires-clause-seen
commit_planned-requires-clause-seen g c = (plan_there c.args.self.now.pass.seen c.args.self.now.worker c.in-Some.field-0 c.requires.plan c.in-Some.ensures.value).within

pub commit_planned-requires-clause-seqs : goal.commit_planned-requires-clause-seqs
commit_planned-requires-clause-seqs g c = (plan_there c.args.self.now.pass.seen c.args.self.now.worker c.in-Some.field-0 c.requires.plan c.in-Some.ensures.value).seqs

pub returns-in_default-commit_planned-clause-plays_on : goal.returns-in_default-commit_planned-clause-plays_on
returns-in_default-commit_planned-clause-plays_on g c =
    let was : Player = c.args.self.now in
    let others = c.in_default-commit_planned.ensures.seen in
    plays_on_none was
    (record { worker = record { desk = was.worker.desk; plan = c.take.new.self }; indexes = was.indexes; pass = c.commit_planned.new.pass; failed = was.failed })
    c.requires.synced.worker c.commit_planned.ensures.turn others refl
    (indexes_without was.pass.number was.pass.seen c.commit_planned.new.pass.seen others was.indexes c.requires.synced.indexes)
    c.take.ensures.after

pub take-requires-2-clause-answers : goal.take-requires-2-clause-answers
take-requires-2-clause-answers g c =
    let was : Player = c.args.self.now in
    let plan = c.in-Some.field-0 in
    let all = planned_all c.args.shared.now.of was plan c.requires.synced c.in-Some.ensures.value in
    takes_answers was c.requires.synced.worker c.commit_planned.new.pass plan.txn c.in-Ok.reply
    (plans_first was plan c.requires.synced.worker all (plan_there was.pass.seen was.worker plan c.requires.plan c.in-Some.ensures.value))
    (subst (λ (n : ℕ). Commits was.pass c.commit_planned.new.pass n plan.txn c.in-Ok.reply) all c.in-Ok.ensures.commits)

pub take-requires-2-clause-listed : goal.take-requires-2-clause-listed
take-requires-2-clause-listed g c = (plan_there c.args.self.now.pass.seen c.args.self.now.worker c.in-Some.field-0 c.requires.plan c.in-Some.ensures.value).listed

pub returns-clause-plays_on : goal.returns-clause-plays_on
returns-clause-plays_on g c =
    let was : Player = c.args.self.now in
    let plan = c.in-Some.field-0 in
    let all = planned_all c.args.shared.now.of was plan c.requires.synced c.in-Some.ensures.value in
    let after : Player = record { worker = record { desk = c.take-2.new.self; plan = c.take.new.self }; indexes = was.indexes; pass = c.commit_planned.new.pass; failed = was.failed } in
    plays_on_commit was after plan.txn c.in-Ok.reply
    (record {
      shared = c.args.shared.now.of;
      synced = c.requires.synced;
      plans = plans_first was plan c.requires.synced.worker all (plan_there was.pass.seen was.worker plan c.requires.plan c.in-Some.ensures.value);
      turn = c.commit_planned.ensures.turn;
      commits = subst (λ (n : ℕ). Commits was.pass c.commit_planned.new.pass n plan.txn c.in-Ok.reply) all c.in-Ok.ensures.commits;
      same = c.take-2.ensures.desk;
      attempts = c.take-2.ensures.attempts;
      moved = c.take-2.ensures.left;
      indexes = refl;
      spent = c.take.ensures.after;
    })

pub returns-clause-spent : goal.returns-clause-spent
returns-clause-spent g c =
    unsynced (record { desk = c.take-2.new.self; plan = c.take.new.self }) c.take.ensures.after
