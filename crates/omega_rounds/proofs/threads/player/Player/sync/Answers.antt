use Rattle.std.proofs.Common.{◌≡◌, ◌∙◌, ◌+◌, ◌<◌, ◌^◌, ℕ, None, Some, List, length, refl, sym, ap, ap₂, subst, arith}
use Rattle.omega_plan.specs.Indexes.{AreIndexesOf}
use Rattle.omega_model.specs.Work.{commits_of}
use Rattle.omega_model.specs.declared.entries.Entry.{Entry}
use Rattle.omega_workers.specs.Plans.{IsPlan}
use Rattle.omega_rounds.proofs.PlayingOn.{plays_on_without}
use Rattle.omega_rounds.proofs.Without.{commits_without, indexes_without}
use Rattle.omega_rounds.proofs.threads.player.Player.sync.Goals as goal

pub plan_first-requires-clause-up_to : goal.plan_first-requires-clause-up_to
plan_first-requires-clause-up_to g c =
    let same : c.cell.result.now.history ≡ c.look.new.pass.seen = c.cell.ensures ∙ c.in_ok-view.ensures.view in
    let is = c.requires.may_play.worker in
    is.attempts
    ∙ sym (commits_without c.args.self.now.pass.number c.args.self.now.pass.seen c.look.new.pass.seen c.look.ensures.seen)
    ∙ ap₂ commits_of (sym is.scheduler) (sym same)

pub returns-in_err-view-clause-plays_on : goal.returns-in_err-view-clause-plays_on
returns-in_err-view-clause-plays_on g c =
    plays_on_without c.args.self.now
    (record { worker = record { desk = c.args.self.now.worker.desk; plan = None }; indexes = c.args.self.now.indexes; pass = c.look.new.pass; failed = c.args.self.now.failed })
    c.requires.may_play.worker c.look.ensures.turn c.look.ensures.seen refl
    (indexes_without c.args.self.now.pass.number c.args.self.now.pass.seen c.look.new.pass.seen c.look.ensures.seen c.args.self.now.indexes c.requires.may_play.indexes) tt

pub returns-in_err-plan-clause-plays_on : goal.returns-in_err-plan-clause-plays_on
returns-in_err-plan-clause-plays_on g c =
    let same : c.cell.result.now.history ≡ c.look.new.pass.seen = c.cell.ensures ∙ c.in_ok-view.ensures.view in
    plays_on_without c.args.self.now
    (record { worker = record { desk = c.args.self.now.worker.desk; plan = None }; indexes = c.plan_first.new.indexes; pass = c.look.new.pass; failed = c.args.self.now.failed })
    c.requires.may_play.worker c.look.ensures.turn c.look.ensures.seen refl
    (subst (λ (h : List Entry). AreIndexesOf h c.plan_first.new.indexes) same c.plan_first.ensures.indexes) tt

pub returns-clause-plays_on : goal.returns-clause-plays_on
returns-clause-plays_on g c =
    let same : c.cell.result.now.history ≡ c.look.new.pass.seen = c.cell.ensures ∙ c.in_ok-view.ensures.view in
    let all : c.in_ok-plan.plan.seen ≡ length c.look.new.pass.seen = c.in_ok-plan.ensures.seen ∙ ap (λ (h : List Entry). length h) same in
    plays_on_without c.args.self.now
    (record { worker = record { desk = c.args.self.now.worker.desk; plan = Some c.in_ok-plan.plan }; indexes = c.plan_first.new.indexes; pass = c.look.new.pass; failed = c.args.self.now.failed })
    c.requires.may_play.worker c.look.ensures.turn c.look.ensures.seen refl
    (subst (λ (h : List Entry). AreIndexesOf h c.plan_first.new.indexes) same c.plan_first.ensures.indexes) (omega (arith, all))

pub returns-clause-all : goal.returns-clause-all
returns-clause-all g c =
    let same : c.cell.result.now.history ≡ c.look.new.pass.seen = c.cell.ensures ∙ c.in_ok-view.ensures.view in
    ap (λ (n : ℕ). Some n) (c.in_ok-plan.ensures.seen ∙ ap (λ (h : List Entry). length h) same)

pub returns-clause-plan : goal.returns-clause-plan
returns-clause-plan g c =
    let same : c.cell.result.now.history ≡ c.look.new.pass.seen = c.cell.ensures ∙ c.in_ok-view.ensures.view in
    subst (λ (h : List Entry). IsPlan h c.args.self.now.worker.desk c.in_ok-plan.plan) same c.in_ok-plan.ensures.plan

pub returns-clause-short : goal.returns-clause-short
returns-clause-short g c =
    let same : c.cell.result.now.history ≡ c.look.new.pass.seen = c.cell.ensures ∙ c.in_ok-view.ensures.view in
    subst (λ (h : List Entry). length h + 1 < 2 ^ 64) same c.in_ok-plan.ensures.short
