use Rattle.std.proofs.Common.{ℕ, Option, ◌∙◌, ap, set, sym}
use Rattle.omega_model.specs.declared.settings.Settings.{Settings}
use Rattle.omega_rounds.specs.Clocked.{next_at}
use Rattle.omega_rounds.proofs.InTime.{set_alone, set_in_turn}
use Rattle.omega_rounds.proofs.clock.sync_next.Goals as goal

pub returns-in-Some-clause-in_turn : goal.returns-in-Some-clause-in_turn
returns-in-Some-clause-in_turn c timed times stands =
    let left = c.left.result in
    let put = c.set.ensures
    ∙ ap (λ (entry : Option ℕ). set c.args.agenda.now c.args.scheduler entry)
    (sym c.in-Some.is ∙ c.in_ok-time.ensures ∙ ap (λ (settings : Settings). next_at settings c.args.scheduler left c.args.now) c.settings.ensures.is) in
    set_in_turn c.args.world.now c.step.new.self timed c.args.agenda.now c.set.new.self times c.args.now c.args.scheduler left c.in_ok-step.field-0
    c.requires.known c.in_ok-step.ensures.stage c.in_ok-step.ensures.step c.left.ensures.wishes put stands

pub returns-in-Some-clause-alone : goal.returns-in-Some-clause-alone
returns-in-Some-clause-alone c timed times stands =
    let left = c.left.result in
    let put = c.set.ensures
    ∙ ap (λ (entry : Option ℕ). set c.args.agenda.now c.args.scheduler entry)
    (sym c.in-Some.is ∙ c.in_ok-time.ensures ∙ ap (λ (settings : Settings). next_at settings c.args.scheduler left c.args.now) c.settings.ensures.is) in
    set_alone c.args.world.now c.step.new.self timed c.args.agenda.now c.set.new.self times c.args.now c.args.scheduler left c.in_ok-step.field-0
    c.requires.known c.in_ok-step.ensures.stage c.in_ok-step.ensures.step c.left.ensures.wishes put stands

pub returns-in-None-clause-in_turn : goal.returns-in-None-clause-in_turn
returns-in-None-clause-in_turn c timed times stands =
    let left = c.left.result in
    let put = c.clear.ensures
    ∙ ap (λ (entry : Option ℕ). set c.args.agenda.now c.args.scheduler entry)
    (sym c.in-None.is ∙ c.in_ok-time.ensures ∙ ap (λ (settings : Settings). next_at settings c.args.scheduler left c.args.now) c.settings.ensures.is) in
    set_in_turn c.args.world.now c.step.new.self timed c.args.agenda.now c.clear.new.self times c.args.now c.args.scheduler left c.in_ok-step.field-0
    c.requires.known c.in_ok-step.ensures.stage c.in_ok-step.ensures.step c.left.ensures.wishes put stands

pub returns-in-None-clause-alone : goal.returns-in-None-clause-alone
returns-in-None-clause-alone c timed times stands =
    let left = c.left.result in
    let put = c.clear.ensures
    ∙ ap (λ (entry : Option ℕ). set c.args.agenda.now c.args.scheduler entry)
    (sym c.in-None.is ∙ c.in_ok-time.ensures ∙ ap (λ (settings : Settings). next_at settings c.args.scheduler left c.args.now) c.settings.ensures.is) in
    set_alone c.args.world.now c.step.new.self timed c.args.agenda.now c.clear.new.self times c.args.now c.args.scheduler left c.in_ok-step.field-0
    c.requires.known c.in_ok-step.ensures.stage c.in_ok-step.ensures.step c.left.ensures.wishes put stands
