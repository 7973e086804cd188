use Rattle.std.proofs.Common.{◌≡◌, ◌==◌, true, false, refl, sym, ap, ◌∙◌}
use Rattle.std.specs.List.{list_any}
use Rattle.std.specs.Prelude.{is_some}
use Rattle.omega_feed.proofs.Active.{has_activities}
use Rattle.omega_feed.proofs.jobs.home.Goals as goal

pub returns-in-Some : goal.returns-in-Some
returns-in-Some c =
    let named : list_any (λ row. row.job == c.args.job) c.args.activities.now ≡ true = sym (has_activities c.args.activities.now c.args.job) ∙ ap is_some (sym c.in-Some.ensures.activities) in
    rw named refl

pub returns-in-None : goal.returns-in-None
returns-in-None c =
    let named : list_any (λ row. row.job == c.args.job) c.args.activities.now ≡ false = sym (has_activities c.args.activities.now c.args.job) ∙ ap is_some (sym c.in-None.ensures.activities) in
    rw named c.scheduler_for.ensures
