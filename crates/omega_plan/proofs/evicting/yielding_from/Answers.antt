use Rattle.std.proofs.Common.{◌≡◌, ℕ, Option, Some, None, length, ap, subst, ◌∙◌}
use Rattle.std.specs.Prelude.{option_map}
use Rattle.std.proofs.lemmas.List.{length-map}
use Rattle.std.proofs.lemmas.Result.{IfOk-weaker}
use Rattle.omega_plan.specs.Overlays.{cell_after}
use Rattle.omega_plan.specs.Telling.{freed_on}
use Rattle.omega_fit.specs.Positions.{Positions}
use Rattle.omega_fit.specs.Wrapped.{FirstBetween}
use Rattle.omega_fit.proofs.Firsts.{found_from_start, none_from_start}
use Rattle.omega_plan.specs.Trying.{IsFirstToYield, Yields}
use Rattle.omega_plan.specs.declared.evicting.Candidate.{Candidate}
use Rattle.omega_plan.proofs.evicting.yielding_from.Goals as goal

pub returns-in-Some-clause-first : goal.returns-in-Some-clause-first
unfolding IsFirstToYield
returns-in-Some-clause-first c =
    let cell = cell_after c.args.overlay.now in
    let wish = c.args.wish.now in
    let long : c.len.result ≡ length cell.machines = c.len.ensures ∙ ap (λ (i : Positions). length i.free) c.freed.ensures ∙ ap length c.requires.freed ∙ length-map cell.machines (freed_on wish.spec.prec cell.tasks) in
    found_from_start (Yields cell wish) c.args.begin (length cell.machines) c.in-Some.found.position c.requires.begin
    (subst (λ (n : ℕ). FirstBetween (Yields cell wish) c.args.begin n (Some c.in-Some.found.position)) long
    (subst (λ (o : Option Candidate). FirstBetween (Yields cell wish) c.args.begin c.len.result (option_map (λ (f : Candidate). f.position) o)) c.in-Some.is c.in_ok-found.ensures.first))

pub returns-in-None-clause-first : goal.returns-in-None-clause-first
unfolding IsFirstToYield
returns-in-None-clause-first c =
    let cell = cell_after c.args.overlay.now in
    let wish = c.args.wish.now in
    let long : c.len.result ≡ length cell.machines = c.len.ensures ∙ ap (λ (i : Positions). length i.free) c.freed.ensures ∙ ap length c.requires.freed ∙ length-map cell.machines (freed_on wish.spec.prec cell.tasks) in
    let none : FirstBetween (Yields cell wish) c.args.begin (length cell.machines) None =
    subst (λ (n : ℕ). FirstBetween (Yields cell wish) c.args.begin n None) long
    (subst (λ (o : Option Candidate). FirstBetween (Yields cell wish) c.args.begin c.len.result (option_map (λ (f : Candidate). f.position) o)) c.in-None.is c.in_ok-found.ensures.first) in
    IfOk-weaker c.yielding_between-in-None.result
    (λ (found : Option Candidate). FirstBetween (Yields cell wish) 0 c.args.begin (option_map (λ (f : Candidate). f.position) found))
    (λ (found : Option Candidate). IsFirstToYield cell wish c.args.begin (option_map (λ (f : Candidate). f.position) found))
    (λ found f. none_from_start (Yields cell wish) c.args.begin (length cell.machines) (option_map (λ (g : Candidate). g.position) found) c.requires.begin none f)
    c.yielding_between-in-None.ensures.first
