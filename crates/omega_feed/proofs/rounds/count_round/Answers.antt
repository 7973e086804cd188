use Rattle.std.proofs.Common.{◌≡◌, ◌<◌, ◌≤◌, ◌/◌, ap, arith, drop, get_or, subst, sym, ◌∙◌}
use Rattle.std.specs.List.{AllByRecursion as Each}
use Rattle.omega_feed.proofs.Parting.{later_from}
use Rattle.omega_model.proofs.Lists.{each_at}
use Rattle.omega_feed.proofs.rounds.count_round.Goals as goal

pub returns-then-time-window-clause-later : goal.returns-then-time-window-clause-later
returns-then-time-window-clause-later g c =
    let time = g.R.HasTime.time in
    let window = c.args.window in
    let number = c.args.number in
    let rows = c.args.rows.now in
    let place = c.loop-row.row-index in
    let row = c.row-item.result in
    let reached : number ≤ time (get_or rows place row) / window =
    each_at (λ r. number ≤ time r / window) rows place row c.requires.reached c.loop-row-test.true in
    let other : (time (get_or rows place row) / window ≡ number) → ⊥ =
    λ is. c.if-time-window.true (ap (λ t. t / window) (c.time.ensures ∙ ap time c.row-item.is) ∙ is) in
    subst (λ i. Each (λ r. number < time r / window) (drop i rows)) (sym c.loop-row.invariant.count)
    (later_from time window number c.requires.window rows place row c.loop-row-test.true c.requires.order (omega (arith, reached, other)))
