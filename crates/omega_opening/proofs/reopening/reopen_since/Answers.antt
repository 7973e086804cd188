use Rattle.std.proofs.Common.{◌≡◌, ◌-◌, ◌∙◌, List, drop, length, take, ap}
use Rattle.std.proofs.lemmas.List.{take_rest}
use Rattle.omega_model.proofs.Answering.{if_ok_weaker}
use Rattle.omega_model.specs.State.{state}
use Rattle.omega_model.specs.declared.entries.Entry.{Entry}
use Rattle.omega_opening.proofs.Reopened.{since_place}
use Rattle.omega_opening.proofs.reopening.reopen_since.Goals as goal

pub returns-clause-quiet : goal.returns-clause-quiet
returns-clause-quiet c =
    let n = c.args.opened_at in
    let entries : List Entry = c.history.result.now in
    let history : List Entry = c.args.cell.now.history in
    let rest : take (length entries - n) (drop n entries) ≡ drop n history =
    take_rest entries n ∙ ap (drop n) c.history.ensures.history in
    if_ok_weaker _ _ c.reopen_all.result
    (λ done quiet. since_place c.reopen_all.new.open_jobs c.args.demand.now.wanted n history (take (length entries - n) (drop n entries)) rest quiet)
    (c.reopen_all.ensures (state (take n history)) c.requires.quiet)
