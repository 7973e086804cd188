use Rattle.std.proofs.Common.{◌≡◌, ◌∙◌, List, rules, ap, map}
use Rattle.std.specs.Prelude.{slice_get}
use Rattle.std.proofs.lemmas.List.Elements.{All-same}
use Rattle.omega_lock.specs.Seats.{new_seats}
use Rattle.omega_shared.specs.Passes.{IsPassSeat, PassState, pass_at}
use Rattle.omega_shared.proofs.NewPasses.{are_new, at_new, passes_at}
use Rattle.omega_shared.proofs.shared.SharedCell.share.Goals as goal

pub passes_of-passes-requires-clause-seats : goal.passes_of-passes-requires-clause-seats
passes_of-passes-requires-clause-seats g c =
    let seats : c.in-Ok-begin.seats.items ≡ new_seats c.in-Ok-begin.lock.of c.args.turns c.args.cell.history c.args.callers =
    search (rules, c.in-Ok-begin.ensures.seats) in
    All-same IsPassSeat c.in-Ok-begin.seats.items (new_seats c.in-Ok-begin.lock.of c.args.turns c.args.cell.history c.args.callers) seats
    (are_new c.in-Ok-begin.lock.of c.args.turns c.args.cell.history c.args.callers)

pub returns-in-Ok-begin-clause-passes : goal.returns-in-Ok-begin-clause-passes
returns-in-Ok-begin-clause-passes g c =
    let seats : c.in-Ok-begin.seats.items ≡ new_seats c.in-Ok-begin.lock.of c.args.turns c.args.cell.history c.args.callers =
    search (rules, c.in-Ok-begin.ensures.seats) in
    c.passes_of-passes.ensures ∙ ap (map pass_at) seats ∙ at_new c.in-Ok-begin.lock.of c.args.turns c.args.cell.history c.args.callers

pub returns-in-Ok-begin-clause-pass : goal.returns-in-Ok-begin-clause-pass
returns-in-Ok-begin-clause-pass g c = λ i within.
    ap (λ (passes : List PassState). slice_get passes i) (returns-in-Ok-begin-clause-passes g c)
    ∙ passes_at c.in-Ok-begin.lock.of c.args.turns c.args.cell.history c.args.callers i within
