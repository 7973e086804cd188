use Rattle.std.proofs.Common.{ℕ, Option, Some, None, length, subst}
use Rattle.omega_plan.specs.Overlays.{cell_after}
use Rattle.omega_plan.specs.Kinds.{IsFull, MayBegin}
use Rattle.omega_plan.specs.Trying.{IsFirstToTake, Takes}
use Rattle.omega_plan.proofs.Begins.{begins_within, found_from, found_nowhere}
use Rattle.omega_plan.proofs.KindsOf.{takes_where_full}
use Rattle.omega_plan.proofs.trying.first_to_take.Goals as goal

pub first_from-requires-clause-begin : goal.first_from-requires-clause-begin
first_from-requires-clause-begin c =
    let cell = cell_after c.args.overlay.now in
    let progress = c.args.progress.now in
    let may : MayBegin (IsFull cell c.args.wish.now) progress.start (length cell.machines) (Some c.in-Some.begin) =
    subst (λ (begin : Option ℕ). MayBegin (IsFull cell c.args.wish.now) progress.start (length cell.machines) begin) c.in-Some.is c.requires.serves.as_is in
    begins_within (IsFull cell c.args.wish.now) progress.start (length cell.machines) c.in-Some.begin may

pub returns-in-Some-clause-first : goal.returns-in-Some-clause-first
unfolding IsFirstToTake
returns-in-Some-clause-first c =
    let cell = cell_after c.args.overlay.now in
    let progress = c.args.progress.now in
    let may : MayBegin (IsFull cell c.args.wish.now) progress.start (length cell.machines) (Some c.in-Some.begin) =
    subst (λ (begin : Option ℕ). MayBegin (IsFull cell c.args.wish.now) progress.start (length cell.machines) begin) c.in-Some.is c.requires.serves.as_is in
    found_from (IsFull cell c.args.wish.now) (Takes cell c.args.wish.now) progress.start (length cell.machines) c.in-Some.begin c.first_from.result
    c.requires.serves.start may (takes_where_full cell c.args.wish.now c.requires.absent) c.first_from.ensures.first

pub returns-in-None-clause-first : goal.returns-in-None-clause-first
unfolding IsFirstToTake
returns-in-None-clause-first c =
    let cell = cell_after c.args.overlay.now in
    let progress = c.args.progress.now in
    let may : MayBegin (IsFull cell c.args.wish.now) progress.start (length cell.machines) None =
    subst (λ (begin : Option ℕ). MayBegin (IsFull cell c.args.wish.now) progress.start (length cell.machines) begin) c.in-None.is c.requires.serves.as_is in
    found_nowhere (IsFull cell c.args.wish.now) (Takes cell c.args.wish.now) progress.start (length cell.machines) may (takes_where_full cell c.args.wish.now c.requires.absent)
