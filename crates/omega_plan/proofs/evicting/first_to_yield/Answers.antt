use Rattle.std.proofs.Common.{ℕ, length, Option, Some, None, subst}
use Rattle.std.specs.Prelude.{option_map}
use Rattle.std.proofs.lemmas.Result.{IfOk-weaker}
use Rattle.omega_plan.specs.Overlays.{cell_after}
use Rattle.omega_plan.specs.Kinds.{MayBegin, StaysFull}
use Rattle.omega_plan.specs.Trying.{IsFirstToYield, Yields}
use Rattle.omega_plan.specs.declared.evicting.Candidate.{Candidate}
use Rattle.omega_plan.proofs.Begins.{begins_within, found_from, found_nowhere}
use Rattle.omega_plan.proofs.KindsOf.{yields_where_full}
use Rattle.omega_plan.proofs.evicting.first_to_yield.Goals as goal

pub returns-in_default-clause-first : goal.returns-in_default-clause-first
unfolding IsFirstToYield
returns-in_default-clause-first c =
    let cell = cell_after c.args.overlay.now in
    let wish = c.args.wish.now in
    let progress = c.args.progress.now in
    let may : MayBegin (StaysFull cell wish) progress.start (length cell.machines) None =
    subst (λ (begin : Option ℕ). MayBegin (StaysFull cell wish) progress.start (length cell.machines) begin) c.in_default.is c.requires.serves.evicting in
    found_nowhere (StaysFull cell wish) (Yields cell wish) progress.start (length cell.machines) may
    (yields_where_full cell wish c.requires.absent c.requires.ordered)

pub yielding_from-found-requires-clause-begin : goal.yielding_from-found-requires-clause-begin
yielding_from-found-requires-clause-begin c =
    let cell = cell_after c.args.overlay.now in
    let wish = c.args.wish.now in
    let progress = c.args.progress.now in
    let may : MayBegin (StaysFull cell wish) progress.start (length cell.machines) (Some c.in-Some.begin) =
    subst (λ (begin : Option ℕ). MayBegin (StaysFull cell wish) progress.start (length cell.machines) begin) c.in-Some.is c.requires.serves.evicting in
    begins_within (StaysFull cell wish) progress.start (length cell.machines) c.in-Some.begin may

pub returns-clause-first : goal.returns-clause-first
unfolding IsFirstToYield
returns-clause-first c =
    let cell = cell_after c.args.overlay.now in
    let wish = c.args.wish.now in
    let progress = c.args.progress.now in
    let may : MayBegin (StaysFull cell wish) progress.start (length cell.machines) (Some c.in-Some.begin) =
    subst (λ (begin : Option ℕ). MayBegin (StaysFull cell wish) progress.start (length cell.machines) begin) c.in-Some.is c.requires.serves.evicting in
    IfOk-weaker c.yielding_from-found.result
    (λ (found : Option Candidate). IsFirstToYield cell wish c.in-Some.begin (option_map (λ (f : Candidate). f.position) found))
    (λ (found : Option Candidate). IsFirstToYield cell wish progress.start (option_map (λ (f : Candidate). f.position) found))
    (λ found first. found_from (StaysFull cell wish) (Yields cell wish) progress.start (length cell.machines) c.in-Some.begin
    (option_map (λ (f : Candidate). f.position) found) c.requires.serves.start may (yields_where_full cell wish c.requires.absent c.requires.ordered) first)
    c.yielding_from-found.ensures.first

pub returns-clause-tell : goal.returns-clause-tell
returns-clause-tell c =
    c.take_back.ensures.tell (cell_after c.args.overlay.now) c.lend_level.ensures.tell c.in_ok-level.ensures.level
