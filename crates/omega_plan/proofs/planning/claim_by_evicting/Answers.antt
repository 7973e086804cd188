use Rattle.std.proofs.Common.{◌<◌, Bool, true, Option, Some, None, IfSome, length, sym, subst}
use Rattle.std.specs.Prelude.{option_map}
use Rattle.std.proofs.lemmas.List.{length-map}
use Rattle.omega_machines.specs.declared.MachineState.{MachineState}
use Rattle.omega_plan.specs.Overlays.{cell_after}
use Rattle.omega_plan.specs.Steps.{IsStep}
use Rattle.omega_plan.specs.Trying.{AreVictimsAt, IsFirstToYield}
use Rattle.omega_plan.specs.declared.evicting.Candidate.{Candidate}
use Rattle.omega_plan.specs.declared.progress.Progress.{Progress}
use Rattle.omega_plan.proofs.StepsOf.{step_evicting, step_full, step_least, step_stays_full}
use Rattle.omega_plan.proofs.planning.claim_by_evicting.Goals as goal

pub returns-then-not-preempts-clause-step : goal.returns-then-not-preempts-clause-step
returns-then-not-preempts-clause-step c =
    let cell = cell_after c.args.overlay.now in
    subst (λ (b : Bool). IsStep cell c.args.wish.now b c.args.progress (record { claim = None; progress = c.args.progress })) (sym c.if-not-preempts.true)
    (step_full cell c.args.wish.now c.args.progress c.requires.serves c.requires.full)

pub returns-in-Some-clause-step : goal.returns-in-Some-clause-step
returns-in-Some-clause-step c =
    let table = c.args.overlay.now.board.table in
    let cell = cell_after c.args.overlay.now in
    let wish = c.args.wish.now in
    let progress = c.args.progress in
    let found = c.in-Some.found in
    let first : IsFirstToYield cell wish progress.start (Some found.position) =
    subst (λ (o : Option Candidate). IsFirstToYield cell wish progress.start (option_map (λ (f : Candidate). f.position) o)) c.in-Some.is c.in_ok-found.ensures.first in
    let victims : AreVictimsAt cell wish found.position (Some found.victims) =
    subst (λ (o : Option Candidate). IfSome o (λ (f : Candidate). AreVictimsAt cell wish f.position (Some f.victims))) c.in-Some.is c.in_ok-found.ensures.victims in
    let within : found.position < length table =
    subst (λ (o : Option Candidate). IfSome o (λ (f : Candidate). f.position < length table)) c.in-Some.is c.in_ok-found.ensures.below in
    let below : found.position < length cell.machines =
    subst (λ n. found.position < n) (sym (length-map table (λ (s : MachineState). s.machine))) within in
    subst (λ (p : Progress). IsStep cell wish c.args.preempts progress (record { claim = Some c.claim_at.result; progress = p })) (sym c.evicted.ensures)
    (subst (λ (b : Bool). IsStep cell wish b progress
    (record { claim = Some c.claim_at.result; progress = record progress { as_is = Some found.position; evicting = Some found.position } })) (sym c.if-not-preempts.false)
    (step_evicting cell wish progress c.requires.serves c.requires.ordered c.requires.sound.numbers c.requires.absent true found.position below
    c.claim_at.result c.requires.full first found.victims victims c.claim_at.ensures))

pub returns-in-None-clause-step : goal.returns-in-None-clause-step
returns-in-None-clause-step c =
    let cell = cell_after c.args.overlay.now in
    let wish = c.args.wish.now in
    let progress = c.args.progress in
    let none : IsFirstToYield cell wish progress.start None =
    subst (λ (o : Option Candidate). IsFirstToYield cell wish progress.start (option_map (λ (f : Candidate). f.position) o)) c.in-None.is c.in_ok-found.ensures.first in
    subst (λ (p : Progress). IsStep cell wish c.args.preempts progress (record { claim = None; progress = p })) (sym c.stays_full.ensures)
    (subst (λ (b : Bool). IsStep cell wish b progress (record { claim = None; progress = record progress { evicting = None } })) (sym c.if-not-preempts.false)
    (step_stays_full cell wish progress c.requires.serves c.requires.ordered c.requires.absent c.requires.full none))

pub returns-then-wish-eq0-clause-step : goal.returns-then-wish-eq0-clause-step
returns-then-wish-eq0-clause-step c =
    step_least (cell_after c.args.overlay.now) c.args.wish.now c.args.progress c.requires.serves c.requires.ordered c.requires.absent c.if-wish-eq0.true c.requires.full c.args.preempts
