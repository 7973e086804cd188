use Rattle.std.proofs.Common.{◌≡◌, ◌==◌, ℕ, Option, Some, IfSome, not, sym, subst, rules, ◌∙◌}
use Rattle.std.proofs.lemmas.List.{length-map}
use Rattle.omega_machines.specs.declared.MachineState.{MachineState}
use Rattle.omega_machines.specs.Table.{machines_of}
use Rattle.omega_plan.specs.Telling.{TellsOf}
use Rattle.omega_plan.proofs.Tells.{tells_joined, tells_none}
use Rattle.omega_plan.proofs.telling.tell_next.Goals as goal

pub returns-then-eq-clause-tells : goal.returns-then-eq-clause-tells
returns-then-eq-clause-tells c = λ stale told.
    let prec : ℕ = 0 in
    let tasks = c.args.board.now.tasks in
    let frees = c.args.index.now.free in
    let rows = machines_of c.args.board.now.table in
    let same : c.args.last ≡ Some c.args.machine = search rules in
    let own : TellsOf c.args.machine prec tasks frees rows = subst (λ (last : Option ℕ). IfSome last (λ one. TellsOf one prec tasks frees rows)) same c.requires.last in
    tells_joined stale c.args.machine prec tasks frees rows own told

pub returns-clause-own : goal.returns-clause-own
returns-clause-own c =
    let table = c.args.board.now.table in
    c.tell.ensures (λ id. not (c.args.machine == id))
    (tells_none c.args.machine 0 c.args.board.now.tasks c.args.index.now.free (machines_of table)
    (c.requires.long ∙ sym (length-map table (λ (s : MachineState). s.machine))))
