use Rattle.std.proofs.Common.{length, ap, ◌∙◌}
use Rattle.std.proofs.lemmas.List.{length-map}
use Rattle.omega_model.specs.Cell.{Cell}
use Rattle.omega_model.proofs.Lists.{each_map}
use Rattle.omega_machines.specs.Table.{machines_of}
use Rattle.omega_machines.specs.declared.MachineState.{MachineState}
use Rattle.omega_plan.specs.Levels.{TellsLate, no_number}
use Rattle.omega_plan.specs.Overlays.{tasks_with}
use Rattle.omega_plan.specs.Telling.{freed_on, is_this_or}
use Rattle.omega_plan.proofs.TellsAfter.{goes_claim, late_goes}
use Rattle.omega_plan.proofs.indexes.Indexes.tell_claim.Goals as goal

pub tell_claim-requires : goal.tell_claim-requires
tell_claim-requires c =
    let table = c.args.board.now.table in
    ap length c.requires.tell.free ∙ length-map (machines_of table) (freed_on 0 c.requires.tasks) ∙ length-map table (λ (s : MachineState). s.machine)

pub returns-clause-tell : goal.returns-clause-tell
returns-clause-tell c = λ tasks placed tell.
    let board = c.args.board.now in
    let claim = c.args.claim.now in
    let before : Cell = record { machines = machines_of board.table; tasks = tasks } in
    let after : Cell = record { machines = machines_of board.table; tasks = tasks_with tasks claim } in
    let changed = is_this_or claim.machine no_number in
    let noted = c.args.self.now.levels.changed.items in
    record {
      free = c.tell_claim.ensures tasks placed tell.free;
      levels = c.note.ensures after no_number
          (each_map (TellsLate no_number before noted) (TellsLate changed after noted)
          (λ level late. late_goes changed before after noted level (goes_claim board c.args.tenants.now claim tasks placed) late) c.args.self.now.levels.standing.items tell.levels);
    }
