use Rattle.std.proofs.Common.{◌≡◌, ◌≤◌, List, length, map, sym, ap, ◌∙◌, subst}
use Rattle.omega_model.specs.Cell.{Cell}
use Rattle.omega_model.specs.Copy.{StandsFor, Carries}
use Rattle.omega_model.specs.declared.delta.Part.{Part}
use Rattle.omega_machines.specs.Table.{seq_at}
use Rattle.omega_board.specs.Board.{cell_of}
use Rattle.omega_board.specs.Parts.{MayPut, LeadTo}
use Rattle.omega_plan.specs.Indexes.{TellAll}
use Rattle.omega_plan.proofs.Told.{same_cell}
use Rattle.omega_copy.specs.Copies.{CopyState, CopyOf, MayCatchUp}
use Rattle.omega_plan.proofs.Leading.{target_of, leads, stands_at, may_tell_parts}
use Rattle.omega_copy.proofs.copy.PrivateCopy.catch_up.Goals as goal

pub put_parts-requires : goal.put_parts-requires
put_parts-requires c =
    let board = c.self.inside.board in
    let delta = c.args.delta in
    let may = subst (λ (copy : CopyState). MayCatchUp copy delta) (sym c.self.view_is) c.requires.history in
    subst (MayPut board) (sym c.into_parts-parts.ensures) (record {
      target = target_of may.history c.self.inside.indexes.seen delta.to;
      leads = leads may.history c.self.inside.indexes.seen delta.to may.carries.order may.applied board delta may.stands may.carries;
    })

pub invariant_of-self-in_err-put_parts : goal.invariant_of-self-in_err-put_parts
invariant_of-self-in_err-put_parts c =
    let board = c.self.inside.board in
    let after = c.put_parts.new.self in
    subst (λ (cell : Cell). TellAll cell c.reserve.new.self) (same_cell board after c.in_err-put_parts.ensures.table c.in_err-put_parts.ensures.tasks)
    (c.reserve.ensures.kept (cell_of board) c.self.invariant)

pub tell_machines-requires : goal.tell_machines-requires
tell_machines-requires c =
    let board = c.self.inside.board in
    let delta = c.args.delta in
    let may = subst (λ (copy : CopyState). MayCatchUp copy delta) (sym c.self.view_is) c.requires.history in
    let target = target_of may.history c.self.inside.indexes.seen delta.to in
    let lead = leads may.history c.self.inside.indexes.seen delta.to may.carries.order may.applied board delta may.stands may.carries in
    let at = c.in_ok-put_parts.ensures.put target (subst (λ (parts : List Part). LeadTo board parts target) (sym c.into_parts-parts.ensures) lead) in
    let many : c.len.result ≡ length delta.parts = c.len.ensures ∙ ap length c.into_parts-parts.ensures in
    record {
      may = may_tell_parts board c.put_parts.new.self delta.parts target lead at c.reserve.new.self c.deref.result.now (c.reserve.ensures.kept (cell_of board) c.self.invariant)
          (subst (λ n. n ≤ c.reserve.new.self.index.spare) many c.in_ok-reserve.ensures.room.free)
          (c.deref.ensures.value ∙ c.in_ok-machines.ensures ∙ ap (map (λ (part : Part). part.machine.id)) (c.as_slice.ensures ∙ c.into_parts-parts.ensures));
    }

pub returns-clause-stands : goal.returns-clause-stands
returns-clause-stands c = λ history stands carries applied.
    let board = c.self.inside.board in
    let delta = c.args.delta in
    let seen = c.self.inside.indexes.seen in
    let here = subst (λ (copy : CopyState). CopyOf copy history) (sym c.self.view_is) stands in
    let carried = subst (λ (copy : CopyState). Carries delta history copy.seen delta.to) (sym c.self.view_is) carries in
    let target = target_of history seen delta.to in
    let lead = leads history seen delta.to carried.order applied board delta here carried in
    let at = c.in_ok-put_parts.ensures.put target (subst (λ (parts : List Part). LeadTo board parts target) (sym c.into_parts-parts.ensures) lead) in
    subst (λ n. StandsFor (cell_of c.put_parts.new.self) (seq_at c.put_parts.new.self.table) n history) (sym (c.tell_machines.ensures.seen ∙ c.to-to.ensures))
    (stands_at c.put_parts.new.self history seen delta.to carried.within at)
