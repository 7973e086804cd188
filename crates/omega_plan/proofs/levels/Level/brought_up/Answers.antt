use Rattle.std.proofs.Common.{◌≡◌, ◌-◌, drop, length, take, arith, sym, ap, ◌∙◌, subst}
use Rattle.std.proofs.Math.Bool.{or-false}
use Rattle.std.proofs.lemmas.List.{length-drop, take_all}
use Rattle.omega_machines.specs.Table.{machines_of}
use Rattle.omega_board.specs.Board.{BoardState}
use Rattle.omega_board.specs.Numbers.{is_among}
use Rattle.omega_plan.specs.Levels.{is_behind, no_number}
use Rattle.omega_plan.specs.Overlays.{tasks_claimed}
use Rattle.omega_plan.specs.Telling.{TellsBut, placed}
use Rattle.omega_plan.proofs.Tells.{tells_where}
use Rattle.omega_plan.proofs.levels.Level.brought_up.Goals as goal

pub tell_late-requires : goal.tell_late-requires
tell_late-requires c =
    let overlay = c.args.overlay.now in
    let level = c.args.self in
    let rows = machines_of overlay.board.table in
    let tasks = tasks_claimed overlay in
    let late = c.deref.result.now in
    let changed = c.args.changed.now in
    let since = drop level.told changed in
    let rest : take (length changed - level.told) since ≡ since = take_all (length changed - level.told) since (omega (arith, length-drop level.told changed)) in
    let grown : c.grow_to.new.index.free ≡ placed rows level.index.free =
    c.grow_to.ensures ∙ ap (placed (machines_of c.board-board.result.now.table)) c.in_ok-reserve.ensures.free
    ∙ ap (λ (b : BoardState). placed (machines_of b.table) level.index.free) c.board-board.ensures.board in
    subst (λ frees. TellsBut (is_among late) level.prec tasks frees rows) (sym grown)
    (tells_where (is_behind level.told changed no_number) (is_among late)
    (λ id out. or-false (is_among since id) ∙ sym (ap (λ ids. is_among ids id) rest) ∙ sym (c.in_ok-late.ensures id) ∙ sym (ap (λ ids. is_among ids id) c.deref.ensures.value) ∙ out)
    level.prec tasks (placed rows level.index.free) rows c.requires.told)
