use Rattle.std.proofs.Common.{◌≡◌, ◌<◌, ◌-◌, ◌+◌, ◌∷◌, ◌==◌, [], List, ℕ, false, drop, get_or, length, arith, ap, sym, subst, ◌∙◌}
use Rattle.std.proofs.lemmas.Bool.{both_ways, eq-eqb, eqb-true}
use Rattle.std.proofs.lemmas.List.{drop_all, drop_more}
use Rattle.std.proofs.lemmas.Result.{on_ok_weaker}
use Rattle.omega_machines.specs.Table.{machines_of}
use Rattle.omega_board.specs.Numbers.{is_among}
use Rattle.omega_plan.specs.Levels.{no_number}
use Rattle.omega_plan.specs.Overlays.{tasks_claimed}
use Rattle.omega_plan.specs.Telling.{TellsBut}
use Rattle.omega_plan.proofs.Tells.{told_all, told_states}
use Rattle.omega_plan.proofs.levels.tell_late.Goals as goal

pub returns-then-is_empty-clause-told : goal.returns-then-is_empty-clause-told
returns-then-is_empty-clause-told c =
    let overlay = c.args.overlay.now in
    let machines = c.args.machines.now in
    let none : length machines ≡ 0 = eqb-true _ _ (sym c.is_empty.ensures ∙ c.if-is_empty.true) in
    told_all c.args.prec (tasks_claimed overlay) c.args.index.now.free (machines_of overlay.board.table)
    (subst (λ ids. TellsBut (is_among ids) c.args.prec (tasks_claimed overlay) c.args.index.now.free (machines_of overlay.board.table)) (drop_all 0 machines (omega (arith, none))) c.requires)

pub tell_last-requires : goal.tell_last-requires
tell_last-requires c =
    told_states _ c.args.prec (tasks_claimed c.args.overlay.now) c.tell_first.new.index.free c.args.overlay.now.board.table c.tell_first.ensures

pub returns-clause-told : goal.returns-clause-told
returns-clause-told c =
    let overlay = c.args.overlay.now in
    let machines = c.args.machines.now in
    let rows = machines_of overlay.board.table in
    let last = length machines - 1 in
    let some : (length machines == 0) ≡ false = sym c.is_empty.ensures ∙ c.if-is_empty.false in
    let more : length machines ≡ 0 → ⊥ = λ none. both_ways _ some (eq-eqb (length machines) 0 none) in
    let below : last < length machines = omega (arith, more) in
    let rest : drop last machines ≡ get_or machines last 0 ∷ [] =
    drop_more machines last 0 below ∙ ap (λ (ids : List ℕ). get_or machines last 0 ∷ ids) (drop_all (last + 1) machines (omega arith)) in
    on_ok_weaker c.tell_last.result
    (λ tells. told_all c.args.prec (tasks_claimed overlay) c.tell_last.new.index.free rows
    (tells no_number (subst (λ ids. TellsBut (is_among ids) c.args.prec (tasks_claimed overlay) c.tell_first.new.index.free rows) rest c.tell_first.ensures)))
    c.tell_last.ensures.told
