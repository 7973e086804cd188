use Rattle.std.proofs.Common.{◌≡◌, ◌+◌, ◌<◌, false, length, get_or, refl, sym, ap, ◌∙◌, subst, arith, is_some}
use Rattle.std.specs.Option.{option_map}
use Rattle.std.proofs.lemmas.Bool.{both_ways}
use Rattle.std.proofs.lemmas.List.{length-map}
use Rattle.std.proofs.lemmas.Option.{same_Some}
use Rattle.omega_model.specs.Cell.{task_at}
use Rattle.omega_model.specs.State.{ranked_on}
use Rattle.omega_model.specs.Need.{minus}
use Rattle.omega_model.specs.declared.cells.Task.{Task}
use Rattle.omega_board.proofs.Ranks.{Walked, total-ranked, walked_end, walked_more, ranked_at}
use Rattle.omega_board.proofs.board.Board.excess_len.Goals as goal

pub loop-i-init : goal.loop-i-init
loop-i-init c = (omega arith, c.requires.used ∙ sym (total-ranked c.args.self.now.tasks c.args.machine))

pub returns-then-fits : goal.returns-then-fits
returns-then-fits c = record {
  count = walked_end c.args.cap (ranked_on c.args.machine c.args.self.now.tasks) c.loop-i.i c.loop-i.left c.loop-i.invariant (c.if-fits.ensures.0 refl);
  few = omega (arith, c.loop-i-test.true);
}

pub need_of-requires : goal.need_of-requires
need_of-requires c =
    let ranked = ranked_on c.args.machine c.args.self.now.tasks in
    let below : c.loop-i.i < length ranked = omega (arith, c.loop-i-test.true, ap length c.requires.ranked, length-map ranked (λ (t : Task). t.key)) in
    let known = ranked_at c.args.self.now.tasks c.args.machine c.loop-i.i (record { job = 0; index = 0 }) c.requires.ordered below in
    ap (λ keys. is_some (task_at c.args.self.now.tasks (get_or keys c.loop-i.i (record { job = 0; index = 0 })))) c.requires.ranked
    ∙ ap (λ key. is_some (task_at c.args.self.now.tasks key)) known.named
    ∙ ap is_some known.found

pub loop-i-preserved : goal.loop-i-preserved
loop-i-preserved c =
    let ranked = ranked_on c.args.machine c.args.self.now.tasks in
    let below : c.loop-i.i < length ranked = omega (arith, c.loop-i-test.true, ap length c.requires.ranked, length-map ranked (λ (t : Task). t.key)) in
    let known = ranked_at c.args.self.now.tasks c.args.machine c.loop-i.i (record { job = 0; index = 0 }) c.requires.ordered below in
    let need : c.need_of.result ≡ known.task.spec.need = same_Some _ _ (c.need_of.ensures
    ∙ ap (λ keys. option_map (λ (t : Task). t.spec.need) (task_at c.args.self.now.tasks (get_or keys c.loop-i.i (record { job = 0; index = 0 })))) c.requires.ranked
    ∙ ap (λ key. option_map (λ (t : Task). t.spec.need) (task_at c.args.self.now.tasks key)) known.named
    ∙ ap (option_map (λ (t : Task). t.spec.need)) known.found) in
    let left : c.minus-left.result ≡ minus c.loop-i.left known.task.spec.need = c.minus-left.ensures ∙ ap (minus c.loop-i.left) need in
    subst (Walked c.args.cap ranked (c.loop-i.i + 1)) (sym left)
    (walked_more c.args.cap ranked c.loop-i.i known.task c.loop-i.left below known.here c.loop-i.invariant (λ h. both_ways false refl (c.if-fits.ensures.1 h)))
