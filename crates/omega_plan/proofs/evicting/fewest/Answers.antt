use Rattle.std.proofs.Common.{◌≡◌, ◌+◌, ◌-◌, ℕ, Bool, false, List, drop, length, arith, sym, ap, subst, ◌∙◌}
use Rattle.std.proofs.lemmas.Bool.{both_ways, false_from_ne_true}
use Rattle.std.proofs.lemmas.List.{drop_all}
use Rattle.omega_model.specs.Cell.{total}
use Rattle.omega_model.specs.Need.{Fits, fits, minus}
use Rattle.omega_model.specs.declared.cells.Task.{Task}
use Rattle.omega_model.proofs.Amounts.{fits_tested}
use Rattle.omega_board.proofs.Ranks.{fits_true}
use Rattle.omega_plan.proofs.Listed.{minus_nothing}
use Rattle.omega_plan.specs.Leaving.{leaves_enough}
use Rattle.omega_plan.proofs.Leaving.{find_least, less_before, little_before}
use Rattle.omega_plan.proofs.evicting.fewest.Goals as goal

pub loop-count-init : goal.loop-count-init
loop-count-init c =
    let tasks = c.args.tasks.now in
    record {
      within = omega arith;
      left = sym (ap (λ (ts : List Task). minus c.args.left (total ts)) (drop_all (length tasks) tasks (omega arith)) ∙ minus_nothing c.args.left);
      room = c.requires.room;
    }

pub returns-then-not-fits : goal.returns-then-not-fits
returns-then-not-fits c =
    let tasks = c.args.tasks.now in
    let test : ℕ → Bool = leaves_enough c.args.need c.args.left tasks in
    let n = c.loop-count.count in
    let so = c.loop-count.invariant in
    let less : c.minus-less.result ≡ minus c.args.left (total (drop (n - 1) tasks)) =
    less_before c.args.left c.loop-count.left c.minus-less.result tasks n _ c.loop-count-test.true so.within so.left c.minus-less.ensures in
    let little : test (n - 1) ≡ false =
    false_from_ne_true _ (λ t. both_ways c.fits.result c.if-not-fits.true (c.fits.ensures.1 (subst (Fits c.args.need) (sym less) (fits_tested _ _ t)))) in
    find_least test (length tasks + 1) n (omega (arith, so.within)) (sym (ap (fits c.args.need) so.left) ∙ so.room)
    (λ m below. little_before c.args.need c.args.left tasks m (n - 1) (omega (arith, below)) little)

pub loop-count-preserved : goal.loop-count-preserved
loop-count-preserved c =
    let tasks = c.args.tasks.now in
    let n = c.loop-count.count in
    let so = c.loop-count.invariant in
    record {
      within = omega (arith, so.within);
      left = less_before c.args.left c.loop-count.left c.minus-less.result tasks n _ c.loop-count-test.true so.within so.left c.minus-less.ensures;
      room = fits_true _ _ (c.fits.ensures.0 c.if-not-fits.false);
    }

pub returns : goal.returns
returns c =
    let tasks = c.args.tasks.now in
    let test : ℕ → Bool = leaves_enough c.args.need c.args.left tasks in
    let so = c.loop-count.invariant in
    let none : c.loop-count.count ≡ 0 = omega (arith, c.loop-count-test.false) in
    let first : c.loop-count.left ≡ minus c.args.left (total (drop 0 tasks)) = so.left ∙ ap (λ n. minus c.args.left (total (drop n tasks))) none in
    find_least test (length tasks + 1) 0 (omega arith) (sym (ap (fits c.args.need) first) ∙ so.room) (λ m below. absurd (omega (arith, below)))
