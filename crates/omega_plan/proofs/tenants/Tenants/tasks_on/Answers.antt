use Rattle.std.proofs.Common.{◌++◌, List, sym, ◌∙◌, subst}
use Rattle.std.specs.List.{filter}
use Rattle.std.specs.List.Sorted.{IsPermutation}
use Rattle.std.proofs.lemmas.List.Sorted.{IsPermutation-append_left, IsPermutation-trans}
use Rattle.omega_model.specs.Cell.{is_on}
use Rattle.omega_model.specs.declared.cells.Task.{Task}
use Rattle.omega_plan.proofs.Hosting.{tasks_whole, tasks_both}
use Rattle.omega_plan.proofs.tenants.Tenants.tasks_on.Goals as goal

pub returns-then-is_whole : goal.returns-then-is_whole
returns-then-is_whole c = λ tasks beside.
    let own = filter (is_on c.args.machine) c.args.self.now.own.tasks in
    let first : IsPermutation own c.append_on.new.found.items =
    subst (λ (ts : List Task). IsPermutation (ts ++ own) c.append_on.new.found.items) c.new-found.ensures.items c.in_ok-append_on.ensures in
    subst (λ ts. IsPermutation (filter (is_on c.args.machine) tasks) ts) (sym c.of.ensures)
    (IsPermutation-trans _ _ _ (tasks_whole c.args.self.now c.args.board.now.tasks tasks beside c.args.machine (sym c.is_whole.ensures ∙ c.if-is_whole.true)) first)

pub returns : goal.returns
returns c = λ tasks beside.
    let own = filter (is_on c.args.machine) c.args.self.now.own.tasks in
    let there = filter (is_on c.args.machine) c.args.board.now.tasks in
    let first : IsPermutation own c.append_on.new.found.items =
    subst (λ (ts : List Task). IsPermutation (ts ++ own) c.append_on.new.found.items) c.new-found.ensures.items c.in_ok-append_on.ensures in
    subst (λ ts. IsPermutation (filter (is_on c.args.machine) tasks) ts) (sym c.of-2.ensures)
    (IsPermutation-trans _ _ _ (tasks_both c.args.self.now c.args.board.now.tasks tasks beside c.args.machine (sym c.is_whole.ensures ∙ c.if-is_whole.false))
    (IsPermutation-trans _ _ _ (IsPermutation-append_left there own c.append_on.new.found.items first) c.in_ok-append_on-2.ensures))
