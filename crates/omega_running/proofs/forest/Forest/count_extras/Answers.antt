use Rattle.std.proofs.Common.{◌≡◌, ◌≤◌, ◌%◌, ℕ, length, ap, ◌∙◌, arith}
use Rattle.std.specs.List.{filter}
use Rattle.omega_model.specs.ExtraTasks.{is_extra_of}
use Rattle.omega_running.specs.Forest.{SpreadTasks, is_at}
use Rattle.omega_running.specs.declared.nodes.Tree.{Tree}
use Rattle.omega_running.specs.Tree.{tasks_of}
use Rattle.omega_running.specs.declared.orders.Order.TheVariants.{ByKey}
use Rattle.omega_model.proofs.Fewer.{filter_fewer}
use Rattle.omega_running.proofs.Spread.{extras_here}
use Rattle.omega_running.proofs.forest.Forest.count_extras.Goals as goal

-- the job's extra tasks in the tree that it names are all of them
all : (job : ℕ) (forest : SpreadTasks) (tree : Tree) → tasks_of tree ≡ filter (is_at ByKey forest.trees (job % forest.trees)) forest.tasks → filter (is_extra_of job) (tasks_of tree) ≡ filter (is_extra_of job) forest.tasks
all job forest tree part = ap (filter (is_extra_of job)) part ∙ extras_here forest.trees job forest.tasks

pub count_extras-requires-clause-few : goal.count_extras-requires-clause-few
count_extras-requires-clause-few c =
    let job = c.args.job in
    let forest = c.args.self.now in
    let same = all job forest c.in-Some.tree.now (rw c.requires.by_key at c.in-Some.ensures.part) in
    let fewer : length (filter (is_extra_of job) (tasks_of c.in-Some.tree.now)) ≤ length forest.tasks = rw same (filter_fewer (is_extra_of job) forest.tasks) in
    omega (arith, fewer, c.requires.few)

pub returns-in-Some : goal.returns-in-Some
returns-in-Some c =
    c.count_extras.ensures
    ∙ ap length (all c.args.job c.args.self.now c.in-Some.tree.now (rw c.requires.by_key at c.in-Some.ensures.part))
