use Rattle.std.proofs.Common.{◌≡◌, ◌<◌, ◌%◌, length, map, set, ◌∙◌}
use Rattle.omega_running.specs.Forest.{gathered}
use Rattle.omega_running.specs.Order.{spread, taken_out}
use Rattle.omega_running.specs.Tree.{tasks_of}
use Rattle.omega_running.proofs.Spread.{AreNow, one_tree, place_at, taken_at}
use Rattle.omega_running.proofs.forest.Forest.remove.Goals as goal

pub remove-rest-requires : goal.remove-rest-requires
remove-rest-requires c =
    let less : c.in_ok-place.place < length c.self.inside.trees.items = rw (← c.self.view_is) at c.in_ok-place.ensures.within in
    let tree = one_tree c.self.inside.order c.self.inside.trees.items c.in_ok-place.place c.index_mut-tree.result.now c.self.invariant less c.index_mut-tree.ensures.value in
    rw c.take.ensures.taken (record { ordered = tree.0; tallied = tree.1 })

out : (c : goal.Joined-tree-rest) → AreNow c.self.inside.order (set c.self.inside.trees.items c.in_ok-place.place c.remove-rest.result.0) (taken_out c.self.inside.order c.args.task.now (gathered c.self.inside.order (map tasks_of c.self.inside.trees.items)))
out c =
    let order = c.self.inside.order in
    let trees = c.self.inside.trees.items in
    let less : c.in_ok-place.place < length trees = rw (← c.self.view_is) at c.in_ok-place.ensures.within in
    let named : c.in_ok-place.place ≡ spread order c.args.task.now % length trees = rw (← c.self.view_is, c.spread.ensures) at c.in_ok-place.ensures.place in
    let new : tasks_of c.remove-rest.result.0 ≡ taken_out order c.args.task.now (tasks_of c.index_mut-tree.result.now) = rw c.take.ensures.taken at c.remove-rest.ensures.rest in
    taken_at order trees c.in_ok-place.place c.args.task.now c.index_mut-tree.result.now c.remove-rest.result.0 named less c.self.invariant c.index_mut-tree.ensures.value new c.remove-rest.ensures.tallied

pub invariant_of-self : goal.invariant_of-self
invariant_of-self c = (out c).trees

pub returns-clause-tasks : goal.returns-clause-tasks
returns-clause-tasks c = rw (← c.self.view_is) (out c).is

pub returns-clause-out : goal.returns-clause-out
returns-clause-out c =
    let order = c.self.inside.order in
    let trees = c.self.inside.trees.items in
    let less : c.in_ok-place.place < length trees = rw (← c.self.view_is) at c.in_ok-place.ensures.within in
    let named : c.in_ok-place.place ≡ spread order c.args.task.now % length trees = rw (← c.self.view_is, c.spread.ensures) at c.in_ok-place.ensures.place in
    rw (← c.self.view_is) (rw c.take.ensures.taken at c.remove-rest.ensures.out
    ∙ place_at order trees c.in_ok-place.place c.args.task.now c.index_mut-tree.result.now named less c.self.invariant c.index_mut-tree.ensures.value)
