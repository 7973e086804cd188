use Rattle.std.proofs.Common.{◌≡◌, ◌%◌, ◌^◌, List, true, false, sym, ap, ◌∙◌, rules}
use Rattle.std.specs.List.{filter}
use Rattle.omega_model.specs.declared.cells.Task.{Task}
use Rattle.omega_running.specs.declared.orders.Order.TheVariants.{ByKey}
use Rattle.omega_running.specs.Order.{IsInOrder, is_until}
use Rattle.omega_running.specs.Tree.{IsTallied, extras_in, tasks_of}
use Rattle.omega_running.specs.declared.nodes.Tree.{the_lemmas}
use Rattle.omega_running.proofs.AtFork.{at_fork, tallied_at}
use Rattle.omega_running.proofs.Tally.{until_left, until_right}
use Rattle.omega_running.proofs.nodes.Tree.+extras_until.Goals as goal

pub extras_until-requires : goal.extras_until-requires
extras_until-requires t c =
    let ordered : IsInOrder ByKey (tasks_of c.deref-then-not-is_until.result.now.left) = rw c.deref-then-not-is_until.ensures (at_fork {order = ByKey} c.requires.ordered c.in-Fork.is).left in
    let tallied : IsTallied c.deref-then-not-is_until.result.now.left = rw c.deref-then-not-is_until.ensures (tallied_at c.requires.tallied c.in-Fork.is).1 in
    search (rules, the_lemmas)

pub returns-then-not-is_until : goal.returns-then-not-is_until
returns-then-not-is_until t c =
    let f = at_fork {order = ByKey} c.requires.ordered c.in-Fork.is in
    let p : is_until c.args.job c.args.own c.in-Fork.node.value.task ≡ false = rw c.deref.ensures at (sym c.is_until.ensures ∙ c.if-not-is_until.true) in
    c.extras_until.ensures ∙ rw c.deref-then-not-is_until.ensures (ap (λ (ts : List Task). extras_in ts % 2 ^ 32) (sym (until_left c.args.job c.args.own f p)))

pub extras_until-behind-requires : goal.extras_until-behind-requires
extras_until-behind-requires t c =
    let ordered : IsInOrder ByKey (tasks_of c.deref-2.result.now.right) = rw c.deref-2.ensures (at_fork {order = ByKey} c.requires.ordered c.in-Fork.is).right in
    let tallied : IsTallied c.deref-2.result.now.right = rw c.deref-2.ensures (tallied_at c.requires.tallied c.in-Fork.is).2 in
    search (rules, the_lemmas)

pub returns : goal.returns
returns t c =
    let f = at_fork {order = ByKey} c.requires.ordered c.in-Fork.is in
    let node = c.in-Fork.node.value in
    let until = is_until c.args.job c.args.own in
    let p : until node.task ≡ true = rw c.deref.ensures at (sym c.is_until.ensures ∙ c.if-not-is_until.false) in
    let before : c.extras.result ≡ extras_in (tasks_of node.left) % 2 ^ 32 = rw c.deref-3.ensures at c.extras.ensures in
    let behind : c.extras_until-behind.result ≡ extras_in (filter until (tasks_of node.right)) % 2 ^ 32 = rw c.deref-2.ensures at c.extras_until-behind.ensures in
    c.extras_around.ensures (tasks_of node.left) (filter until (tasks_of node.right)) before behind
    ∙ rw c.deref-4.ensures (ap (λ (ts : List Task). extras_in ts % 2 ^ 32) (sym (until_right c.args.job c.args.own f p)))
