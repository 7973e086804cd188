use Rattle.std.proofs.Common.{◌≡◌, ◌&&◌, true, false, not, sym, ◌∙◌, rules}
use Rattle.std.specs.Option.{is_some}
use Rattle.std.proofs.lemmas.Bool.{and_left, and_right, eq-eqb, ne_eqb, not_from_true}
use Rattle.omega_model.specs.Keys.{is_among}
use Rattle.omega_running.specs.declared.orders.Order.TheVariants.{ByMachine}
use Rattle.omega_running.specs.Order.{IsInOrder, in_share, is_before, is_behind}
use Rattle.omega_running.specs.Others.{other_in_share}
use Rattle.omega_running.specs.Tree.{tasks_of}
use Rattle.omega_running.specs.declared.nodes.Tree.{the_lemmas}
use Rattle.omega_running.proofs.AtFork.{at_fork, other_at_left, other_at_right, other_earlier, other_here, other_later}
use Rattle.omega_running.proofs.nodes.Tree.+other_of_job.Goals as goal
use Rattle.omega_running.proofs.nodes.Tree.+other_of_job.Goals.{else-share_of-share-via-then-share_of-share+else-not-is_among, else-share_of-share-via-else-share_of-share}

pub other_of_job-requires : goal.other_of_job-requires
other_of_job-requires t c =
    let ordered : IsInOrder ByMachine (tasks_of c.deref-then-is_before.result.now.right) = rw c.deref-then-is_before.ensures (at_fork {order = ByMachine} c.requires c.in-Fork.is).right in
    search (rules, the_lemmas)

pub returns-then-is_before : goal.returns-then-is_before
returns-then-is_before t c =
    let f = at_fork {order = ByMachine} c.requires c.in-Fork.is in
    let p : is_before c.in-Fork.node.value.task c.args.machine c.args.job ≡ true = cc in
    c.other_of_job.ensures ∙ rw c.deref-then-is_before.ensures (sym (other_at_right c.args.share c.args.job c.args.machine c.args.gone.now f p))

pub other_of_job-requires-then-is_behind : goal.other_of_job-requires-then-is_behind
other_of_job-requires-then-is_behind t c =
    let ordered : IsInOrder ByMachine (tasks_of c.deref-then-is_behind.result.now.left) = rw c.deref-then-is_behind.ensures (at_fork {order = ByMachine} c.requires c.in-Fork.is).left in
    search (rules, the_lemmas)

pub returns-then-is_behind : goal.returns-then-is_behind
returns-then-is_behind t c =
    let f = at_fork {order = ByMachine} c.requires c.in-Fork.is in
    let p : is_behind c.in-Fork.node.value.task c.args.machine c.args.job ≡ true = cc in
    c.other_of_job-then-is_behind.ensures ∙ rw c.deref-then-is_behind.ensures (sym (other_at_left c.args.share c.args.job c.args.machine c.args.gone.now f p))

pub other_of_job-earlier-requires : goal.other_of_job-earlier-requires
other_of_job-earlier-requires t c =
    let ordered : IsInOrder ByMachine (tasks_of c.deref-3.result.now.left) = rw c.deref-3.ensures (at_fork {order = ByMachine} c.requires c.in-Fork.is).left in
    search (rules, the_lemmas)

pub returns-then-is_some : goal.returns-then-is_some
returns-then-is_some t c =
    let f = at_fork {order = ByMachine} c.requires c.in-Fork.is in
    let e : c.other_of_job-earlier.result ≡ other_in_share c.args.share (tasks_of c.in-Fork.node.value.left) c.args.job c.args.machine c.args.gone.now = rw c.deref-3.ensures at c.other_of_job-earlier.ensures in
    let some : is_some (other_in_share c.args.share (tasks_of c.in-Fork.node.value.left) c.args.job c.args.machine c.args.gone.now) ≡ true = cc in
    e ∙ sym (other_earlier c.args.share c.args.job c.args.machine c.args.gone.now f some)

pub returns-then-not-is_among : goal.returns-then-not-is_among
returns-then-not-is_among t c =
    let f = at_fork {order = ByMachine} c.requires c.in-Fork.is in
    let p : is_before c.in-Fork.node.value.task c.args.machine c.args.job ≡ false = cc in
    let q : is_behind c.in-Fork.node.value.task c.args.machine c.args.job ≡ false = cc in
    let e : c.other_of_job-earlier.result ≡ other_in_share c.args.share (tasks_of c.in-Fork.node.value.left) c.args.job c.args.machine c.args.gone.now = rw c.deref-3.ensures at c.other_of_job-earlier.ensures in
    let none : is_some (other_in_share c.args.share (tasks_of c.in-Fork.node.value.left) c.args.job c.args.machine c.args.gone.now) ≡ false = cc in
    let asked : c.is_among.result ≡ is_among c.in-Fork.node.value.task.key c.args.gone.now = rw c.deref-then-share_of-share.ensures at c.is_among.ensures in
    let out : is_among c.in-Fork.node.value.task.key c.args.gone.now ≡ false = sym asked ∙ c.if-not-is_among.true in
    let inside : in_share c.args.share c.in-Fork.node.value.task ≡ true = eq-eqb _ _ (sym (rw c.deref-4.ensures at c.share_of.ensures.share) ∙ c.if-share_of-share.true) in
    rw c.deref-then-not-is_among.ensures (sym (other_here c.args.share c.args.job c.args.machine c.args.gone.now f p q none inside out))

pub other_of_job-requires-2 : goal.other_of_job-requires-2
other_of_job-requires-2 t c =
    let ordered : IsInOrder ByMachine (tasks_of c.deref-5.result.now.right) = rw c.deref-5.ensures (at_fork {order = ByMachine} c.requires c.in-Fork.is).right in
    search (rules, the_lemmas)

pub returns : goal.returns
returns t c =
    let f = at_fork {order = ByMachine} c.requires c.in-Fork.is in
    let e : c.other_of_job-earlier.result ≡ other_in_share c.args.share (tasks_of c.in-Fork.node.value.left) c.args.job c.args.machine c.args.gone.now = rw c.deref-3.ensures at c.other_of_job-earlier.ensures in
    let none : is_some (other_in_share c.args.share (tasks_of c.in-Fork.node.value.left) c.args.job c.args.machine c.args.gone.now) ≡ false = cc in
    let passed : (in_share c.args.share c.in-Fork.node.value.task && not (is_among c.in-Fork.node.value.task.key c.args.gone.now)) ≡ false = elim c.else-share_of-share.branch [
      | else-share_of-share-via-then-share_of-share+else-not-is_among w ↦
          let asked : w.is_among.result ≡ is_among c.in-Fork.node.value.task.key c.args.gone.now = rw w.deref-then-share_of-share.ensures at w.is_among.ensures in
          and_right (in_share c.args.share c.in-Fork.node.value.task) _ (not_from_true _ (sym asked ∙ w.if-not-is_among.false))
      | else-share_of-share-via-else-share_of-share w ↦ and_left _ _ (ne_eqb _ _ (λ e. w.if-share_of-share.false (rw c.deref-4.ensures at c.share_of.ensures.share ∙ e)))
    ] in
    c.other_of_job-2.ensures ∙ rw c.deref-5.ensures (sym (other_later c.args.share c.args.job c.args.machine c.args.gone.now f none passed))
