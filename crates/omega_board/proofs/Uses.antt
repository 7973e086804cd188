-- What tasks use.
use Rattle.std.proofs.Common.{◌≡◌, Bool, List, [], ◌∷◌, Some, None, sym, ap, ◌∙◌}
use Rattle.std.specs.List.{filter}
use Rattle.std.proofs.lemmas.List.Elements.{filter-append}
use Rattle.omega_model.specs.Need.{plus}
use Rattle.omega_model.specs.Keys.{key_lt}
use Rattle.omega_model.specs.Cell.{task_at, with_task, without, total}
use Rattle.omega_model.specs.declared.cells.Task.{Task}
use Rattle.omega_running.specs.declared.orders.Order.TheVariants.{ByKey}
use Rattle.omega_running.specs.Order.{IsInOrder}
use Rattle.omega_board.proofs.Tasks.{parted, back_again, gone_absent, without_ordered}
use Rattle.omega_model.proofs.Amounts.{plus-swap, total-append, total-cons, share}

-- with one more task
pub total-with : (p : Task → Bool) (t : Task) (tasks : List Task) → task_at tasks t.key ≡ None → IsInOrder ByKey tasks
    → total (filter p (with_task t tasks)) ≡ plus (share p t) (total (filter p tasks))
total-with p t tasks none order =
    let front = filter (λ o. key_lt o.key t.key) tasks in
    let back = filter (λ o. key_lt t.key o.key) tasks in
    ap total (filter-append p front (t ∷ back))
    ∙ total-append (filter p front) (filter p (t ∷ back))
    ∙ ap (plus (total (filter p front))) (total-cons p t back)
    ∙ plus-swap (total (filter p front)) (share p t) (total (filter p back))
    ∙ ap (plus (share p t)) (sym (total-append (filter p front) (filter p back)) ∙ ap total (sym (filter-append p front back) ∙ ap (filter p) (parted t tasks none order)))

-- without one that runs
pub total-without : (p : Task → Bool) (t : Task) (tasks : List Task) → task_at tasks t.key ≡ Some t → IsInOrder ByKey tasks
    → total (filter p tasks) ≡ plus (share p t) (total (filter p (without (t.key ∷ []) tasks)))
total-without p t tasks found order =
    ap (λ ts. total (filter p ts)) (sym (back_again t tasks found order))
    ∙ total-with p t (without (t.key ∷ []) tasks) (gone_absent t.key tasks) (without_ordered (t.key ∷ []) tasks order)
