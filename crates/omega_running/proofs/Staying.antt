-- What is left of an amount, along a tree in order of machine.
use Rattle.std.proofs.Common.{◌≡◌, ℕ, ◌<◌, ◌&&◌, List, ◌∷◌, refl, ap, ◌∙◌, arith, if◌then◌else◌}
use Rattle.std.specs.List.{filter}
use Rattle.std.proofs.lemmas.List.Elements.{filter-append}
use Rattle.omega_model.specs.Cell.{total}
use Rattle.omega_model.specs.Need.{minus, plus}
use Rattle.omega_model.specs.declared.cells.Need.{Need}
use Rattle.omega_model.specs.declared.cells.Task.{Task}
use Rattle.omega_model.proofs.Amounts.{need_is, total-append}
use Rattle.omega_model.proofs.Lists.{by_answer}
use Rattle.omega_running.specs.declared.orders.Order.TheVariants.{ByMachine}
use Rattle.omega_running.specs.Staying.{staying_of_share, stays_against}
use Rattle.omega_running.specs.Order.{in_share, led_by}
use Rattle.omega_running.proofs.AtFork.{AtFork, led_at_left, led_at_right, picked_here}

-- two amounts are taken off one after the other, or together
pub left_by_both : (amount first second : Need) → minus amount (plus first second) ≡ minus (minus amount first) second
left_by_both amount first second = need_is _ _ (omega arith) (omega arith) (omega arith)

-- what a task leaves, if it stands in this one of the trees of its machine
abbrev pub beside : ℕ → ℕ → Task → Need → Need
beside prec number task amount = if in_share number task && stays_against prec task then minus amount task.spec.need else amount

-- a task, and the tasks behind it
left_by_first : (prec number : ℕ) (amount : Need) (x : Task) (rest : List Task)
    → minus amount (total (filter (stays_against prec) (filter (in_share number) (x ∷ rest))))
    ≡ minus (beside prec number x amount) (total (filter (stays_against prec) (filter (in_share number) rest)))
left_by_first prec number amount x rest =
    by_answer (in_share number x)
    (λ t. by_answer (stays_against prec x)
    (λ u. rw (t, u) (left_by_both amount x.spec.need (total (filter (stays_against prec) (filter (in_share number) rest)))))
    (λ u. rw (t, u) refl))
    (λ f. rw f refl)

-- a fork whose task stands on a greater machine, on a lesser one, and on this one
pub staying_at_left : {d l : List Task} {x : Task} {r : List Task} (prec number n : ℕ) → AtFork ByMachine d l x r → n < x.machine → staying_of_share prec d n number ≡ staying_of_share prec l n number
staying_at_left prec number n f p = ap (λ ts. total (filter (stays_against prec) (filter (in_share number) ts))) (led_at_left n f p)

pub staying_at_right : {d l : List Task} {x : Task} {r : List Task} (prec number n : ℕ) → AtFork ByMachine d l x r → x.machine < n → staying_of_share prec d n number ≡ staying_of_share prec r n number
staying_at_right prec number n f p = ap (λ ts. total (filter (stays_against prec) (filter (in_share number) ts))) (led_at_right n f p)

pub left_here : {d l : List Task} {x : Task} {r : List Task} (prec number n : ℕ) (amount : Need) → AtFork ByMachine d l x r → x.machine ≡ n
    → minus amount (staying_of_share prec d n number)
    ≡ minus (beside prec number x (minus amount (staying_of_share prec l n number))) (staying_of_share prec r n number)
left_here {d} {l} {x} {r} prec number n amount f p =
    let before = filter (in_share number) (led_by ByMachine n l) in
    let behind = filter (in_share number) (x ∷ led_by ByMachine n r) in
    let parts : staying_of_share prec d n number ≡ plus (total (filter (stays_against prec) before)) (total (filter (stays_against prec) behind)) =
    ap (λ ts. total (filter (stays_against prec) ts)) (picked_here (in_share number) n f p)
    ∙ ap total (filter-append (stays_against prec) before behind)
    ∙ total-append (filter (stays_against prec) before) (filter (stays_against prec) behind) in
    ap (minus amount) parts
    ∙ left_by_both amount (total (filter (stays_against prec) before)) (total (filter (stays_against prec) behind))
    ∙ left_by_first prec number (minus amount (staying_of_share prec l n number)) x (led_by ByMachine n r)
