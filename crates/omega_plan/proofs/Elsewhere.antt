-- Machines other than a claim's are as before once it is placed.
use Rattle.std.proofs.Common.{◌≡◌, ℕ, Bool, true, false, not, ◌&&◌, ◌||◌, List, [], ◌∷◌, refl, sym, ap, ◌∙◌, ◌==◌, if◌then◌else◌}
use Rattle.std.specs.List.{filter, list_any}
use Rattle.std.proofs.lemmas.Bool.{and_parts, both_ways, false_from_ne_true}
use Rattle.omega_model.specs.Cell.{Cell, by_rank, is_on, keys_of, machine_at, rest_on, total}
use Rattle.omega_model.specs.Judge.{capacity_of, judge_fine, makes_room, would_be_placed}
use Rattle.omega_model.specs.Jobs.{stays_of_job}
use Rattle.omega_model.specs.Keys.{is_among}
use Rattle.omega_model.specs.Need.{fits, minus}
use Rattle.omega_model.specs.Plan.{candidates, claim_of, gives_way}
use Rattle.omega_model.specs.Reply.{after_claim, tasks_placed}
use Rattle.omega_model.specs.declared.cells.Task.{Task}
use Rattle.omega_model.specs.declared.cells.TaskKey.{TaskKey}
use Rattle.omega_model.specs.declared.claims.Claim.{Claim}
use Rattle.omega_model.specs.declared.wishes.Wish.{Wish}
use Rattle.omega_model.proofs.Amounts.{rest_is}
use Rattle.omega_model.proofs.Lists.{by_answer, filter_and, filter_turned}
use Rattle.omega_running.specs.Order.{IsInOrder}
use Rattle.omega_running.specs.declared.orders.Order.TheVariants.{ByKey}
use Rattle.omega_board.proofs.Untouched.{admitting, claim_local}

-- the tasks on another machine, once a claim is placed
pub on_other : (cell : Cell) (claim : Claim) (id : ℕ) → IsInOrder ByKey cell.tasks → would_be_placed cell claim ≡ true → (claim.machine == id) ≡ false
    → filter (is_on id) (after_claim cell (claim, judge_fine cell claim)).tasks ≡ filter (is_on id) cell.tasks
on_other cell claim id order placed differ =
    let judgement = judge_fine cell claim in
    let one : (after_claim cell (claim, judgement)).tasks ≡ tasks_placed cell.tasks claim judgement.evicted =
    ap (λ b. if b then tasks_placed cell.tasks claim judgement.evicted else cell.tasks) placed in
    ap (filter (is_on id)) one ∙ (claim_local cell claim judgement.evicted order (admitting judgement placed)).elsewhere id differ

-- a search for tasks on a machine
any_on : (p q : Task → Bool) → ((t : Task) → p t ≡ true → q t ≡ true) → (tasks : List Task) → list_any p tasks ≡ list_any p (filter q tasks)
any_on p q more [] = refl
any_on p q more (t ∷ tasks) =
    by_answer (q t)
    (λ h. rw h (ap (λ b. p t || b) (any_on p q more tasks)))
    (λ h.
    let out : p t ≡ false = false_from_ne_true _ (λ k. both_ways _ h (more t k)) in
    rw (h, out) (any_on p q more tasks))

rest_by_machine : (tasks : List Task) (id : ℕ) (gone : List TaskKey)
    → rest_on tasks id gone ≡ total (filter (λ t. not (is_among t.key gone)) (filter (is_on id) tasks))
rest_by_machine tasks id gone = rest_is tasks id gone ∙ ap total (filter_turned (is_on id) (λ t. not (is_among t.key gone)) tasks)

-- where the tasks on a machine are the same, there is as much room
pub room_same : (cell after : Cell) (wish : Wish) (id : ℕ) (gone : List TaskKey) → after.machines ≡ cell.machines
    → filter (is_on id) after.tasks ≡ filter (is_on id) cell.tasks
    → makes_room after (claim_of wish [] id) gone ≡ makes_room cell (claim_of wish [] id) gone
room_same cell after wish id gone machines same =
    let p : Task → Bool = stays_of_job wish.key.job id gone in
    let on : (t : Task) → p t ≡ true → is_on id t ≡ true = λ t stays. (and_parts _ _ (and_parts _ _ stays).1).0 in
    let rest : rest_on after.tasks id gone ≡ rest_on cell.tasks id gone =
    rest_by_machine after.tasks id gone ∙ ap (λ ts. total (filter (λ (t : Task). not (is_among t.key gone)) ts)) same ∙ sym (rest_by_machine cell.tasks id gone) in
    let any : list_any p after.tasks ≡ list_any p cell.tasks =
    any_on p (is_on id) on after.tasks ∙ ap (list_any p) same ∙ sym (any_on p (is_on id) on cell.tasks) in
    λ i. fits wish.spec.need (minus (capacity_of (machine_at (machines i) id)) (rest i)) && not (wish.spec.differ && any i)

candidates_by_machine : (cell : Cell) (id : ℕ) (wish : Wish) → candidates cell id wish ≡ keys_of (by_rank (filter (gives_way wish) (filter (is_on id) cell.tasks)))
candidates_by_machine cell id wish =
    sym (ap (λ ts. keys_of (by_rank ts)) (filter_turned (gives_way wish) (is_on id) cell.tasks ∙ filter_and (is_on id) (gives_way wish) cell.tasks))

-- and the same may be evicted
pub candidates_same : (cell after : Cell) (wish : Wish) (id : ℕ) → filter (is_on id) after.tasks ≡ filter (is_on id) cell.tasks
    → candidates after id wish ≡ candidates cell id wish
candidates_same cell after wish id same =
    candidates_by_machine after id wish ∙ ap (λ ts. keys_of (by_rank (filter (gives_way wish) ts))) same ∙ sym (candidates_by_machine cell id wish)
