-- What runs on a machine beside a board: of a job, and together.
use Rattle.std.proofs.Common.{◌≡◌, ℕ, ◌+◌, Bool, true, false, cond, ◌||◌, List, [], ◌∷◌, ◌++◌, is_some, refl, sym, ap, ap₂, ◌∙◌, subst, arith, if◌then◌else◌}
use Rattle.std.specs.List.{filter, list_any, sum_by}
use Rattle.std.specs.List.Sorted.{IsPermutation}
use Rattle.std.proofs.lemmas.Bool.{and_parts, both_ways}
use Rattle.std.proofs.lemmas.List.{append-nil}
use Rattle.std.proofs.lemmas.List.Elements.{filter-append}
use Rattle.std.proofs.lemmas.List.Folds.{list_any-append}
use Rattle.std.proofs.lemmas.List.Sorted.{list_any-IsPermutation, sum_by-IsPermutation}
use Rattle.std.proofs.lemmas.List.Sums.{sum_by-cons}
use Rattle.omega_model.specs.Cell.{is_on, total}
use Rattle.omega_model.specs.Jobs.{other_of_job, stays_of_job}
use Rattle.omega_model.specs.Need.{minus, nothing, plus}
use Rattle.omega_model.specs.declared.cells.Need.{Need}
use Rattle.omega_model.specs.declared.cells.Task.{Task}
use Rattle.omega_model.specs.declared.cells.TaskKey.{TaskKey}
use Rattle.omega_model.proofs.Amounts.{need_is, total-append}
use Rattle.omega_model.proofs.Lists.{by_answer}
use Rattle.omega_running.specs.Staying.{staying_on, stays_against}
use Rattle.omega_running.proofs.Staying.{left_by_both}
use Rattle.omega_plan.specs.Tenants.{AreBeside, is_whole}
use Rattle.omega_plan.specs.declared.tenants.Tenants.{Tenants}
use Rattle.omega_plan.proofs.Besides.{found_on}

-- whether another of a job stays on a machine
pub some_other : (tasks : List Task) (job id : ℕ) (gone : List TaskKey) → is_some (other_of_job tasks job id gone) ≡ list_any (stays_of_job job id gone) tasks
some_other [] job id gone = refl
some_other (t ∷ tasks) job id gone =
    by_answer (stays_of_job job id gone t)
    (λ stays. rw stays refl)
    (λ goes. rw goes (some_other tasks job id gone))

-- a test that passes nothing that a filter drops
any_filtered : {X : Type 0} (p s : X → Bool) → ((x : X) → p x ≡ true → s x ≡ true) → (xs : List X) → list_any p (filter s xs) ≡ list_any p xs
any_filtered p s leaves [] = refl
any_filtered p s leaves (x ∷ xs) =
    by_answer (s x)
    (λ t. rw t (ap (λ b. p x || b) (any_filtered p s leaves xs)))
    (λ f. by_answer (p x) (λ u. absurd (both_ways (s x) f (leaves x u))) (λ u. rw (f, u) (any_filtered p s leaves xs)))

-- a task of a job on a machine is on it
job_on : (job id : ℕ) (t : Task) → stays_of_job job id [] t ≡ true → is_on id t ≡ true
job_on job id t stays = (and_parts _ _ (and_parts _ _ stays).1).0

-- an amount in one component
module _ (part : Need → ℕ) (none : part nothing ≡ 0) (both : (a b : Need) → part (plus a b) ≡ part a + part b) where
  abbrev taken_part : (Task → Bool) → Task → ℕ
  taken_part p t = if p t then part t.spec.need else 0

  part_summed : (p : Task → Bool) (tasks : List Task) → part (total (filter p tasks)) ≡ sum_by (taken_part p) tasks
  part_summed p [] = none
  part_summed p (t ∷ tasks) =
      let rest = part_summed p tasks in
      let more = sum_by-cons (taken_part p) t tasks in
      by_answer (p t)
      (λ yes.
      let own : taken_part p t ≡ part t.spec.need = ap (λ b. if b then part t.spec.need else 0) yes in
      let first : part (total (filter p (t ∷ tasks))) ≡ part (plus t.spec.need (total (filter p tasks))) = ap (λ b. part (total (cond b (t ∷ filter p tasks) (filter p tasks)))) yes in
      first ∙ both t.spec.need (total (filter p tasks)) ∙ ap₂ (λ (a b : ℕ). a + b) (sym own) rest ∙ sym more)
      (λ no.
      let own : taken_part p t ≡ 0 = ap (λ b. if b then part t.spec.need else 0) no in
      let first : part (total (filter p (t ∷ tasks))) ≡ part (total (filter p tasks)) = ap (λ b. part (total (cond b (t ∷ filter p tasks) (filter p tasks)))) no in
      first ∙ omega (arith, own, rest, more))

  pub part_moved : (p : Task → Bool) (xs ys : List Task) → IsPermutation xs ys → part (total (filter p xs)) ≡ part (total (filter p ys))
  part_moved p xs ys moved = part_summed p xs ∙ sym (sum_by-IsPermutation (taken_part p) xs ys moved) ∙ sym (part_summed p ys)

-- tasks in another order need the same together
total_moved : (p : Task → Bool) (xs ys : List Task) → IsPermutation xs ys → total (filter p xs) ≡ total (filter p ys)
total_moved p xs ys moved =
    need_is _ _ (part_moved (λ n. n.cpu) refl (λ a b. refl) p xs ys moved)
    (part_moved (λ n. n.mem) refl (λ a b. refl) p xs ys moved)
    (part_moved (λ n. n.disk) refl (λ a b. refl) p xs ys moved)

module _ (tenants : Tenants) (board tasks : List Task) (beside : AreBeside tenants board tasks) (id : ℕ) where
  -- a whole machine has the tenants' tasks
  pub tasks_whole : is_whole tenants id ≡ true → IsPermutation (filter (is_on id) tasks) (filter (is_on id) tenants.own.tasks)
  tasks_whole whole =
      subst (λ ts. IsPermutation (filter (is_on id) tasks) ts)
      (ap (λ b. filter (is_on id) tenants.own.tasks ++ (if b then [] else filter (is_on id) board)) whole ∙ append-nil (filter (is_on id) tenants.own.tasks))
      (found_on tenants board tasks beside id)

  -- any other has the board's too
  pub tasks_both : is_whole tenants id ≡ false → IsPermutation (filter (is_on id) tasks) (filter (is_on id) tenants.own.tasks ++ filter (is_on id) board)
  tasks_both partly =
      subst (λ ts. IsPermutation (filter (is_on id) tasks) ts)
      (ap (λ b. filter (is_on id) tenants.own.tasks ++ (if b then [] else filter (is_on id) board)) partly)
      (found_on tenants board tasks beside id)

  -- the tasks of a job
  pub job_whole : (job : ℕ) → is_whole tenants id ≡ true → list_any (stays_of_job job id []) tasks ≡ list_any (stays_of_job job id []) tenants.own.tasks
  job_whole job whole =
      let test = stays_of_job job id [] in
      sym (any_filtered test (is_on id) (job_on job id) tasks)
      ∙ list_any-IsPermutation test (filter (is_on id) tasks) (filter (is_on id) tenants.own.tasks) (tasks_whole whole)
      ∙ any_filtered test (is_on id) (job_on job id) tenants.own.tasks

  pub job_both : (job : ℕ) → is_whole tenants id ≡ false
      → list_any (stays_of_job job id []) tasks ≡ (list_any (stays_of_job job id []) tenants.own.tasks || list_any (stays_of_job job id []) board)
  job_both job partly =
      let test = stays_of_job job id [] in
      sym (any_filtered test (is_on id) (job_on job id) tasks)
      ∙ list_any-IsPermutation test (filter (is_on id) tasks) (filter (is_on id) tenants.own.tasks ++ filter (is_on id) board) (tasks_both partly)
      ∙ list_any-append test (filter (is_on id) tenants.own.tasks) (filter (is_on id) board)
      ∙ ap₂ (λ a b. a || b) (any_filtered test (is_on id) (job_on job id) tenants.own.tasks) (any_filtered test (is_on id) (job_on job id) board)

  -- one of the tenants is of the job, or none is
  pub job_own : (job : ℕ) (found : Bool) → found ≡ true → found ≡ list_any (stays_of_job job id []) tenants.own.tasks → true ≡ list_any (stays_of_job job id []) tasks
  job_own job found passed is =
      let own : list_any (stays_of_job job id []) tenants.own.tasks ≡ true = sym is ∙ passed in
      by_answer (is_whole tenants id)
      (λ whole. sym (job_whole job whole ∙ own))
      (λ partly. sym (job_both job partly ∙ ap (λ b. b || list_any (stays_of_job job id []) board) own))

  pub job_none : (job : ℕ) (found : Bool) → found ≡ false → found ≡ list_any (stays_of_job job id []) tenants.own.tasks → is_whole tenants id ≡ true
      → false ≡ list_any (stays_of_job job id []) tasks
  job_none job found failed is whole = sym (job_whole job whole ∙ sym is ∙ failed)

  pub job_board : (job : ℕ) (found other : Bool) → found ≡ false → found ≡ list_any (stays_of_job job id []) tenants.own.tasks → is_whole tenants id ≡ false
      → other ≡ is_some (other_of_job board job id []) → other ≡ list_any (stays_of_job job id []) tasks
  job_board job found other failed is partly other_is =
      other_is ∙ some_other board job id []
      ∙ sym (job_both job partly ∙ ap (λ b. b || list_any (stays_of_job job id []) board) (sym is ∙ failed))

  -- what they leave of an amount
  pub left_whole : (prec : ℕ) (amount : Need) → is_whole tenants id ≡ true → minus amount (staying_on prec tenants.own.tasks id) ≡ minus amount (staying_on prec tasks id)
  left_whole prec amount whole =
      ap (minus amount) (sym (total_moved (stays_against prec) (filter (is_on id) tasks) (filter (is_on id) tenants.own.tasks) (tasks_whole whole)))

  pub left_both : (prec : ℕ) (amount : Need) → is_whole tenants id ≡ false
      → minus (minus amount (staying_on prec tenants.own.tasks id)) (staying_on prec board id) ≡ minus amount (staying_on prec tasks id)
  left_both prec amount partly =
      let own = filter (is_on id) tenants.own.tasks in
      let rest = filter (is_on id) board in
      let parts : staying_on prec tasks id ≡ plus (staying_on prec tenants.own.tasks id) (staying_on prec board id) =
      total_moved (stays_against prec) (filter (is_on id) tasks) (own ++ rest) (tasks_both partly)
      ∙ ap total (filter-append (stays_against prec) own rest)
      ∙ total-append (filter (stays_against prec) own) (filter (stays_against prec) rest) in
      sym (ap (minus amount) parts ∙ left_by_both amount (staying_on prec tenants.own.tasks id) (staying_on prec board id))
