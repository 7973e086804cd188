use Rattle.std.proofs.Common.{◌≡◌, ◌∙◌, ℕ, List, [], ◌∷◌, Option, Some, length, map, sym, ap, subst}
use Rattle.std.specs.Prelude.{slice_get}
use Rattle.std.specs.List.{filter}
use Rattle.std.proofs.lemmas.List.{length-map}
use Rattle.omega_board.specs.Board.{cell_of}
use Rattle.omega_mapreduce.specs.Counted.{counted_wish, counted_wishes}
use Rattle.omega_model.specs.Cell.{Cell}
use Rattle.omega_model.specs.ExtraTasks.{capacity_in_all, free_indexes, is_extra_of, running_extras, used_in}
use Rattle.omega_model.specs.Extras.{extras}
use Rattle.omega_model.specs.declared.cells.Spec.{Spec}
use Rattle.omega_model.specs.declared.cells.Task.{Task}
use Rattle.omega_model.specs.declared.cells.TaskKey.{TaskKey}
use Rattle.omega_model.specs.declared.wishes.Constraint.{Constraint}
use Rattle.omega_feed.specs.Asked.{Asked, activities_in, asked_extra, constraints_for, extras_after, held_indexes}
use Rattle.omega_feed.specs.Index.{wanted_task}
use Rattle.omega_feed.proofs.wanted.Wanted.extras_of.Goals as goal

some_same : (a b : TaskKey × Spec) → Some a ≡ Some b → a ≡ b
some_same a b e = cc

-- extras that are counted by the first of some wanted tasks are those that are asked for
counted_after : (asked : Asked) (cell : Cell) (job : ℕ) (found : Option ℕ) (wanted : List (TaskKey × Spec)) (activities : ℕ) (model : TaskKey × Spec)
    (constraints : List Constraint) (running : List ℕ) (count : ℕ)
    → found ≡ Some activities
    → slice_get wanted 0 ≡ Some model
    → constraints ≡ constraints_for asked.constraints model.0
    → running ≡ held_indexes cell job
    → count ≡ extras asked.extra activities (length wanted) (length (running_extras cell job)) model.1.need (used_in cell) (capacity_in_all cell)
    → counted_wishes model.0.job model.1.need constraints running count ≡ extras_after asked cell job found (map wanted_task wanted)
counted_after asked cell job found [] activities model constraints running count has first same held number = absurd (cc)
counted_after asked cell job found (task ∷ others) activities model constraints running count has first same held number =
    let is : task ≡ model = some_same task model first in
    let number_of : ℕ → ℕ = λ n. extras asked.extra activities n (length (running_extras cell job)) task.1.need (used_in cell) (capacity_in_all cell) in
    (λ i. counted_wishes model.0.job model.1.need (same i) (held i) (number i))
    ∙ ap (λ (m : TaskKey × Spec). map (counted_wish m.0.job m.1.need (constraints_for asked.constraints m.0))
    (free_indexes (held_indexes cell job) (extras asked.extra activities (length (task ∷ others)) (length (running_extras cell job)) m.1.need (used_in cell) (capacity_in_all cell)))) (sym is)
    ∙ ap (λ (n : ℕ). map (asked_extra asked.constraints (wanted_task task)) (free_indexes (held_indexes cell job) (number_of n))) (sym (length-map (task ∷ others) wanted_task))
    ∙ ap (λ (o : Option ℕ). extras_after asked cell job o (map wanted_task (task ∷ others))) (sym has)

pub returns : goal.returns
returns c =
    let kept = c.self.inside in
    let was : Asked = record { jobs = kept.jobs; constraints = kept.constraints; disks = kept.disks; activities = kept.activities; extra = kept.extra; tasks = kept.tasks } in
    let cell : Cell = cell_of c.args.board.now in
    let job = c.args.job in
    let model : TaskKey × Spec = c.in-Some-first.model.now in
    let running : c.in_ok-running.running.items ≡ held_indexes cell job =
    c.in_ok-running.ensures.indexes ∙ ap (λ (tasks : List Task). map (λ (task : Task). task.key.index) (filter (is_extra_of job) tasks)) c.running-2.ensures.tasks in
    let held : c.count_extras-held.result ≡ length (running_extras cell job) =
    c.count_extras-held.ensures ∙ ap (λ (tasks : List Task). length (filter (is_extra_of job) tasks)) c.running.ensures.tasks in
    let number : c.extra_count-count.result ≡ extras kept.extra c.in-Some.activities (length c.args.wanted.now) (length (running_extras cell job)) model.1.need (used_in cell) (capacity_in_all cell) =
    c.extra_count-count.ensures.count
    ∙ ap (λ (n : ℕ). extras kept.extra c.in-Some.activities (length c.args.wanted.now) n model.1.need (used_in cell) (capacity_in_all cell)) held in
    subst (λ (asked : Asked). c.new.result ≡ extras_after asked cell job (activities_in asked.activities job) (map wanted_task c.args.wanted.now)) c.self.view_is
    (c.new.ensures
    ∙ counted_after was cell job (activities_in kept.activities job) c.args.wanted.now c.in-Some.activities model
    c.in_ok-constraints.constraints c.in_ok-running.running.items c.extra_count-count.result
    (sym c.in-Some.ensures.activities) (sym c.in-Some-first.ensures.value) c.in_ok-constraints.ensures running number)
