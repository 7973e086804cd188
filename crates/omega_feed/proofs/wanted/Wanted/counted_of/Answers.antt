use Rattle.std.specs.Prelude.{is_some, unwrap_or}
use Rattle.std.proofs.Common.{◌≡◌, ◌++◌, ◌∙◌, List, [], map, not, ap}
use Rattle.std.specs.List.{filter}
use Rattle.omega_board.specs.Board.{cell_of}
use Rattle.omega_model.specs.Cell.{Cell, task_at}
use Rattle.omega_model.specs.ExtraTasks.{wanted_of}
use Rattle.omega_model.specs.Requests.{is_waiting}
use Rattle.omega_model.specs.declared.wishes.Wish.{Wish}
use Rattle.omega_feed.specs.Asked.{Asked, activities_in, asked_wish, extras_after}
use Rattle.omega_feed.specs.Counted.{request_for}
use Rattle.omega_feed.specs.Index.{wanted_task}
use Rattle.omega_feed.proofs.ExtraIndexes.{waiting_of}
use Rattle.omega_feed.proofs.wanted.Wanted.counted_of.Goals as goal

pub returns : goal.returns
returns c =
    let asked : Asked = c.args.self.now in
    let cell : Cell = cell_of c.args.board.now in
    let own : map wanted_task c.in_ok-wanted.wanted.items ≡ wanted_of c.args.job asked.tasks =
    c.in_ok-wanted.ensures ∙ ap (λ (a : Asked). wanted_of c.args.job a.tasks) c.self.view_is in
    let models : map wanted_task c.deref.result.now ≡ wanted_of c.args.job asked.tasks = ap (map wanted_task) c.deref.ensures.value ∙ own in
    let again : map wanted_task c.deref-2.result.now ≡ wanted_of c.args.job asked.tasks = ap (map wanted_task) c.deref-2.ensures.value ∙ own in
    let waiting : c.in_ok-wishes.wishes ≡ map (asked_wish asked.constraints) (filter (is_waiting cell c.args.job) asked.tasks) =
    c.in_ok-wishes.ensures
    ∙ (λ i. map (asked_wish asked.constraints) (filter (λ task. not (is_some (task_at (c.running.ensures.tasks i) task.key))) (models i)))
    ∙ ap (map (asked_wish asked.constraints)) (waiting_of cell c.args.job asked.tasks) in
    let extras : unwrap_or c.in_ok-extras.extras [] ≡ extras_after asked cell c.args.job (activities_in asked.activities c.args.job) (wanted_of c.args.job asked.tasks) =
    c.in_ok-extras.ensures ∙ ap (extras_after asked cell c.args.job (activities_in asked.activities c.args.job)) again in
    let all : c.in_ok-wishes.wishes ++ unwrap_or c.in_ok-extras.extras [] ≡ map (asked_wish asked.constraints) (filter (is_waiting cell c.args.job) asked.tasks) ++ extras_after asked cell c.args.job (activities_in asked.activities c.args.job) (wanted_of c.args.job asked.tasks) =
    λ i. waiting i ++ extras i in
    c.new.ensures ∙ ap (λ (wishes : List Wish). request_for c.args.job wishes) all
