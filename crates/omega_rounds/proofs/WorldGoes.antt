-- A world that doesn't go on to another round: a scheduler has work, or the run is over.
use Rattle.std.proofs.Common.{◌≡◌, ◌≤◌, ◌+◌, ℕ, suc, true, false, List, [], ◌∷◌, length, Option, Some, None, refl, sym, ap, subst, arith, ◌∙◌, inl, inr}
use Rattle.std.specs.Prelude.{is_some, slice_get}
use Rattle.std.specs.List.{position}
use Rattle.std.proofs.lemmas.Option.{slice_get_cases, slice_get_past}
use Rattle.omega_model.specs.Feed.{rounds}
use Rattle.omega_model.specs.Lawful.{Lawful, Rounds}
use Rattle.omega_model.specs.Policy.{schedulers}
use Rattle.omega_model.specs.Wanted.{WantedTask}
use Rattle.omega_model.specs.World.{World}
use Rattle.omega_model.specs.declared.entries.Entry.{Entry}
use Rattle.omega_model.specs.declared.rows.Row.{Row}
use Rattle.omega_model.specs.declared.rows.Round.{Round}
use Rattle.omega_model.specs.declared.rows.TraceTables.{TraceTables}
use Rattle.omega_model.specs.declared.settings.Settings.{Settings}
use Rattle.omega_model.specs.declared.wishes.Request.{Request}
use Rattle.omega_rounds.specs.Going.{IsFirstAtWork}
use Rattle.omega_laws.specs.InRound.{RoundIsOver, rows_now}
use Rattle.omega_rounds.specs.Keeping.{IsWorld, world_at}
use Rattle.omega_laws.specs.NextCommit.{NobodyHasWork}
use Rattle.omega_workers.specs.Workers.{HaveNoWork, has_work}
use Rattle.omega_rounds.specs.Stages.{IsInRunOf, Source, Stage}
use Rattle.omega_workers.specs.declared.worker.Worker.{Worker}
use Rattle.omega_rounds.proofs.WorkerLists.{first_past, none_first, some_first}
use Rattle.omega_rounds.proofs.WorldBegins.{nobody_works}
use Rattle.omega_rounds.proofs.WorldSteps.{rows_same, state_at}
use Rattle.omega_rounds.proofs.Worlds.{world_ends}

-- requests of which none is the first
pub not_first : (requests : List Request) → is_some (slice_get requests 0) ≡ false → requests ≡ []
not_first [] none = refl
not_first (request ∷ rest) none = absurd (cc)

-- and of which one is
a_first : (requests : List Request) → is_some (slice_get requests 0) ≡ true → (request : Request) × ((rest : List Request) × (requests ≡ request ∷ rest))
a_first [] some = absurd (cc)
a_first (request ∷ rest) some = (request, (rest, refl))

-- no worker has work where none is the first that has
pub idle_first : (workers : List Worker) → position has_work workers ≡ None → HaveNoWork workers
idle_first workers none number worker here = not_first worker.desk.requests (none_first has_work workers none number worker here)

-- nor where that one isn't found
pub idle_found : (workers : List Worker) (found : Option ℕ) → is_some found ≡ false → found ≡ position has_work workers → HaveNoWork workers
idle_found workers None none is = idle_first workers (sym is)
idle_found workers (Some first) none is = absurd (cc)

module _ (trace : TraceTables) (stage : Stage) (tasks : List WantedTask) (history : List Entry) (workers : List Worker)
    (world : IsWorld stage tasks history workers) (made : IsInRunOf stage trace) where
  -- the first worker that has work
  pub first_works : (first : ℕ) → position has_work workers ≡ Some first → IsFirstAtWork trace (state_at stage history workers) first
  first_works first is =
      let all : length workers ≡ schedulers stage.settings = world.count in
      elim (slice_get_cases workers first).1 [
        | inl some ↦
            let found = some_first has_work workers first some.0 is in
            let works : has_work some.0 ≡ true = subst (λ (s : Worker). has_work s ≡ true) some.3 found.1.0 in
            let parts = a_first some.0.desk.requests works in
            record {
              known = omega (arith, all, found.0);
              request = parts.0;
              works = (parts.1.0, ((world.lawful trace made).desks first some.0 some.2).left.remains ∙ ap (λ (l : List Request). Some l) parts.1.1);
              before = λ other below. elim (slice_get_cases workers other).1 [
                | inl there ↦
                    ((world.lawful trace made).desks other there.0 there.2).left.remains
                    ∙ ap (λ (l : List Request). Some l) (not_first there.0.desk.requests (found.1.1 other there.0 below there.2))
                | inr past ↦ absurd (omega (arith, past.0, below, found.0))
              ];
            }
        | inr past ↦ absurd (first_past has_work workers first is past.0)
      ]

  -- the run is over
  pub run_over : HaveNoWork workers → stage.begun ≡ length stage.source.rounds → Lawful stage.settings trace history
  run_over idle last =
      let settings : Settings = stage.settings in
      let one : World = world_at history workers in
      let all : stage.source.rounds ≡ rounds trace settings.window = ap (λ (s : Source). s.rounds) made in
      elim (world.lawful trace made).run [
        | inl none ↦
            let empty : length (rounds trace settings.window) ≡ 0 = sym (ap (λ (rs : List Round). length rs) all) ∙ sym last ∙ none.none in
            subst (λ (rs : List Round). Rounds settings trace [] [] rs history) (sym (no_item (rounds trace settings.window) empty)) none.is_new.empty
        | inr has ↦
            let underway = has.in_round.underway in
            let past : length (rounds trace settings.window) ≤ suc underway.done =
            let long : length stage.source.rounds ≡ length (rounds trace settings.window) = ap (λ (rs : List Round). length rs) all in
            let count : stage.begun ≡ underway.done + 1 = has.count in
            omega (arith, long, last, count) in
            let over : RoundIsOver settings trace one has.in_round =
            subst (λ (n : ℕ). NobodyHasWork settings trace (rows_now settings trace history underway) n history) has.rows
            (subst (λ (rs : List Row). NobodyHasWork settings trace rs stage.opened_at history) (rows_same trace stage one made has)
            (nobody_works trace stage tasks history workers world idle made)) in
            world_ends settings trace one has.in_round over (slice_get_past (rounds trace settings.window) (suc underway.done) past)
      ] where
        no_item : {X : Type 0} (xs : List X) → length xs ≡ 0 → xs ≡ []
        no_item [] none = refl
        no_item (x ∷ xs) none = absurd (omega (arith, none))
