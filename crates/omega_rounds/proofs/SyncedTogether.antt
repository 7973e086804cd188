-- Workers that have synced at the same time, and the world that they are in.
use Rattle.std.proofs.Common.{◌≡◌, ◌<◌, ℕ, List, [], ◌∷◌, ◌++◌, length, map, Option, Some, None, refl, sym, ap, subst, ◌∙◌, arith, inl, inr}
use Rattle.std.specs.Prelude.{slice_get, option_and_then, option_map}
use Rattle.std.specs.List.{sum_by, AllByRecursion as Each}
use Rattle.std.proofs.lemmas.Option.{slice_get_cases, slice_get_within, slice_get-map}
use Rattle.omega_board.proofs.Places.{each_get, each_place}
use Rattle.omega_laws.proofs.LastCommits.{after_last-within}
use Rattle.omega_laws.specs.NextCommit.{HasNoWork, WorksOn, left_of}
use Rattle.omega_model.specs.Policy.{schedulers}
use Rattle.omega_model.specs.Stepping.{EachIsBetween, IsBetween, rows_end}
use Rattle.omega_model.specs.Wanted.{WantedTask}
use Rattle.omega_model.specs.World.{NobodySynced}
use Rattle.omega_model.specs.declared.entries.Entry.{Entry}
use Rattle.omega_model.specs.declared.rows.Row.{Row}
use Rattle.omega_model.specs.declared.rows.TraceTables.{TraceTables}
use Rattle.omega_model.specs.declared.wishes.Request.{Request}
use Rattle.omega_desk.specs.Desks.{DeskState}
use Rattle.omega_workers.specs.Forked.{AllHaveSyncedOrStay, AreReady, IsNotDue}
use Rattle.omega_rounds.specs.Halves.{Syncing}
use Rattle.omega_rounds.specs.Keeping.{HasBegun, HasNotBegun, IsLawful, IsWorld, world_at}
use Rattle.omega_workers.specs.Plans.{IsReady}
use Rattle.omega_rounds.specs.Playing.{SyncsTurn}
use Rattle.omega_rounds.specs.Stages.{IsInRunOf, Stage, rows_begun, synced_at}
use Rattle.omega_workers.specs.Workers.{IsDeskOf, synced_of, to_do_of}
use Rattle.omega_workers.specs.declared.worker.Worker.{Worker}
use Rattle.omega_rounds.proofs.PlansKept.{ready_at, ready_for}
use Rattle.omega_rounds.proofs.PlayedTurns.{syncing_all}
use Rattle.omega_rounds.proofs.WorkerLists.{seen_at, seen_none}
use Rattle.omega_rounds.proofs.WorldSteps.{new_idle, state_at}
use Rattle.omega_rounds.proofs.Worlds.{rows_within}
use Rattle.omega_workers.proofs.SyncedOrNot.{may_count, same_desk, same_to_do, stood}

-- nothing is seen of a place where nobody is
unseen : (workers : List Worker) (scheduler : ℕ) → slice_get workers scheduler ≡ None → synced_at (map synced_of workers) scheduler ≡ None
unseen workers scheduler none = ap (option_and_then (λ (seen : Option ℕ). seen)) (slice_get-map synced_of workers scheduler ∙ ap (option_map synced_of) none)

module _ (stage : Stage) (tasks : List WantedTask) (history : List Entry) (olds : List Worker) (world : IsWorld stage tasks history olds) where
  -- the workers of a world are ready
  pub are_ready : AreReady history olds
  are_ready =
      each_place (λ worker. IsReady worker.desk history worker) olds (λ number worker here.
      ready_at stage.settings number history worker (world.each_worker number worker here) world.range
      (let all : length olds ≡ schedulers stage.settings = world.count in let within : number < length olds = slice_get_within olds number worker here in omega (arith, all, within))
      (world.each_plan number worker here))

  module _ (news : List Worker) (may : AllHaveSyncedOrStay history olds news) where
    desk_after : (trace : TraceTables) → IsLawful trace stage history olds → (scheduler : ℕ) (new : Worker) → slice_get news scheduler ≡ Some new
        → IsDeskOf stage.settings trace (rows_begun stage) stage.opened_at history scheduler new.desk
    desk_after trace was scheduler new here =
        let old = stood history olds news may scheduler new here in
        subst (IsDeskOf stage.settings trace (rows_begun stage) stage.opened_at history scheduler) (sym (same_desk history old.0 new old.1.1))
        (was.desks scheduler old.0 old.1.0)

    -- before the first round nobody syncs
    none_syncs : (trace : TraceTables) → IsLawful trace stage history olds → HasNotBegun stage (world_at history olds) → HasNotBegun stage (world_at history news)
    none_syncs trace was none = record {
      is_new = record {
        empty = none.is_new.empty;
        nobody = seen_none synced_of news (λ scheduler new here.
            let old = stood history olds news may scheduler new here in
            elim old.1.1.does [
              | inl before ↦ before.synced ∙ sym (seen_at synced_of olds scheduler old.0 old.1.0) ∙ none.is_new.nobody scheduler
              | inr syncs ↦ absurd (syncs.work (new_idle trace stage history (world_at history olds) scheduler old.0.desk none refl (was.desks scheduler old.0 old.1.0)))
            ]);
      };
      none = none.none;
      start = none.start;
    }

    -- who has synced in a round has seen no less than it must
    between : (trace : TraceTables) (begun : HasBegun trace stage (world_at history olds))
        → EachIsBetween (rows_end stage.settings trace history begun.in_round.underway) (world_at history news)
    between trace begun scheduler seen is = elim (slice_get_cases news scheduler).1 [
      | inl some ↦
          let new : Worker = some.0 in
          let old = stood history olds news may scheduler new some.2 in
          let own : synced_of new ≡ Some seen = sym (seen_at synced_of news scheduler new some.2) ∙ is in
          elim old.1.1.does [
            | inl before ↦ begun.in_round.synced scheduler seen (seen_at synced_of olds scheduler old.0 old.1.0 ∙ sym before.synced ∙ own)
            | inr syncs ↦
                let both : Some (length history) ≡ Some seen = sym syncs.seen_all ∙ own in
                let all : length history ≡ seen = cc in
                subst (IsBetween (rows_end stage.settings trace history begun.in_round.underway) history scheduler) all (record {
                  rows = rows_within stage.settings trace history begun.in_round.underway;
                  own = after_last-within scheduler history;
                  there = omega arith;
                })
          ]
      | inr none ↦
          let clash : None ≡ Some seen = sym (unseen news scheduler none.1) ∙ is in absurd (cc)
    ]

    lawful_synced : (trace : TraceTables) → IsLawful trace stage history olds → IsLawful trace stage history news
    lawful_synced trace was = record {
      run = elim was.run [
        | inl none ↦ inl (none_syncs trace was none)
        | inr begun ↦ inr (record {
          in_round = record { underway = begun.in_round.underway; synced = between trace begun };
          count = begun.count;
          rows = begun.rows;
        })
      ];
      desks = desk_after trace was;
    }

    -- a world in which some have synced
    pub world_synced : IsWorld stage tasks history news
    world_synced = record {
      range = world.range;
      within = world.within;
      asked = world.asked;
      count = may_count history olds news may ∙ world.count;
      each_worker = λ number new here.
          let old = stood history olds news may number new here in
          ready_for stage.settings number history old.0 (world.each_worker number old.0 old.1.0) history new old.1.1.ready;
      each_plan = λ number new here. (stood history olds news may number new here).1.1.ready.plan;
      made = world.made;
      lawful = λ trace made. lawful_synced trace (world.lawful trace made);
    }

    module _ (due : Each IsNotDue news) where
      module _ (trace : TraceTables) (made : IsInRunOf stage trace) (nobody : NobodySynced (world_at history olds)) where
        left_there : (scheduler : ℕ) (old : Worker) → slice_get olds scheduler ≡ Some old
            → left_of stage.settings trace (rows_begun stage) stage.opened_at history scheduler ≡ Some old.desk.requests
        left_there scheduler old here = ((world.lawful trace made).desks scheduler old here).left.remains

        has_synced : (scheduler : ℕ) → scheduler < schedulers stage.settings → (request : Request)
            → WorksOn stage.settings trace (rows_begun stage) stage.opened_at history scheduler request
            → synced_at (map synced_of news) scheduler ≡ Some (length history)
        has_synced scheduler known request works = elim (slice_get_cases news scheduler).1 [
          | inl some ↦
              let new : Worker = some.0 in
              let old = stood history olds news may scheduler new some.2 in
              seen_at synced_of news scheduler new some.2
              ∙ elim old.1.1.does [
                | inl before ↦
                    let unsynced : synced_of new ≡ None = before.synced ∙ sym (seen_at synced_of olds scheduler old.0 old.1.0) ∙ nobody scheduler in
                    let idle : old.0.desk.requests ≡ [] = sym (ap (λ (d : DeskState). d.requests) before.desk) ∙ each_get IsNotDue news scheduler new due some.2 unsynced in
                    let clash : Some [] ≡ Some (request ∷ works.0) = sym (left_there scheduler old.0 old.1.0 ∙ ap (λ (l : List Request). Some l) idle) ∙ works.1 in
                    absurd (cc)
                | inr syncs ↦ syncs.seen_all
              ]
          | inr none ↦
              let all : length news ≡ schedulers stage.settings = may_count history olds news may ∙ world.count in
              absurd (omega (arith, all, none.0, known))
        ]

        has_not : (scheduler : ℕ) → HasNoWork stage.settings trace (rows_begun stage) stage.opened_at history scheduler
            → synced_at (map synced_of news) scheduler ≡ None
        has_not scheduler idle = elim (slice_get_cases news scheduler).1 [
          | inl some ↦
              let new : Worker = some.0 in
              let old = stood history olds news may scheduler new some.2 in
              seen_at synced_of news scheduler new some.2
              ∙ elim old.1.1.does [
                | inl before ↦ before.synced ∙ sym (seen_at synced_of olds scheduler old.0 old.1.0) ∙ nobody scheduler
                | inr syncs ↦
                    let both : Some old.0.desk.requests ≡ Some [] = sym (left_there scheduler old.0 old.1.0) ∙ idle in
                    let none : old.0.desk.requests ≡ [] = cc in
                    absurd (syncs.work none)
              ]
          | inr none ↦ unseen news scheduler none.1
        ]

        all_synced : Syncing stage.settings trace (rows_begun stage) stage.opened_at history (world_at history news) (schedulers stage.settings)
        all_synced = record {
          same = refl;
          have = has_synced;
          idle = λ scheduler below. has_not scheduler;
          wait = λ scheduler above.
              let all : length news ≡ schedulers stage.settings = may_count history olds news may ∙ world.count in
              elim (slice_get_cases news scheduler).1 [
                | inl some ↦ let within : scheduler < length news = some.1 in absurd (omega (arith, all, above, within))
                | inr none ↦ unseen news scheduler none.1
              ];
        }

      -- the first half of a turn is done
      pub turn_synced : SyncsTurn (state_at stage history olds) (state_at stage history news)
      turn_synced = syncing_all (state_at stage history olds) (state_at stage history news) (schedulers stage.settings) (record {
        stage = refl;
        to_do = let same : sum_by to_do_of news ≡ sum_by to_do_of olds = same_to_do history olds news may in omega (arith, same);
        syncing = λ trace before start round now nobody.
            subst (λ (n : ℕ). Syncing stage.settings trace (before ++ round.rows) n history (world_at history news) (schedulers stage.settings)) now.opened
            (subst (λ (rows : List Row). Syncing stage.settings trace rows stage.opened_at history (world_at history news) (schedulers stage.settings)) now.rows
            (all_synced trace now.made nobody));
      }) refl
