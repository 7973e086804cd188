-- Players before their round, and the workers that they bring back from it.
use Rattle.std.proofs.Common.{◌≡◌, ◌≤◌, ◌<◌, ◌*◌, ◌-◌, ℕ, true, false, List, length, drop, get_or, map, Option, Some, None, refl, sym, ap, subst, arith, ◌∙◌, inl, inr}
use Rattle.std.specs.Prelude.{All, Any, option_map, slice_get}
use Rattle.std.specs.List.{list_any, AllByRecursion as Each}
use Rattle.std.proofs.lemmas.Bool.{both_ways}
use Rattle.std.proofs.lemmas.List.{length-map}
use Rattle.std.proofs.lemmas.List.Elements.{All-map}
use Rattle.std.proofs.lemmas.List.Folds.{list_any_at}
use Rattle.std.proofs.lemmas.Option.{get_or_from_slice_get, slice_get-get_or, slice_get-map, slice_get_cases, slice_get_read, slice_get_within}
use Rattle.atomic_table.specs.Seated.{TableId}
use Rattle.omega_lock.specs.Lists.{StartsWith}
use Rattle.omega_model.specs.Policy.{schedulers}
use Rattle.omega_model.specs.Ranges.{IsInRange}
use Rattle.omega_model.specs.Work.{is_commit_of}
use Rattle.omega_model.specs.declared.entries.Entry.{Entry}
use Rattle.omega_model.specs.declared.settings.Settings.{Settings}
use Rattle.omega_model.proofs.Lists.{by_answer}
use Rattle.omega_shared.specs.Commits.{GoesOnWithout}
use Rattle.omega_shared.specs.Passes.{PassState, new_pass}
use Rattle.omega_workers.specs.AttemptsLeft.{attempts_left}
use Rattle.omega_board.proofs.Places.{each_get, each_place}
use Rattle.omega_plan.specs.Indexes.{AreIndexesOf}
use Rattle.omega_plan.specs.declared.indexes.Indexes.{Indexes}
use Rattle.omega_rounds.specs.Closed.{AreBack, IsBack, IsCommitOfOne, Suffice}
use Rattle.omega_rounds.specs.Keeping.{AreIndexesFor}
use Rattle.omega_rounds.specs.Players.{HasPlayed, HavePlayed, IsOwnDesk, MayPlay, OwnMayStand}
use Rattle.omega_workers.specs.Workers.{IsWorker, to_do_of}
use Rattle.omega_rounds.specs.declared.threads.player.Player.{Player}
use Rattle.omega_workers.specs.declared.worker.Worker.{Worker}
use Rattle.omega_desk.specs.Desks.{left_at}
use Rattle.omega_rounds.proofs.Without.{desk_without, indexes_without, worker_without, stand_without}

-- what stands at a place of a list stands seen there
mapped_at : {X Y : Type 0} (f : X → Y) (xs : List X) (ys : List Y) (place : ℕ) (x : X) → map f xs ≡ ys → slice_get xs place ≡ Some x → slice_get ys place ≡ Some (f x)
mapped_at f xs ys place x same is = ap (λ zs. slice_get zs place) (sym same) ∙ slice_get-map f xs place ∙ ap (option_map f) is

-- what is seen as something is something
some_from : {X Y : Type 0} (f : X → Y) (found : Option X) (y : Y) → option_map f found ≡ Some y → (x : X) × ((found ≡ Some x) × (f x ≡ y))
some_from f None y is = absurd (cc)
some_from f (Some x) y is = (x, (refl, cc))

-- what is seen at a place stands there
seen_from : {X Y : Type 0} (f : X → Y) (xs : List X) (ys : List Y) (place : ℕ) (y : Y) → map f xs ≡ ys → slice_get ys place ≡ Some y
    → (x : X) × ((slice_get xs place ≡ Some x) × (f x ≡ y))
seen_from f xs ys place y same is =
    some_from f (slice_get xs place) y (sym (slice_get-map f xs place) ∙ ap (λ zs. slice_get zs place) same ∙ is)

-- the indexes of each player are those of a history, if all that they have are
pub have_indexes : (history : List Entry) (indexes : List Indexes) (players : List Player) → map (λ (player : Player). player.indexes) players ≡ indexes → Each (AreIndexesOf history) indexes
    → (number : ℕ) (player : Player) → slice_get players number ≡ Some player → AreIndexesOf history player.indexes
have_indexes history indexes players same each number player here =
    each_get (AreIndexesOf history) indexes number player.indexes each (mapped_at (λ (p : Player). p.indexes) players indexes number player same here)

-- nobody failed where no player has
pub none_failed : (players : List Player) → list_any (λ player. player.failed) players ≡ false
    → (place : ℕ) (player : Player) → slice_get players place ≡ Some player → player.failed ≡ false
none_failed players none place player is =
    by_answer player.failed
    (λ yes. absurd (both_ways _ none (list_any_at (λ (p : Player). p.failed) players place player (slice_get_within players place player is)
    (ap (λ (p : Player). p.failed) (get_or_from_slice_get players place player player is) ∙ yes))))
    (λ no. no)

-- the player of a scheduler before its round: it has the scheduler's worker, its pass has seen the history, and
-- it hasn't failed
pub record IsNewPlayer (of : TableId) (turns : ℕ) (first : List Entry) (number : ℕ) (player : Player) : Type 0 where
  pub pass : player.pass ≡ new_pass of turns first number
  pub failed : player.failed ≡ false

module _ (settings : Settings) (of : TableId) (turns : ℕ) (first : List Entry) (workers : List Worker) (passes : List PassState) (players : List Player)
    (of_workers : map (λ (player : Player). player.worker) players ≡ workers)
    (of_passes : map (λ (player : Player). player.pass) players ≡ passes)
    (fresh : All (λ (player : Player). player.failed ≡ false) players)
    (all : length workers ≡ schedulers settings)
    (numbered : (number : ℕ) → number < schedulers settings → slice_get passes number ≡ Some (new_pass of turns first number))
    (each : (number : ℕ) (worker : Worker) → slice_get workers number ≡ Some worker → IsWorker settings first number worker) where
  -- there are as many as schedulers
  players_count : length players ≡ schedulers settings
  players_count = sym (length-map players (λ (player : Player). player.worker)) ∙ ap (λ (ss : List Worker). length ss) of_workers ∙ all

  new_player : (number : ℕ) (player : Player) → slice_get players number ≡ Some player → IsNewPlayer of turns first number player
  new_player number player here =
      let inside : number < length players = slice_get_within players number player here in
      let known : number < schedulers settings = omega (arith, inside, players_count) in
      let both : Some player.pass ≡ Some (new_pass of turns first number) =
      sym (mapped_at (λ (p : Player). p.pass) players passes number player of_passes here) ∙ numbered number known in
      let same : player.pass ≡ new_pass of turns first number = cc in record {
        pass = same;
        failed = subst (λ (p : Player). p.failed ≡ false) (get_or_from_slice_get players number player player here) (fresh number player inside);
      }

  worker_there : (number : ℕ) (player : Player) → slice_get players number ≡ Some player → slice_get workers number ≡ Some player.worker
  worker_there number player here = mapped_at (λ (p : Player). p.worker) players workers number player of_workers here

  -- each may play
  pub may_play : IsInRange settings → Suffice settings workers turns
      → ((number : ℕ) (player : Player) → slice_get players number ≡ Some player → AreIndexesOf first player.indexes) → All (MayPlay of) players
  may_play range suffice indexes = λ number other inside.
      let player : Player = get_or players number other in
      let here : slice_get players number ≡ Some player = slice_get-get_or players number other inside in
      let is : IsNewPlayer of turns first number player = new_player number player here in
      let there : slice_get workers number ≡ Some player.worker = worker_there number player here in
      let worker : IsWorker settings first number player.worker = each number player.worker there in
      let own : settings ≡ player.worker.desk.settings = sym worker.settings in
      let known : number < schedulers settings = omega (arith, inside, players_count) in
      let few : 2 * (length player.worker.desk.requests * settings.tries) ≤ turns =
      subst (λ (s : Worker). 2 * (length s.desk.requests * settings.tries) ≤ turns) (get_or_from_slice_get workers number player.worker player.worker there)
      (suffice number player.worker (slice_get_within workers number player.worker there)) in
      record {
        of = ap (λ (p : PassState). p.of) is.pass;
        range = subst (λ (s : Settings). IsInRange s) own range;
        known = subst (λ (s : Settings). player.pass.number < schedulers s) own
            (subst (λ (p : PassState). p.number < schedulers settings) (sym is.pass) known);
        worker = subst (λ (s : Settings). IsWorker s player.pass.seen player.pass.number player.worker) own
            (subst (λ (p : PassState). IsWorker settings p.seen p.number player.worker) (sym is.pass) worker);
        indexes = subst (λ (p : PassState). AreIndexesOf p.seen player.indexes) (sym is.pass) (indexes number player here);
        turns = subst (λ (p : PassState). 2 * to_do_of player.worker ≤ p.turns) (sym is.pass)
            (subst (λ (s : Settings). 2 * attempts_left s (left_at player.worker.desk) ≤ turns) (sym worker.settings)
            (few_left (length player.worker.desk.requests * settings.tries) player.worker.desk.taken turns few));
      }
    where
      few_left : (all taken turns : ℕ) → 2 * all ≤ turns → 2 * (all - taken) ≤ turns
      few_left all taken turns few = omega (arith, few)

  module _ (after : List Player) (played : HavePlayed players after) where
    -- the player of a scheduler before and after
    before_of : (number : ℕ) (player : Player) → slice_get after number ≡ Some player
        → (was : Player) × ((slice_get players number ≡ Some was) × HasPlayed was player)
    before_of number player here =
        let count : length after ≡ length players = played.count in
        let inside : number < length after = slice_get_within after number player here in
        elim (slice_get_cases players number).1 [
          | inl some ↦
              let found = played.each number some.0 some.2 in
              let both : Some found.0 ≡ Some player = sym found.1.0 ∙ here in
              let same : found.0 ≡ player = cc in
              (some.0, (some.2, subst (HasPlayed some.0) same found.1.1))
          | inr past ↦ absurd (omega (arith, past.0, count, inside))
        ]

    -- there are as many after as schedulers
    pub after_count : length after ≡ schedulers settings
    after_count = played.count ∙ players_count

    -- and their passes are of the cell that was shared
    pub of_cell : All (λ (pass : PassState). pass.of ≡ of) (map (λ (player : Player). player.pass) after)
    of_cell = All-map (λ (pass : PassState). pass.of ≡ of) (λ (player : Player). player.pass) after (λ number other inside.
        let player : Player = get_or after number other in
        let found = before_of number player (slice_get-get_or after number other inside) in
        found.1.1.of ∙ ap (λ (p : PassState). p.of) (new_player number found.0 found.1.0).pass)

    number_of : (number : ℕ) (player : Player) → slice_get after number ≡ Some player → player.pass.number ≡ number
    number_of number player here =
        let found = before_of number player here in
        found.1.1.number ∙ ap (λ (p : PassState). p.number) (new_player number found.0 found.1.0).pass

    module _ (history : List Entry)
        (others : All (λ (pass : PassState). GoesOnWithout pass.number pass.seen history) (map (λ (player : Player). player.pass) after)) where
      goes_on : (number : ℕ) (player : Player) → slice_get after number ≡ Some player → (was : Player) → IsNewPlayer of turns first number was
          → HasPlayed was player → GoesOnWithout player.pass.number player.pass.seen history
      goes_on number player here was is did =
          let seen : List PassState = map (λ (p : Player). p.pass) after in
          let there : slice_get seen number ≡ Some player.pass = mapped_at (λ (p : Player). p.pass) after seen number player refl here in
          subst (λ (p : PassState). GoesOnWithout p.number p.seen history)
          (get_or_from_slice_get seen number player.pass player.pass there)
          (others number player.pass (slice_get_within seen number player.pass there))

      -- the indexes that they bring back are those of a history that goes on from what each has seen
      pub indexes_back : AreIndexesFor (schedulers settings) history (map (λ (player : Player). player.indexes) after)
      indexes_back =
          let indexes : List Indexes = map (λ (player : Player). player.indexes) after in
          record {
            count = length-map after (λ (player : Player). player.indexes) ∙ after_count;
            each = each_place (AreIndexesOf history) indexes (λ number one here.
                let found = seen_from (λ (p : Player). p.indexes) after indexes number one refl here in
                let player : Player = found.0 in
                let before = before_of number player found.1.0 in
                let is : IsNewPlayer of turns first number before.0 = new_player number before.0 before.1.0 in
                subst (AreIndexesOf history) found.1.1
                (indexes_without player.pass.number player.pass.seen history (goes_on number player found.1.0 before.0 is before.1.1) player.indexes before.1.1.indexes));
          }

      module _
          (succeeded : (place : ℕ) (player : Player) → slice_get after place ≡ Some player → player.failed ≡ false)
          (begins : StartsWith history first)
          (commits : All (λ entry. Any (λ (pass : PassState). is_commit_of pass.number entry ≡ true) (map (λ (player : Player). player.pass) after)) (drop (length first) history)) where
        since : All (IsCommitOfOne (length workers)) (drop (length first) history)
        since = λ place entry inside.
            let by = commits place entry inside in
            let k : ℕ = by.0 in
            let pass : PassState = by.1 in
            let seen : List PassState = map (λ (player : Player). player.pass) after in
            let count : length seen ≡ length after = length-map after (λ (player : Player). player.pass) in
            let below : k < length seen = by.2 in
            let as_many : length after ≡ length players = played.count in
            let one = seen_from (λ (p : Player). p.pass) after seen k pass refl (slice_get_read seen (length seen) k pass refl below (sym by.3)) in
            record {
              scheduler = k;
              known = omega (arith, below, count, as_many, players_count, all);
              commit = subst (λ (n : ℕ). is_commit_of n (get_or (drop (length first) history) place entry) ≡ true) (ap (λ (p : PassState). p.number) (sym one.1.1) ∙ number_of k one.0 one.1.0) by.4;
            }

        back_of : (number : ℕ) (was player : Player) → IsNewPlayer of turns first number was → HasPlayed was player → player.failed ≡ false
            → GoesOnWithout player.pass.number player.pass.seen history → IsBack was.worker.desk.settings first history number was.worker player.worker
        back_of number was player is did good on =
            let chosen : Settings = was.worker.desk.settings in
            let same : player.pass.number ≡ number = did.number ∙ ap (λ (p : PassState). p.number) is.pass in
            let old_number : was.pass.number ≡ number = ap (λ (p : PassState). p.number) is.pass in
            let old_seen : was.pass.seen ≡ first = ap (λ (p : PassState). p.seen) is.pass in
            let on_number : GoesOnWithout number player.pass.seen history = subst (λ (n : ℕ). GoesOnWithout n player.pass.seen history) same on in
            record {
              worker = worker_without number player.pass.seen history on_number chosen player.worker
                  (subst (λ (n : ℕ). IsWorker chosen player.pass.seen n player.worker) same did.worker);
              desk = λ trace rows opened_at within desk.
                  let before : opened_at ≤ length was.pass.seen = subst (λ (h : List Entry). opened_at ≤ length h) (sym old_seen) within in
                  let longer : length was.pass.seen ≤ length player.pass.seen = did.within in
                  desk_without number player.pass.seen history on_number chosen trace rows opened_at player.worker.desk (omega (arith, before, longer))
                  (subst (λ (n : ℕ). IsOwnDesk chosen trace rows opened_at player.pass.seen n player.worker.desk) same
                  (did.desk trace rows opened_at before
                  (subst (λ (h : List Entry). IsOwnDesk chosen trace rows opened_at h was.pass.number was.worker.desk) (sym old_seen)
                  (subst (λ (n : ℕ). IsOwnDesk chosen trace rows opened_at first n was.worker.desk) (sym old_number) desk))));
              commits = λ opened_at within stand.
                  let before : opened_at ≤ length was.pass.seen = subst (λ (h : List Entry). opened_at ≤ length h) (sym old_seen) within in
                  stand_without number player.pass.seen history on_number chosen opened_at
                  (subst (λ (n : ℕ). OwnMayStand chosen opened_at n player.pass.seen) same
                  (did.commits opened_at before
                  (subst (λ (h : List Entry). OwnMayStand chosen opened_at was.pass.number h) (sym old_seen)
                  (subst (λ (n : ℕ). OwnMayStand chosen opened_at n first) (sym old_number) stand))));
              no_work = did.no_work good;
              spent = did.spent good is.failed;
            }

        -- all are back
        pub are_back : AreBack settings first history workers (map (λ (player : Player). player.worker) after)
        are_back = record {
          count = length-map after (λ (player : Player). player.worker) ∙ played.count ∙ players_count ∙ sym all;
          begins = begins;
          since = since;
          each = λ number worker here.
              let one = seen_from (λ (p : Player). p.worker) after (map (λ (player : Player). player.worker) after) number worker refl here in
              let found = before_of number one.0 one.1.0 in
              let is : IsNewPlayer of turns first number found.0 = new_player number found.0 found.1.0 in (
                found.0.worker,
                (
                  worker_there number found.0 found.1.0,
                  subst (IsBack settings first history number found.0.worker) one.1.1
                      (subst (λ (s : Settings). IsBack s first history number found.0.worker one.0.worker)
                      (each number found.0.worker (worker_there number found.0 found.1.0)).settings
                      (back_of number found.0 one.0 is found.1.1 (succeeded number one.0 one.1.0) (goes_on number one.0 one.1.0 found.0 is found.1.1))),
                ),
              );
        }
