-- What a world tells, and whose moment it stands at after each of its steps.
use Rattle.std.proofs.Common.{◌≡◌, ◌≤◌, ◌<◌, ◌+◌, ℕ, zero, suc, true, List, [], ◌∷◌, ◌++◌, Option, Some, None, length, take, drop, refl, sym, ap, ap₂, subst, ◌∙◌, arith, length-append}
use Rattle.std.specs.Prelude.{All, IfSome, option_map, slice_get}
use Rattle.std.specs.List.{AllByRecursion as Each}
use Rattle.std.proofs.lemmas.List.{drop-append-le, take-append-le, take_all, drop_all}
use Rattle.std.proofs.lemmas.List.Elements.{All-nil, All-append, All-cons}
use Rattle.omega_feed.specs.Asked.{Asked, asked_after}
use Rattle.omega_feed.specs.Open.{OthersAreQuiet}
use Rattle.omega_laws.specs.Simulated.{greatest_time}
use Rattle.omega_laws.specs.VirtualTime.{Timed}
use Rattle.omega_model.specs.ExtraTasks.{first_extra}
use Rattle.omega_model.specs.Feed.{rounds}
use Rattle.omega_model.specs.Lawful.{opened}
use Rattle.omega_model.specs.Ranges.{IsInRange}
use Rattle.omega_model.specs.State.{state}
use Rattle.omega_model.specs.Touches.{is_commit}
use Rattle.omega_model.specs.Wanted.{WantedTask}
use Rattle.omega_model.specs.declared.cells.TaskKey.{TaskKey}
use Rattle.omega_model.specs.declared.claims.Judgement.{Judgement}
use Rattle.omega_model.specs.declared.claims.Txn.{Txn}
use Rattle.omega_model.specs.declared.entries.Entry.{Entry}
use Rattle.omega_model.specs.declared.entries.Entry.TheVariants.{Commit, End}
use Rattle.omega_model.specs.declared.rows.Round.{Round}
use Rattle.omega_model.specs.declared.rows.Row.{Row}
use Rattle.omega_model.specs.declared.rows.TraceTables.{TraceTables}
use Rattle.omega_model.specs.declared.settings.Ends.{Ends}
use Rattle.omega_model.specs.declared.settings.Ends.TheVariants.{Own, Trace}
use Rattle.omega_model.specs.declared.settings.Settings.{Settings}
use Rattle.omega_opening.specs.Reopening.{WereQuiet}
use Rattle.omega_plan.specs.Indexes.{AreIndexesOf}
use Rattle.omega_workers.proofs.CommitCounts.{indexes_on}
use Rattle.omega_free_laws.specs.FreeSteps.{DueCommit, Moment, committing, due_entry, end_entries, ending, first_due, opening, past_ended, past_opened, past_with, triggers_of_end}
use Rattle.omega_free_laws.specs.Lives.{DueEnd}
use Rattle.omega_free_laws.specs.Passes.{Attempt, Past, wanted_at}
use Rattle.omega_free_laws.specs.Readings.{Reading}
use Rattle.omega_free_laws.proofs.DueEnds.{own_end_is}
use Rattle.omega_free_laws.proofs.Seen.{stays_ended, stays_opened}
use Rattle.omega_pieces.proofs.Counting.{counting_same}
use Rattle.omega_free.specs.EndsBy.{EndsBy, FindsBy, NotesBy, OpensBy, StandsBy, cause_of_end}
use Rattle.omega_free.specs.FreeLoop.{IsDueFirst, due_time, end_at_moment, end_time, first_time}
use Rattle.omega_free.specs.FreeRuns.{reading_by, reading_of}
use Rattle.omega_free.specs.FreeWorkers.{AreCounted, AreKnown, AreNumbered, AreWorkersNow, CommitsWanted, IsItsAttempt, IsMoment, OneMayCommit, SyncIfIdle, SyncIfIts, TakeIfDue, by_and_time, due_among, wanted_entry}
use Rattle.omega_free.specs.FreeWorlds.{Stands}
use Rattle.omega_free.specs.KeptEnds.{KeepsEndsBy}
use Rattle.omega_free.specs.KeptWorlds.{IsNext, KeepsWorld, StandsIn, state_of}
use Rattle.omega_free.specs.declared.next_round.NextRound.{NextRound}
use Rattle.omega_free.specs.PassDesks.{IsAsked, asked_at}
use Rattle.omega_free.specs.declared.own_ends.OwnEnds.{OwnEnds}
use Rattle.omega_free.specs.declared.worker.Worker.{Worker}
use Rattle.omega_free.specs.declared.world.World.{World}
use Rattle.omega_free.proofs.FreeWorlds.{commits, ends, opens}
use Rattle.omega_free.proofs.ReadyToCommit.{attempt_there, counted, counted_there, due_there, known_there, may_commit_there, numbered_there}
use Rattle.omega_free.proofs.SchedulersWorkers.{workers_none}
use Rattle.omega_free.proofs.WorkersCommit.{still_counted, still_known, still_numbered}

-- ---- what it tells

-- the item at a place is the first of what is behind the place
get_drop : {X : Type 0} (n : ℕ) (xs : List X) → slice_get (drop n xs) 0 ≡ slice_get xs n
get_drop zero xs = refl
get_drop (suc n) [] = refl
get_drop (suc n) (x ∷ xs) = get_drop n xs

drop_more : {X : Type 0} (n : ℕ) (xs : List X) (x : X) (rest : List X) → drop n xs ≡ x ∷ rest → drop (n + 1) xs ≡ rest
drop_more zero [] x rest is = absurd (cc)
drop_more zero (y ∷ ys) x rest is = let same : ys ≡ rest = cc in same
drop_more (suc n) [] x rest is = absurd (cc)
drop_more (suc n) (y ∷ ys) x rest is =
    let more : suc n + 1 ≡ suc (n + 1) = omega arith in
    ap (λ (k : ℕ). drop k (y ∷ ys)) more ∙ drop_more n ys x rest is

first_told : (next : Option NextRound) (coming : List Round) → option_map (λ (it : NextRound). it.round) next ≡ slice_get coming 0
    → IfSome next (λ it. it.due ≡ greatest_time it.round.rows) → option_map (λ (it : NextRound). it.due) next ≡ first_time coming
first_told None [] is due = refl
first_told None (round ∷ rest) is due = absurd (cc)
first_told (Some it) [] is due = absurd (cc)
first_told (Some it) (round ∷ rest) is due =
    let same : it.round ≡ round = cc in
    ap (λ (n : ℕ). Some n) (due ∙ ap (λ (r : Round). greatest_time r.rows) same)

due_time_is : (first : Option DueCommit) → option_map by_and_time first ≡ due_time first
due_time_is None = refl
due_time_is (Some due) = refl

low_by : (ends : Ends) (trace : TraceTables) (history : List Entry) (times : List Timed) (end : DueEnd) → (reading_by ends trace).end_due history times ≡ Some end
    → end.key.index < first_extra
low_by Trace trace history times end is = absurd (cc)
low_by Own trace history times end is =
    let due = own_end_is trace history times end is in
    subst (λ (key : TaskKey). key.index < first_extra) (sym due.key) due.low

time_is_of : (end : Option DueEnd) → option_map (λ (it : DueEnd). it.time) end ≡ end_time end
time_is_of None = refl
time_is_of (Some end) = refl

module _ (world : World) (trace : TraceTables) (moment : Moment) (is : StandsIn world trace moment) where
  pub end_told : option_map (λ (it : DueEnd). it.time) world.due_end ≡ end_time (end_at_moment (reading_of world.settings trace) moment)
  end_told = ap (option_map (λ (it : DueEnd). it.time)) is.due ∙ time_is_of ((reading_of world.settings trace).end_due moment.past.history moment.times)

  pub round_told : option_map (λ (it : NextRound). it.due) world.next ≡ first_time moment.coming
  round_told =
      first_told world.next (drop world.opened world.rounds) (is.keeps.next.round ∙ sym (get_drop world.opened world.rounds)) is.keeps.next.due
      ∙ ap first_time is.stands.there.coming

  -- no round is to come where none is at hand
  pub none_to_come : None ≡ world.next → (round : Round) (rest : List Round) → moment.coming ≡ round ∷ rest → ⊥
  none_to_come none round rest ahead =
      let clash : None ≡ Some (greatest_time round.rows) =
      ap (option_map (λ (it : NextRound). it.due)) none ∙ round_told ∙ ap first_time ahead in
      absurd (cc)

  pub commit_told : option_map by_and_time (due_among world.workers.items) ≡ due_time (first_due moment.crew)
  commit_told =
      ap (option_map by_and_time) (due_there world.settings (reading_of world.settings trace) moment (state_of world) is.stands) ∙ due_time_is (first_due moment.crew)

  pub known_in : AreKnown world.settings world.workers.items
  known_in = known_there world.settings (reading_of world.settings trace) moment (state_of world) is.stands is.keeps.range.batch.1

  pub may_commit_in : (by : ℕ) → IsDueFirst by moment → OneMayCommit world.settings world.demand.wanted.tasks world.cell.history by world.workers.items
  may_commit_in by due =
      subst (λ (n : ℕ). OneMayCommit world.settings world.demand.wanted.tasks world.cell.history n world.workers.items) due.1.1
      (may_commit_there world.settings (reading_of world.settings trace) moment (state_of world) is.stands due.0 is.keeps.range.batch.1 due.1.0)

  -- what it stands at beside its moment
  pub stands_by_in : StandsBy world.settings.ends world.settings trace moment.past moment.times world.cell.history world.demand.wanted world.own
  stands_by_in = record {
    tells = record { history_is = is.stands.there.history; asks = is.stands.there.asked };
    keeps = is.ends;
  }

  -- an end that is due is that of a task of the trace
  pub low_in : (end : DueEnd) → world.due_end ≡ Some end → end.key.index < first_extra
  low_in end here = low_by world.settings.ends trace moment.past.history moment.times end (sym is.due ∙ here)

-- ---- where entries were looked at to the end

module _ (world : World) (looked : world.looked_at ≡ length world.cell.history) where
  looked_within : world.looked_at ≤ length world.cell.history
  looked_within = omega (arith, looked)

  looked_commits : All (λ entry. is_commit entry ≡ true) (drop world.looked_at world.cell.history)
  looked_commits =
      subst (All (λ entry. is_commit entry ≡ true)) (sym (drop_all world.looked_at world.cell.history (omega (arith, looked)))) (All-nil (λ entry. is_commit entry ≡ true))

  looked_quiet : OthersAreQuiet world.demand.open_jobs world.demand.wanted (state world.cell.history).tasks
      → WereQuiet world.demand.open_jobs world.demand.wanted world.looked_at world.cell.history
  looked_quiet quiet =
      subst (λ (h : List Entry). OthersAreQuiet world.demand.open_jobs world.demand.wanted (state h).tasks)
      (sym (take_all world.looked_at world.cell.history (omega (arith, looked)))) quiet

-- ---- an opening

-- the indexes of a history are those of the history in which a round opened
pub indexes_opened : (trace : TraceTables) (rows : List Row) (history : List Entry) (round : Round) (indexes : _) → AreIndexesOf history indexes
    → AreIndexesOf (opened trace rows history round).history indexes
indexes_opened trace rows history round indexes are =
    stays_opened (λ (h : List Entry). AreIndexesOf h indexes)
    (λ before entry none still. indexes_on indexes before (before ++ entry ∷ []) (entry ∷ [], refl) still)
    trace rows history round are

-- with the same settings and rounds, these are the trace's still
same_rounds : (old new : World) (trace : TraceTables) {moment : Moment} → new.settings ≡ old.settings → new.rounds ≡ old.rounds → StandsIn old trace moment
    → new.rounds ≡ rounds trace new.settings.window
same_rounds old new trace settings_are rounds_are is = rounds_are ∙ is.rounds ∙ sym (ap (λ (s : Settings). rounds trace s.window) settings_are)

-- what a world keeps beside a moment after a step
kept_then : (old new : World) → new.settings ≡ old.settings → KeepsWorld old → IsNext new.rounds new.opened new.next
    → new.looked_at ≡ length new.cell.history → OthersAreQuiet new.demand.open_jobs new.demand.wanted (state new.cell.history).tasks
    → AreIndexesOf new.cell.history new.indexes → KeepsWorld new
kept_then old new settings_are keeps next looked quiet indexes = record {
  range = subst IsInRange (sym settings_are) keeps.range;
  next = next;
  within = looked_within new looked;
  commits = looked_commits new looked;
  quiet = looked_quiet new looked quiet;
  indexes = indexes;
}

-- the next round is at hand where it was, and no round has opened
next_then : (old new : World) → new.rounds ≡ old.rounds → new.opened ≡ old.opened → new.next ≡ old.next → IsNext old.rounds old.opened old.next
    → IsNext new.rounds new.opened new.next
next_then old new rounds_are opened_are next_are next =
    subst (λ (rs : List Round). IsNext rs new.opened new.next) (sym rounds_are)
    (subst (λ (n : ℕ). IsNext old.rounds n new.next) (sym opened_are)
    (subst (IsNext old.rounds old.opened) (sym next_are) next))

-- what a world keeps of ends after a step, where the end that is due first was found anew
module _ (old new : World) (settings_are : new.settings ≡ old.settings) (trace : TraceTables) (past : Past) (times : List Timed) (middle : Option OwnEnds)
    (stood : StandsBy old.settings.ends old.settings trace past times new.cell.history new.demand.wanted middle)
    (finds : FindsBy new.cell.history middle new.own new.due_end) where
  found : (new.due_end ≡ (reading_of old.settings trace).end_due new.cell.history times) × KeepsEndsBy old.settings.ends trace past.rows new.cell.history times new.own
  found =
      finds old.settings.ends trace past.rows times
      (subst (λ (h : List Entry). KeepsEndsBy old.settings.ends trace past.rows h times middle) (sym stood.tells.history_is) stood.keeps)

  ends_then : KeepsEndsBy new.settings.ends trace past.rows past.history times new.own
  ends_then =
      subst (λ (s : Settings). KeepsEndsBy s.ends trace past.rows past.history times new.own) (sym settings_are)
      (subst (λ (h : List Entry). KeepsEndsBy old.settings.ends trace past.rows h times new.own) stood.tells.history_is found.1)

  due_then : new.due_end ≡ (reading_of new.settings trace).end_due past.history times
  due_then =
      subst (λ (s : Settings). new.due_end ≡ (reading_of s trace).end_due past.history times) (sym settings_are)
      (found.0 ∙ ap (λ (h : List Entry). (reading_of old.settings trace).end_due h times) stood.tells.history_is)

-- it is asked for something by the rows that count
pub asked_of : (ends : Ends) (settings : Settings) (trace : TraceTables) (past : Past) (times : List Timed) (history : List Entry) (asked : Asked) (own : Option OwnEnds)
    → StandsBy ends settings trace past times history asked own → IsAsked asked
asked_of ends settings trace past times history asked own stood = record {
  settings = settings;
  trace = (reading_by ends trace).trace;
  rows = (reading_by ends trace).counted past.rows past.history;
  asks = stood.tells.asks;
}

-- a world opens this round, which is the next one, with these ends kept between
pub record OpensIt (old new : World) (round : Round) (due : ℕ) (middle : Option OwnEnds) : Type 0 where
  pub next_was : old.next ≡ Some (record { round = round; due = due })
  pub settings_are : new.settings ≡ old.settings
  pub rounds_are : new.rounds ≡ old.rounds
  pub opened_are : new.opened ≡ old.opened + 1
  pub triggers_are : new.triggers ≡ old.triggers + 1
  pub next_is : IsNext new.rounds new.opened new.next
  pub opens : OpensBy round old.cell.history old.demand.wanted old.own new.cell.history new.demand.wanted middle
  pub finds : FindsBy new.cell.history middle new.own new.due_end
  pub quiet : OthersAreQuiet new.demand.open_jobs new.demand.wanted (state new.cell.history).tasks
  pub looked : new.looked_at ≡ length new.cell.history
  pub indexes : AreIndexesOf new.cell.history new.indexes
  pub times : new.times ≡ old.times
  pub syncs : (reading : Reading) (past : Past) → IsMoment old.settings reading new.demand.wanted new.cell.history new.triggers past
      → AreCounted new.cell.history old.workers.items → SyncIfIdle old.settings reading past due old.workers.items new.workers.items

-- what is asked for once a world has opened a round, and the indexes then
module _ (old : World) (trace : TraceTables) (moment : Moment) (is : StandsIn old trace moment) (round : Round) (later : List Entry) (asked : Asked)
    (middle : Option OwnEnds) (opens : OpensBy round old.cell.history old.demand.wanted old.own later asked middle) where
  abbrev opened_past : Past
  opened_past = past_opened (reading_of old.settings trace) moment.past round

  pub opened_by : StandsBy old.settings.ends old.settings trace opened_past moment.times later asked middle
  opened_by = opens old.settings.ends old.settings trace moment.past moment.times (stands_by_in old trace moment is)

  pub opened_asks : IsAsked asked
  opened_asks = asked_of old.settings.ends old.settings trace opened_past moment.times later asked middle opened_by

  pub opened_indexes : AreIndexesOf later old.indexes
  opened_indexes =
      subst (λ (h : List Entry). AreIndexesOf h old.indexes) (sym opened_by.tells.history_is)
      (indexes_opened (reading_of old.settings trace).trace moment.past.rows moment.past.history ((reading_of old.settings trace).heeded round) old.indexes
      (subst (λ (h : List Entry). AreIndexesOf h old.indexes) is.stands.there.history is.keeps.indexes))

module _ (old new : World) (round : Round) (due : ℕ) (middle : Option OwnEnds) (it : OpensIt old new round due middle) (trace : TraceTables) (moment : Moment)
    (is : StandsIn old trace moment) (first : Round) (rest : List Round) (ahead : moment.coming ≡ first ∷ rest) where
  abbrev reads : Reading
  reads = reading_of old.settings trace

  abbrev next_past : Past
  next_past = past_opened reads moment.past first

  coming_was : drop old.opened old.rounds ≡ first ∷ rest
  coming_was = is.stands.there.coming ∙ ahead

  is_first : round ≡ first
  is_first =
      let both : Some round ≡ Some first =
      ap (option_map (λ (n : NextRound). n.round)) (sym it.next_was) ∙ is.keeps.next.round
      ∙ sym (get_drop old.opened old.rounds) ∙ ap (λ (coming : List Round). slice_get coming 0) coming_was in
      cc

  is_due : due ≡ greatest_time first.rows
  is_due =
      let told : due ≡ greatest_time round.rows =
      subst (λ (next : Option NextRound). IfSome next (λ n. n.due ≡ greatest_time n.round.rows)) it.next_was is.keeps.next.due in
      told ∙ ap (λ (r : Round). greatest_time r.rows) is_first

  stood : StandsBy old.settings.ends old.settings trace next_past moment.times new.cell.history new.demand.wanted middle
  stood =
      subst (λ (r : Round). StandsBy old.settings.ends old.settings trace (past_opened reads moment.past r) moment.times new.cell.history new.demand.wanted middle)
      is_first (opened_by old trace moment is round new.cell.history new.demand.wanted middle it.opens)

  counted_is : AreCounted new.cell.history old.workers.items
  counted_is =
      subst (λ (h : List Entry). AreCounted h old.workers.items) (sym stood.tells.history_is)
      (counted old.settings reads next_past.history moment.crew old.workers.items
      (stays_opened (λ (h : List Entry). AreWorkersNow old.settings reads.trace h moment.crew old.workers.items)
      (λ before entry none are. workers_none old.settings reads.trace before entry none moment.crew old.workers.items are)
      reads.trace moment.past.rows moment.past.history (reads.heeded first) is.stands.there.workers))

  synced_is : SyncIfIdle old.settings reads next_past (greatest_time first.rows) old.workers.items new.workers.items
  synced_is =
      subst (λ (n : ℕ). SyncIfIdle old.settings reads next_past n old.workers.items new.workers.items) is_due
      (it.syncs reads next_past (record {
        asks = stood.tells.asks;
        history_is = sym stood.tells.history_is;
        triggers_are = ap (λ (n : ℕ). n + 1) (sym is.stands.there.triggers_are) ∙ sym it.triggers_are;
      }) counted_is)

  -- where a moment was the world's, the next one is
  pub opened_stands : StandsIn new trace (opening old.settings reads moment first rest)
  opened_stands = record {
    stands = subst (λ (s : Settings). Stands s (reading_of s trace) (opening old.settings reads moment first rest) (state_of new)) (sym it.settings_are)
        (opens old.settings reads moment first rest (state_of old) (state_of new) ahead is.stands stood.tells.history_is stood.tells.asks
        (ap₂ (λ (n : ℕ) (rs : List Round). drop n rs) it.opened_are it.rounds_are ∙ drop_more old.opened old.rounds first rest coming_was)
        it.triggers_are it.times synced_is);
    keeps = kept_then old new it.settings_are is.keeps it.next_is it.looked it.quiet it.indexes;
    rounds = same_rounds old new trace it.settings_are it.rounds_are is;
    ends = ends_then old new it.settings_are trace next_past moment.times middle stood it.finds;
    due = due_then old new it.settings_are trace next_past moment.times middle stood it.finds;
  }

-- ---- an end

causes : (next : Option NextRound) (coming : List Round) → option_map (λ (it : NextRound). it.round) next ≡ slice_get coming 0
    → cause_of_end next ≡ triggers_of_end coming
causes None [] is = refl
causes None (round ∷ rest) is = absurd (cc)
causes (Some it) [] is = absurd (cc)
causes (Some it) (round ∷ rest) is = refl

-- in a world this end comes, which is due first, with these ends kept between
pub record EndsIt (old new : World) (end : DueEnd) (middle : Option OwnEnds) : Type 0 where
  pub due_was : old.due_end ≡ Some end
  pub settings_are : new.settings ≡ old.settings
  pub rounds_are : new.rounds ≡ old.rounds
  pub opened_are : new.opened ≡ old.opened
  pub next_are : new.next ≡ old.next
  pub triggers_are : new.triggers ≡ old.triggers + cause_of_end old.next
  pub ends : EndsBy end old.cell.history old.demand.wanted old.own new.cell.history new.demand.wanted middle
  pub finds : FindsBy new.cell.history middle new.own new.due_end
  pub quiet : OthersAreQuiet new.demand.open_jobs new.demand.wanted (state new.cell.history).tasks
  pub looked : new.looked_at ≡ length new.cell.history
  pub indexes : AreIndexesOf new.cell.history new.indexes
  pub times : new.times ≡ old.times
  pub syncs : (reading : Reading) (past : Past) → IsMoment old.settings reading new.demand.wanted new.cell.history new.triggers past
      → AreCounted new.cell.history old.workers.items → SyncIfIdle old.settings reading past end.time old.workers.items new.workers.items

-- what is asked for once a task has ended in a world, and the indexes then
module _ (old : World) (trace : TraceTables) (moment : Moment) (is : StandsIn old trace moment) (end : DueEnd) (here : old.due_end ≡ Some end)
    (later : List Entry) (asked : Asked) (middle : Option OwnEnds)
    (ends_it : EndsBy end old.cell.history old.demand.wanted old.own later asked middle) where
  abbrev ended_past : Past
  ended_past = past_ended (reading_of old.settings trace) moment.past end moment.coming

  pub ended_by : StandsBy old.settings.ends old.settings trace ended_past moment.times later asked middle
  ended_by = ends_it old.settings.ends old.settings trace moment.past moment.times moment.coming (stands_by_in old trace moment is) (sym is.due ∙ here)

  pub ended_asks : IsAsked asked
  ended_asks = asked_of old.settings.ends old.settings trace ended_past moment.times later asked middle ended_by

  pub ended_indexes : AreIndexesOf later old.indexes
  ended_indexes =
      indexes_on old.indexes moment.past.history later (end_entries (reading_of old.settings trace) moment.past.rows moment.past.history end, ended_by.tells.history_is)
      (subst (λ (h : List Entry). AreIndexesOf h old.indexes) is.stands.there.history is.keeps.indexes)

module _ (old new : World) (end : DueEnd) (middle : Option OwnEnds) (it : EndsIt old new end middle) (trace : TraceTables) (moment : Moment)
    (is : StandsIn old trace moment) where
  abbrev reads_then : Reading
  reads_then = reading_of old.settings trace

  abbrev past_then : Past
  past_then = past_ended reads_then moment.past end moment.coming

  stood_then : StandsBy old.settings.ends old.settings trace past_then moment.times new.cell.history new.demand.wanted middle
  stood_then = ended_by old trace moment is end it.due_was new.cell.history new.demand.wanted middle it.ends

  counted_then : AreCounted new.cell.history old.workers.items
  counted_then =
      subst (λ (h : List Entry). AreCounted h old.workers.items) (sym stood_then.tells.history_is)
      (counted old.settings reads_then past_then.history moment.crew old.workers.items
      (stays_ended (λ (h : List Entry). AreWorkersNow old.settings reads_then.trace h moment.crew old.workers.items)
      (λ before key machine are. workers_none old.settings reads_then.trace before (End key machine) refl moment.crew old.workers.items are)
      reads_then moment.past.rows moment.past.history end is.stands.there.workers))

  caused : new.triggers ≡ old.triggers + triggers_of_end moment.coming
  caused =
      it.triggers_are
      ∙ ap (λ (n : ℕ). old.triggers + n)
      (causes old.next (drop old.opened old.rounds) (is.keeps.next.round ∙ sym (get_drop old.opened old.rounds)) ∙ ap triggers_of_end is.stands.there.coming)

  synced_then_end : SyncIfIdle old.settings reads_then past_then end.time old.workers.items new.workers.items
  synced_then_end =
      it.syncs reads_then past_then (record {
        asks = stood_then.tells.asks;
        history_is = sym stood_then.tells.history_is;
        triggers_are = ap (λ (n : ℕ). n + triggers_of_end moment.coming) (sym is.stands.there.triggers_are) ∙ sym caused;
      }) counted_then

  ended_stands : StandsIn new trace (ending old.settings reads_then moment end)
  ended_stands = record {
    stands = subst (λ (s : Settings). Stands s (reading_of s trace) (ending old.settings reads_then moment end) (state_of new)) (sym it.settings_are)
        (ends old.settings reads_then moment end (state_of old) (state_of new) is.stands stood_then.tells.history_is stood_then.tells.asks
        (ap₂ (λ (n : ℕ) (rs : List Round). drop n rs) it.opened_are it.rounds_are) caused it.times synced_then_end);
    keeps = kept_then old new it.settings_are is.keeps (next_then old new it.rounds_are it.opened_are it.next_are is.keeps.next) it.looked it.quiet it.indexes;
    rounds = same_rounds old new trace it.settings_are it.rounds_are is;
    ends = ends_then old new it.settings_are trace past_then moment.times middle stood_then it.finds;
    due = due_then old new it.settings_are trace past_then moment.times middle stood_then it.finds;
  }

  -- where a moment was the world's and an end is due first, the next one is
  pub ends_stand : (other : DueEnd) → end_at_moment (reading_of old.settings trace) moment ≡ Some other → StandsIn new trace (ending old.settings (reading_of old.settings trace) moment other)
  ends_stand other first =
      let both : Some end ≡ Some other = sym it.due_was ∙ is.due ∙ first in
      let same : end ≡ other = cc in
      subst (λ (e : DueEnd). StandsIn new trace (ending old.settings (reading_of old.settings trace) moment e)) same ended_stands

-- no end is due where none is at hand
pub none_due_in : (world : World) (trace : TraceTables) (moment : Moment) → StandsIn world trace moment → None ≡ world.due_end
    → (end : DueEnd) → end_at_moment (reading_of world.settings trace) moment ≡ Some end → ⊥
none_due_in world trace moment is none end first =
    let clash : None ≡ Some end = none ∙ is.due ∙ first in
    absurd (cc)

-- ---- a commit

-- what a world keeps of its history holds of it with one more commit
module _ (world : World) (keeps : KeepsWorld world) (after : List Entry) (entry : Entry) (on : after ≡ world.cell.history ++ entry ∷ [])
    (commit : is_commit entry ≡ true) where
  pub within_on : world.looked_at ≤ length after
  within_on =
      let within = keeps.within in
      let longer : length after ≡ length world.cell.history + 1 = ap length on ∙ length-append world.cell.history (entry ∷ []) in
      omega (arith, within, longer)

  pub commits_on : All (λ entry. is_commit entry ≡ true) (drop world.looked_at after)
  commits_on =
      subst (All (λ entry. is_commit entry ≡ true))
      (sym (ap (drop world.looked_at) on ∙ drop-append-le world.looked_at world.cell.history (entry ∷ []) keeps.within))
      (All-append (λ entry. is_commit entry ≡ true) (drop world.looked_at world.cell.history) (entry ∷ []) keeps.commits
      (All-cons (λ entry. is_commit entry ≡ true) entry [] commit (All-nil (λ entry. is_commit entry ≡ true))))

  pub quiet_on : WereQuiet world.demand.open_jobs world.demand.wanted world.looked_at after
  quiet_on =
      subst (λ (h : List Entry). OthersAreQuiet world.demand.open_jobs world.demand.wanted (state h).tasks)
      (sym (ap (take world.looked_at) on ∙ take-append-le world.looked_at world.cell.history (entry ∷ []) keeps.within)) keeps.quiet

  pub still_indexes : AreIndexesOf after world.indexes
  still_indexes = indexes_on world.indexes world.cell.history after (entry ∷ [], on) keeps.indexes

-- a commit doesn't change which rows count
counted_on : (ends : Ends) (trace : TraceTables) (rows : List Row) (history : List Entry) (by seen : ℕ) (txn : Txn) (reply : List Judgement)
    → (reading_by ends trace).counted rows (history ++ Commit by seen txn reply ∷ []) ≡ (reading_by ends trace).counted rows history
counted_on Trace trace rows history by seen txn reply = refl
counted_on Own trace rows history by seen txn reply = counting_same history (Commit by seen txn reply) rows (λ key. refl)

-- what the calls say that commit and that sync by a worker, in terms of the workers before and after
abbrev pub CommitsFrom : Settings → List WantedTask → List Entry → List Entry → ℕ → Timed → List Worker → Type 0
CommitsFrom settings tasks before after by timed olds =
    (attempt : Attempt) → Each (IsItsAttempt by attempt) olds → CommitsWanted settings tasks before after by attempt timed

abbrev pub TakesFrom : Settings → List WantedTask → List Entry → ℕ → List Worker → List Worker → Type 0
TakesFrom settings tasks history by olds news =
    (first : ℕ) (attempt : Attempt) (reading : Reading) (before : Past) → AreNumbered first olds → Each (IsItsAttempt by attempt) olds
    → wanted_at reading before ≡ tasks → before.history ≡ history
    → TakeIfDue settings reading before (record { by = by; attempt = attempt }) olds news

abbrev pub SyncsFrom : Settings → Asked → List Entry → ℕ → ℕ → ℕ → List Worker → List Worker → Type 0
SyncsFrom settings asked history triggers now by olds news =
    (first : ℕ) (reading : Reading) (past : Past) → AreNumbered first olds → IsMoment settings reading asked history triggers past
    → AreCounted history olds → SyncIfIts settings reading past now by olds news

-- a world's scheduler of this number commits and syncs, with these workers and these ends kept between
pub record CommitsIt (old new : World) (by : ℕ) (timed : Timed) (middles : List Worker) (middle : Option OwnEnds) : Type 0 where
  pub settings_are : new.settings ≡ old.settings
  pub rounds_are : new.rounds ≡ old.rounds
  pub opened_are : new.opened ≡ old.opened
  pub triggers_are : new.triggers ≡ old.triggers
  pub next_are : new.next ≡ old.next
  pub committed : CommitsFrom old.settings old.demand.wanted.tasks old.cell.history new.cell.history by timed old.workers.items
  pub takes : TakesFrom old.settings old.demand.wanted.tasks old.cell.history by old.workers.items middles
  pub asked_are : new.demand.wanted ≡ old.demand.wanted
  pub quiet : OthersAreQuiet new.demand.open_jobs new.demand.wanted (state new.cell.history).tasks
  pub looked : new.looked_at ≡ length new.cell.history
  pub indexes : AreIndexesOf new.cell.history new.indexes
  pub times : new.times ≡ old.times ++ timed ∷ []
  pub notes : NotesBy timed.time new.cell.history old.own middle
  pub finds : FindsBy new.cell.history middle new.own new.due_end
  pub syncs : SyncsFrom old.settings new.demand.wanted new.cell.history old.triggers timed.time by middles new.workers.items

module _ (old : World) (trace : TraceTables) (moment : Moment) (is : StandsIn old trace moment) (due : DueCommit) (first : first_due moment.crew ≡ Some due) where
  pub its : Each (IsItsAttempt due.by due.attempt) old.workers.items
  its = attempt_there old.settings (reading_of old.settings trace) moment (state_of old) is.stands due first

  tasks_are : old.demand.wanted.tasks ≡ wanted_at (reading_of old.settings trace) moment.past
  tasks_are = ap (λ (a : Asked). a.tasks) is.stands.there.asked

  numbered_is : AreNumbered 0 old.workers.items
  numbered_is = numbered_there old.settings (reading_of old.settings trace) moment (state_of old) is.stands

  entry_is : wanted_entry old.settings old.cell.history old.demand.wanted.tasks due.by due.attempt ≡ due_entry old.settings (reading_of old.settings trace) moment.past due.by due.attempt
  entry_is =
      ap₂ (λ (h : List Entry) (tasks : List WantedTask). wanted_entry old.settings h tasks due.by due.attempt) is.stands.there.history tasks_are

  -- the workers between are known, too
  pub known_between : (middles : List Worker) → TakeIfDue old.settings (reading_of old.settings trace) moment.past due old.workers.items middles → AreKnown old.settings middles
  known_between middles took = still_known old.settings (reading_of old.settings trace) moment.past due old.workers.items middles took (known_in old trace moment is)

  module _ (new : World) (timed : Timed) (middles : List Worker) (middle : Option OwnEnds) (it : CommitsIt old new due.by timed middles middle) where
    abbrev entry : Entry
    entry = due_entry old.settings (reading_of old.settings trace) moment.past due.by due.attempt

    abbrev after : Past
    after = past_with moment.past (due_entry old.settings (reading_of old.settings trace) moment.past due.by due.attempt)

    did : CommitsWanted old.settings old.demand.wanted.tasks old.cell.history new.cell.history due.by due.attempt timed
    did = it.committed due.attempt its

    appended : new.cell.history ≡ old.cell.history ++ entry ∷ []
    appended = did.history ∙ ap (λ (e : Entry). old.cell.history ++ e ∷ []) entry_is

    after_is : after.history ≡ new.cell.history
    after_is = ap (λ (h : List Entry). h ++ entry ∷ []) (sym is.stands.there.history) ∙ sym appended

    took : TakeIfDue old.settings (reading_of old.settings trace) moment.past due old.workers.items middles
    took = it.takes 0 due.attempt (reading_of old.settings trace) moment.past numbered_is its (sym tasks_are) (sym is.stands.there.history)

    counted_after : AreCounted new.cell.history middles
    counted_after =
        subst (λ (h : List Entry). AreCounted h middles) after_is
        (still_counted old.settings (reading_of old.settings trace) moment.past due old.workers.items middles took
        (subst (λ (h : List Entry). AreCounted h old.workers.items) is.stands.there.history
        (counted_there old.settings (reading_of old.settings trace) moment (state_of old) is.stands)))

    time_is : timed.time ≡ due.attempt.due
    time_is = ap (λ (t : Timed). t.time) did.timed_is

    asks_after : new.demand.wanted ≡ asked_at old.settings (reading_of old.settings trace) after
    asks_after =
        it.asked_are ∙ is.stands.there.asked
        ∙ ap (asked_after old.settings (reading_of old.settings trace).trace)
        (sym (counted_on old.settings.ends trace moment.past.rows moment.past.history due.by due.attempt.seen _ _))

    abbrev timed_after : Timed
    timed_after = record { place = length moment.past.history; scheduler = due.by; sync = due.attempt.sync; time = due.attempt.due }

    timed_there : timed ≡ timed_after
    timed_there =
        did.timed_is
        ∙ ap (λ (h : List Entry). record { place = length h; scheduler = due.by; sync = due.attempt.sync; time = due.attempt.due }) is.stands.there.history

    -- what is kept of ends is noted
    noted : StandsBy old.settings.ends old.settings trace after (moment.times ++ timed_after ∷ []) new.cell.history new.demand.wanted middle
    noted = record {
      tells = record { history_is = sym after_is; asks = asks_after };
      keeps = subst (λ (h : List Entry). KeepsEndsBy old.settings.ends trace moment.past.rows h (moment.times ++ timed_after ∷ []) middle) (sym after_is)
          (subst (λ (t : Timed). KeepsEndsBy old.settings.ends trace moment.past.rows new.cell.history (moment.times ++ t ∷ []) middle) timed_there
          (it.notes old.settings.ends trace moment.past.rows moment.past.history moment.times due.by due.attempt.seen _ _ timed is.ends (sym after_is)
          (ap (λ (t : Timed). t.place) timed_there) refl));
    }

    synced_then : SyncIfIts old.settings (reading_of old.settings trace) after due.attempt.due due.by middles new.workers.items
    synced_then =
        subst (λ (n : ℕ). SyncIfIts old.settings (reading_of old.settings trace) after n due.by middles new.workers.items) time_is
        (it.syncs 0 (reading_of old.settings trace) after (still_numbered old.settings (reading_of old.settings trace) moment.past due 0 old.workers.items middles took numbered_is)
        (record {
          asks = asks_after;
          history_is = after_is;
          triggers_are = sym is.stands.there.triggers_are;
        }) counted_after)

    -- where a moment was the world's, the next one is
    pub committed_stands : StandsIn new trace (committing old.settings (reading_of old.settings trace) moment due.by due.attempt)
    committed_stands = record {
      stands = subst (λ (s : Settings). Stands s (reading_of s trace) (committing old.settings (reading_of old.settings trace) moment due.by due.attempt) (state_of new)) (sym it.settings_are)
          (commits old.settings (reading_of old.settings trace) moment due (state_of old) (state_of new) middles first is.stands appended asks_after
          (ap₂ (λ (n : ℕ) (rs : List Round). drop n rs) it.opened_are it.rounds_are) it.triggers_are
          (it.times ∙ ap (λ (t : Timed). old.times ++ t ∷ []) did.timed_is) took synced_then);
      keeps = kept_then old new it.settings_are is.keeps (next_then old new it.rounds_are it.opened_are it.next_are is.keeps.next) it.looked it.quiet it.indexes;
      rounds = same_rounds old new trace it.settings_are it.rounds_are is;
      ends = ends_then old new it.settings_are trace after (moment.times ++ timed_after ∷ []) middle noted it.finds;
      due = due_then old new it.settings_are trace after (moment.times ++ timed_after ∷ []) middle noted it.finds;
    }

-- ---- what is wanted on the way

module _ (old : World) (trace : TraceTables) (moment : Moment) (is : StandsIn old trace moment) (by : ℕ) (d : IsDueFirst by moment) where
  -- the history has one more commit
  pub entry_on : (grown : List Entry) (timed : Timed) → CommitsFrom old.settings old.demand.wanted.tasks old.cell.history grown by timed old.workers.items
      → (entry : Entry) × ((grown ≡ old.cell.history ++ entry ∷ []) × (is_commit entry ≡ true))
  entry_on grown timed committed =
      let ours : Each (IsItsAttempt by d.0.attempt) old.workers.items =
      subst (λ (n : ℕ). Each (IsItsAttempt n d.0.attempt) old.workers.items) d.1.1 (its old trace moment is d.0 d.1.0) in
      (wanted_entry old.settings old.cell.history old.demand.wanted.tasks by d.0.attempt, ((committed d.0.attempt ours).history, refl))

  -- and the workers between are known
  pub known_after : (middles : List Worker) → TakesFrom old.settings old.demand.wanted.tasks old.cell.history by old.workers.items middles → AreKnown old.settings middles
  known_after middles takes =
      let here : TakesFrom old.settings old.demand.wanted.tasks old.cell.history d.0.by old.workers.items middles =
      subst (λ (n : ℕ). TakesFrom old.settings old.demand.wanted.tasks old.cell.history n old.workers.items middles) (sym d.1.1) takes in
      known_between old trace moment is d.0 d.1.0 middles
      (here 0 d.0.attempt (reading_of old.settings trace) moment.past (numbered_is old trace moment is d.0 d.1.0) (its old trace moment is d.0 d.1.0)
      (sym (tasks_are old trace moment is d.0 d.1.0)) (sym is.stands.there.history))

-- where a moment was the world's and this attempt is due first, the next one is
pub commits_by : (old new : World) (by : ℕ) (timed : Timed) (middles : List Worker) (middle : Option OwnEnds) → CommitsIt old new by timed middles middle
    → (trace : TraceTables) (moment : Moment) → StandsIn old trace moment → (due : DueCommit) → first_due moment.crew ≡ Some due → due.by ≡ by
    → StandsIn new trace (committing old.settings (reading_of old.settings trace) moment due.by due.attempt)
commits_by old new by timed middles middle it trace moment is due first same =
    committed_stands old trace moment is due first new timed middles middle (subst (λ (n : ℕ). CommitsIt old new n timed middles middle) (sym same) it)
