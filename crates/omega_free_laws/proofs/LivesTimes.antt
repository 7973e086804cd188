-- Where tasks end of themselves each ends at its placing's time plus its life, and the times never fall.
use Rattle.std.proofs.Common.{◌≡◌, ◌≤◌, ◌<◌, ◌+◌, ℕ, true, false, List, [], ◌∷◌, ◌++◌, Option, Some, None, length, map, take, refl, sym, ap, ap₂, subst, ◌∙◌, arith, append-nil, append_assoc}
use Rattle.std.specs.Prelude.{IsSomeAnd, nat_lt, slice_get, if◌then◌else◌}
use Rattle.std.specs.List.{cons_option, filter_map, last_or, filter, AllByRecursion as Each}
use Rattle.std.proofs.lemmas.Bool.{and_parts, leb-true}
use Rattle.std.proofs.lemmas.List.{length-take-le}
use Rattle.std.proofs.lemmas.List.Elements.{filter-append}
use Rattle.std.proofs.lemmas.Option.{none-some, same_Some, slice_get_past, slice_get_within}
use Rattle.omega_laws.proofs.Suited.{OfValue, each_mapped}
use Rattle.omega_laws.specs.VirtualTime.{Timed}
use Rattle.omega_model.proofs.Growing.{by_place_push}
use Rattle.omega_model.proofs.Lists.{by_answer, each_append, each_map, each_passes}
use Rattle.omega_model.specs.Cell.{task_at}
use Rattle.omega_model.specs.ExtraTasks.{first_extra, is_extra_of, is_wanted, running_extras}
use Rattle.omega_model.specs.Keys.{same_key}
use Rattle.omega_model.specs.State.{state}
use Rattle.omega_model.specs.Wanted.{WantedTask, wanted}
use Rattle.omega_model.specs.declared.cells.Task.{Task}
use Rattle.omega_model.specs.declared.cells.TaskKey.{TaskKey}
use Rattle.omega_model.specs.declared.entries.Entry.{Entry}
use Rattle.omega_model.specs.declared.entries.Entry.TheVariants.{Round as RoundEntry, MachineAdd, MachineUpdate, MachineRemove, AttrSet, AttrDelete, End, Commit}
use Rattle.omega_model.specs.declared.rows.Round.{Round}
use Rattle.omega_model.specs.declared.rows.TraceTables.{TraceTables}
use Rattle.omega_model.specs.declared.settings.Settings.{Settings}
use Rattle.omega_free_laws.specs.Free.{FreeByLives, after}
use Rattle.omega_free_laws.specs.FreeLaws.{TimesRise}
use Rattle.omega_free_laws.specs.FreeSteps.{DueCommit, Moment, committing, due_entry, end_entries, ended_alone, ending, opening}
use Rattle.omega_free_laws.specs.Lives.{DueEnd, did_place, end_at, end_of_task, ended, first_end, is_end_of, lives_of, first_own_end, placing}
use Rattle.omega_free_laws.specs.LivesLaws.{EachEndsBy, EachEndsInTime, EndsBy, EndsInTime, EndsOfLife, HappenedBy, IsDueEnd, NothingWasDue, RunsSince}
use Rattle.omega_laws.specs.Simulated.{greatest_time}
use Rattle.omega_model.specs.Feed.{rounds}
use Rattle.omega_free_laws.proofs.Stretches.{over_is}
use Rattle.omega_free_laws.specs.Readings.{by_lives}
use Rattle.omega_free_laws.proofs.DueEnds.{ended_same, first_end_holds, first_end_least, none_end, own_end_is}
use Rattle.omega_free_laws.proofs.LivesSteps.{EachRunsSince, own_commits, own_ends, own_opens, plain_opened, since_stays}
use Rattle.omega_free_laws.proofs.Running.{AreWithin, Stays, is_plain, placing_new, placing_old, placing_same}
use Rattle.omega_free_laws.proofs.TimesRise.{EndsFrom, EndsInFlow, flows, run_times_rise}

-- ---- no running task is due before a time

-- the end of a running task isn't due before this time, if it has one
abbrev pub DueFrom : TraceTables → ℕ → List Entry → List Timed → Task → Type 0
DueFrom trace time history times task = OfValue (λ (end : DueEnd). time ≤ end.time) (end_of_task trace history times task)

plain_no_end : (key : TaskKey) (entry : Entry) → is_plain entry ≡ true → is_end_of key entry ≡ false
plain_no_end key (RoundEntry number) plain = refl
plain_no_end key (MachineAdd machine cap) plain = refl
plain_no_end key (MachineUpdate machine cap) plain = refl
plain_no_end key (MachineRemove machine) plain = refl
plain_no_end key (AttrSet machine name value) plain = refl
plain_no_end key (AttrDelete machine name) plain = refl
plain_no_end key (End other machine) plain = absurd (cc)
plain_no_end key (Commit by seen txn reply) plain = absurd (cc)

module _ (trace : TraceTables) (time : ℕ) where
  due_same : (history more : List Entry) (times times_more : List Timed) (task : Task) → placing more times_more task.key ≡ placing history times task.key
      → ended more task.key ≡ ended history task.key → DueFrom trace time history times task → DueFrom trace time more times_more task
  due_same history more times times_more task same_placing same_ended due =
      subst (OfValue (λ (end : DueEnd). time ≤ end.time))
      (sym (ap₂ (λ (placed : Option Timed) (number : ℕ). if nat_lt task.key.index first_extra then end_at task placed (slice_get (lives_of trace task.key) number) else None) same_placing same_ended))
      due

  due_new : (task : Task) (timed : Timed) (life : Option ℕ) → time ≤ timed.time → OfValue (λ (end : DueEnd). time ≤ end.time) (end_at task (Some timed) life)
  due_new task timed None less = tt
  due_new task timed (Some life) less = omega (arith, less)

  pub due_stays : Stays (DueFrom trace time) (λ timed. time ≤ timed.time)
  due_stays = record {
    plain = λ history times entry task within plain runs due.
        due_same history (history ++ entry ∷ []) times times task (placing_same history times entry task.key within) (ended_same task.key history entry (plain_no_end task.key entry plain)) due;
    other = λ history times key machine task within other runs due.
        due_same history (history ++ End key machine ∷ []) times times task (placing_same history times (End key machine) task.key within)
        (ended_same task.key history (End key machine) other) due;
    kept = λ history times by seen txn reply timed task within at none runs due.
        due_same history (history ++ Commit by seen txn reply ∷ []) times (times ++ timed ∷ []) task
        (placing_old history times (Commit by seen txn reply) timed task.key within at none) (ended_same task.key history (Commit by seen txn reply) refl) due;
    placed = λ history times by seen txn reply timed task within at may places runs.
        subst (λ (placed : Option Timed). OfValue (λ (end : DueEnd). time ≤ end.time)
        (if nat_lt task.key.index first_extra
        then end_at task placed (slice_get (lives_of trace task.key) (ended (history ++ Commit by seen txn reply ∷ []) task.key)) else None))
        (sym (placing_new history times (Commit by seen txn reply) timed task.key at places))
        (by_answer (nat_lt task.key.index first_extra)
        (λ t. rw t (due_new task timed (slice_get (lives_of trace task.key) (ended (history ++ Commit by seen txn reply ∷ []) task.key)) may))
        (λ f. rw f tt));
  }

pub each_unmapped : {X Y : Type 0} (Q : Y → Type 0) (f : X → Option Y) (xs : List X) → Each Q (filter_map f xs) → Each (λ x. OfValue Q (f x)) xs
each_unmapped Q f [] each = tt
each_unmapped {X} {Y} Q f (x ∷ xs) each = by_value (f x) each (λ rest. each_unmapped Q f xs rest) where
  by_value : (o : Option Y) → Each Q (cons_option o (filter_map f xs)) → (Each Q (filter_map f xs) → Each (λ y. OfValue Q (f y)) xs)
      → OfValue Q o × Each (λ y. OfValue Q (f y)) xs
  by_value None each later = (tt, later each)
  by_value (Some y) each later = (each.0, later each.1)

module _ (trace : TraceTables) (time : ℕ) (history : List Entry) (times : List Timed) where
  -- no end is due before a time where the first one isn't
  each_due : ((end : DueEnd) → first_own_end trace history times ≡ Some end → time ≤ end.time) → Each (DueFrom trace time history times) (state history).tasks
  each_due from = each_unmapped (λ (end : DueEnd). time ≤ end.time) (end_of_task trace history times) (state history).tasks
      (by_first (first_end ends) refl) where
        ends : List DueEnd
        ends = filter_map (end_of_task trace history times) (state history).tasks

        by_first : (found : Option DueEnd) → first_end (filter_map (end_of_task trace history times) (state history).tasks) ≡ found
            → Each (λ (end : DueEnd). time ≤ end.time) (filter_map (end_of_task trace history times) (state history).tasks)
        by_first None is = subst (Each (λ (end : DueEnd). time ≤ end.time)) (sym (none_end (filter_map (end_of_task trace history times) (state history).tasks) is)) tt
        by_first (Some end) is =
            let low = from end is in
            each_map (λ (other : DueEnd). end.time ≤ other.time) (λ (other : DueEnd). time ≤ other.time) (λ other less. omega (arith, low, less))
            (filter_map (end_of_task trace history times) (state history).tasks)
            (first_end_least (filter_map (end_of_task trace history times) (state history).tasks) end is)

  first_due_from : Each (DueFrom trace time history times) (state history).tasks → (end : DueEnd) → first_own_end trace history times ≡ Some end → time ≤ end.time
  first_due_from each end is =
      first_end_holds (λ (it : DueEnd). time ≤ it.time) (filter_map (end_of_task trace history times) (state history).tasks) end
      (each_mapped (DueFrom trace time history times) (λ (it : DueEnd). time ≤ it.time) (end_of_task trace history times) (λ task due. due) (state history).tasks each) is

-- ---- each end comes at its time

module _ (trace : TraceTables) where
  by_later : (now later : ℕ) (times : List Timed) (before : List Entry) (entry : Entry) → now ≤ later → EndsBy trace now times before entry → EndsBy trace later times before entry
  by_later now later times before (RoundEntry number) less is = tt
  by_later now later times before (MachineAdd machine cap) less is = tt
  by_later now later times before (MachineUpdate machine cap) less is = tt
  by_later now later times before (MachineRemove machine) less is = tt
  by_later now later times before (AttrSet machine name value) less is = tt
  by_later now later times before (AttrDelete machine name) less is = tt
  by_later now later times before (End key machine) less is = λ low. let it = is low in let bound = it.1 in (it.0, omega (arith, less, bound))
  by_later now later times before (Commit by seen txn reply) less is = tt

  each_later : (now later : ℕ) (times : List Timed) (history : List Entry) → now ≤ later → EachEndsBy trace now times history → EachEndsBy trace later times history
  each_later now later times history less each place entry is = by_later now later times (take place history) entry less (each place entry is)

  plain_by : (now : ℕ) (times : List Timed) (before : List Entry) (entry : Entry) → is_plain entry ≡ true → EndsBy trace now times before entry
  plain_by now times before (RoundEntry number) plain = tt
  plain_by now times before (MachineAdd machine cap) plain = tt
  plain_by now times before (MachineUpdate machine cap) plain = tt
  plain_by now times before (MachineRemove machine) plain = tt
  plain_by now times before (AttrSet machine name value) plain = tt
  plain_by now times before (AttrDelete machine name) plain = tt
  plain_by now times before (End key machine) plain = absurd (cc)
  plain_by now times before (Commit by seen txn reply) plain = absurd (cc)

  -- one more commit
  placing_longer : (before : List Entry) (times : List Timed) (timed : Timed) (key : TaskKey) → length before ≤ timed.place
      → placing before (times ++ timed ∷ []) key ≡ placing before times key
  placing_longer before times timed key earlier =
      let none : did_place key (slice_get before timed.place) ≡ false = ap (did_place key) (slice_get_past before timed.place earlier) in
      let rest : filter (λ (it : Timed). did_place key (slice_get before it.place)) (timed ∷ []) ≡ [] = rw none refl in
      let all : filter (λ (it : Timed). did_place key (slice_get before it.place)) (times ++ timed ∷ []) ≡ filter (λ (it : Timed). did_place key (slice_get before it.place)) times =
      filter-append (λ (it : Timed). did_place key (slice_get before it.place)) times (timed ∷ [])
      ∙ ap (λ (more : List Timed). filter (λ (it : Timed). did_place key (slice_get before it.place)) times ++ more) rest
      ∙ append-nil (filter (λ (it : Timed). did_place key (slice_get before it.place)) times) in
      ap (last_or None) all

  life_longer : (now : ℕ) (times : List Timed) (timed : Timed) (before : List Entry) (key : TaskKey) (machine : ℕ) → length before ≤ timed.place → now ≤ timed.time
      → (it : EndsOfLife trace times before key machine) × (it.timed.time + it.life ≤ now)
      → (it : EndsOfLife trace (times ++ timed ∷ []) before key machine) × (it.timed.time + it.life ≤ timed.time)
  life_longer now times timed before key machine earlier less is =
      let it = is.0 in
      let bound = is.1 in
      let low : it.timed.time + it.life ≤ timed.time = omega (arith, bound, less) in (
        record {
          timed = it.timed;
          placed = placing_longer before times timed key earlier ∙ it.placed;
          life = it.life;
          lives = it.lives;
          since = it.since;
          earlier = each_append (λ (other : Timed). other.place < length before → other.time ≤ it.timed.time + it.life) times (timed ∷ []) it.earlier
              (λ under. absurd (omega (arith, under, earlier)), tt);
          later = each_append (λ (other : Timed). length before ≤ other.place → it.timed.time + it.life ≤ other.time) times (timed ∷ []) it.later
              (λ above. low, tt);
        },
        low,
      )

  by_longer : (now : ℕ) (times : List Timed) (timed : Timed) (before : List Entry) (entry : Entry) → length before ≤ timed.place → now ≤ timed.time
      → EndsBy trace now times before entry → EndsBy trace timed.time (times ++ timed ∷ []) before entry
  by_longer now times timed before (RoundEntry number) earlier less is = tt
  by_longer now times timed before (MachineAdd machine cap) earlier less is = tt
  by_longer now times timed before (MachineUpdate machine cap) earlier less is = tt
  by_longer now times timed before (MachineRemove machine) earlier less is = tt
  by_longer now times timed before (AttrSet machine name value) earlier less is = tt
  by_longer now times timed before (AttrDelete machine name) earlier less is = tt
  by_longer now times timed before (End key machine) earlier less is = λ low. life_longer now times timed before key machine earlier less (is low)
  by_longer now times timed before (Commit by seen txn reply) earlier less is = tt

  each_longer : (now : ℕ) (times : List Timed) (timed : Timed) (history : List Entry) → timed.place ≡ length history → now ≤ timed.time
      → EachEndsBy trace now times history → EachEndsBy trace timed.time (times ++ timed ∷ []) history
  each_longer now times timed history at less each place entry is =
      let within = slice_get_within history place entry is in
      let count : length (take place history) ≡ place = length-take-le place history (omega (arith, within)) in
      by_longer now times timed (take place history) entry (omega (arith, within, count, at)) less (each place entry is)

  -- the ends of extras say nothing
  extras_by : (now : ℕ) (times : List Timed) (history : List Entry) (some : List Task) → Each (λ (task : Task). first_extra ≤ task.key.index) some
      → EachEndsBy trace now times history → EachEndsBy trace now times (history ++ map (λ task. End task.key task.machine) some)
  extras_by now times history [] high each = subst (EachEndsBy trace now times) (sym (append-nil history)) each
  extras_by now times history (task ∷ some) high each =
      let above = high.0 in
      subst (EachEndsBy trace now times) (append_assoc history (End task.key task.machine ∷ []) (map (λ (it : Task). End it.key it.machine) some))
      (extras_by now times (history ++ End task.key task.machine ∷ []) some high.1
      (by_place_push (EndsBy trace now times) history (End task.key task.machine) each (λ low. absurd (omega (arith, low, above)))))

  end_by : (now : ℕ) (times : List Timed) (history : List Entry) (rows : List _) (end : DueEnd) → EachEndsBy trace now times (ended_alone history end)
      → EachEndsBy trace now times (history ++ end_entries (by_lives trace) rows history end)
  end_by now times history rows end each =
      let left : List WantedTask = wanted ((by_lives trace).counted rows (ended_alone history end)) in
      by_answer (is_wanted left end.key.job)
      (λ t. rw t each)
      (λ f. rw f (subst (EachEndsBy trace now times)
      (append_assoc history (End end.key end.machine ∷ []) (map (λ (task : Task). End task.key task.machine) (running_extras (state history) end.key.job)))
      (extras_by now times (ended_alone history end) (running_extras (state history) end.key.job)
      (each_map (λ (task : Task). is_extra_of end.key.job task ≡ true) (λ (task : Task). first_extra ≤ task.key.index)
      (λ task is. leb-true _ _ (and_parts _ _ is).1) (running_extras (state history) end.key.job) (each_passes (is_extra_of end.key.job) (state history).tasks))
      each)))

pub found_holds : (P : Task → Type 0) (tasks : List Task) (key : TaskKey) (task : Task) → Each P tasks → task_at tasks key ≡ Some task → P task
found_holds P [] key task each found = absurd (none-some task found)
found_holds P (first ∷ tasks) key task each found =
    by_answer (same_key first.key key)
    (λ t. subst P (same_Some first task (rw t at found)) each.0)
    (λ f. found_holds P tasks key task each.1 (rw f at found))

module _ (settings : Settings) (trace : TraceTables) where
  -- the task that ends ran since it was placed
  own_end_by : (history : List Entry) (times : List Timed) (end : DueEnd) → IsDueEnd trace history times end → AreWithin history times
      → Each (RunsSince history times) (state history).tasks → Each (λ (timed : Timed). timed.time ≤ end.time) times
      → EndsBy trace end.time times history (End end.key end.machine)
  own_end_by history times end due within each earlier low =
      let runs : RunsSince history times due.task = found_holds (RunsSince history times) (state history).tasks due.task.key due.task each due.runs in
      let same : runs.timed ≡ due.timed = same_Some runs.timed due.timed (sym runs.placed ∙ due.placed) in
      let at = due.time in (
        record {
          timed = due.timed;
          placed = subst (λ (key : TaskKey). placing history times key ≡ Some due.timed) (sym due.key) due.placed;
          life = due.life;
          lives = subst (λ (key : TaskKey). slice_get (lives_of trace key) (ended history key) ≡ Some due.life) (sym due.key) due.lives;
          since = λ n above inside.
              let here : task_at (state (take n history)).tasks due.task.key ≡ Some due.task =
              runs.since n (let place = ap (λ (it : Timed). it.place) same in omega (arith, above, place)) inside in
              let found : task_at (state (take n history)).tasks end.key ≡ Some due.task = ap (task_at (state (take n history)).tasks) due.key ∙ here in
              subst (λ (it : Option Task). IsSomeAnd it (λ (task : Task). task.machine ≡ end.machine)) (sym found) (sym due.machine);
          earlier = each_map (λ (timed : Timed). timed.time ≤ end.time) (λ (other : Timed). other.place < length history → other.time ≤ due.timed.time + due.life)
              (λ other less under. omega (arith, less, at)) times earlier;
          later = each_map (λ (timed : Timed). timed.place < length history) (λ (other : Timed). length history ≤ other.place → due.timed.time + due.life ≤ other.time)
              (λ other under above. absurd (omega (arith, under, above))) times within;
        },
        omega (arith, at),
      )

  -- what is kept beside the times
  pub record Kept (now : ℕ) (moment : Moment) : Type 0 where
    pub since : EachRunsSince settings trace moment
    pub each : EachEndsBy trace now moment.times moment.past.history
    pub done : List Round
    pub all : done ++ moment.coming ≡ rounds trace settings.window
    pub opened : Each (λ (round : Round). greatest_time round.rows ≤ now) done

  sooner : (now later : ℕ) → now ≤ later → (done : List Round) → Each (λ (round : Round). greatest_time round.rows ≤ now) done
      → Each (λ (round : Round). greatest_time round.rows ≤ later) done
  sooner now later less done opened =
      each_map (λ (round : Round). greatest_time round.rows ≤ now) (λ (round : Round). greatest_time round.rows ≤ later) (λ round low. omega (arith, low, less)) done opened

  kept_opens : (old : Moment) (round : Round) (rest : List Round) (now : ℕ) → old.coming ≡ round ∷ rest → now ≤ greatest_time round.rows → Kept now old
      → EndsFrom (by_lives trace) (greatest_time round.rows) old
      → Kept (greatest_time round.rows) (opening settings (by_lives trace) old round rest)
      × EndsFrom (by_lives trace) (greatest_time round.rows) (opening settings (by_lives trace) old round rest)
  kept_opens old round rest now first less kept from =
      let time : ℕ = greatest_time round.rows in
      let due = own_opens settings trace (DueFrom trace time) (λ timed. time ≤ timed.time) (due_stays trace time) old round rest
      (kept.since.0, each_due trace time old.past.history old.times from) in (
        record {
          since = own_opens settings trace RunsSince _ since_stays old round rest kept.since;
          each = plain_opened (EachEndsBy trace time old.times)
              (λ history entry plain each. by_place_push (EndsBy trace time old.times) history entry each (plain_by trace time old.times history entry plain))
              trace old.past.rows old.past.history round (each_later trace now time old.times old.past.history less kept.each);
          done = kept.done ++ round ∷ [];
          all = append_assoc kept.done (round ∷ []) rest ∙ ap (λ (later : List Round). kept.done ++ later) (sym first) ∙ kept.all;
          opened = each_append (λ (it : Round). greatest_time it.rows ≤ time) kept.done (round ∷ []) (sooner now time less kept.done kept.opened) (omega arith, tt);
        },
        first_due_from trace time (opening settings (by_lives trace) old round rest).past.history old.times due.1,
      )

  kept_ends : (old : Moment) (end : DueEnd) (now : ℕ) → now ≤ end.time → Kept now old → first_own_end trace old.past.history old.times ≡ Some end
      → Each (λ (timed : Timed). timed.time ≤ end.time) old.times → EndsFrom (by_lives trace) end.time old
      → Kept end.time (ending settings (by_lives trace) old end) × EndsFrom (by_lives trace) end.time (ending settings (by_lives trace) old end)
  kept_ends old end now less kept is earlier from =
      let due = own_ends settings trace (DueFrom trace end.time) (λ timed. end.time ≤ timed.time) (due_stays trace end.time) old end is
      (kept.since.0, each_due trace end.time old.past.history old.times from) in
      let here = own_end_by old.past.history old.times end (own_end_is trace old.past.history old.times end is) kept.since.0 kept.since.1 earlier in (
        record {
          since = own_ends settings trace RunsSince _ since_stays old end is kept.since;
          each = end_by trace end.time old.times old.past.history old.past.rows end
              (by_place_push (EndsBy trace end.time old.times) old.past.history (End end.key end.machine)
              (each_later trace now end.time old.times old.past.history less kept.each) here);
          done = kept.done;
          all = kept.all;
          opened = sooner now end.time less kept.done kept.opened;
        },
        first_due_from trace end.time (ending settings (by_lives trace) old end).past.history old.times due.1,
      )

  kept_commits : (old : Moment) (due : DueCommit) (now : ℕ) → now ≤ due.attempt.due → Kept now old → EndsFrom (by_lives trace) due.attempt.due old
      → Kept due.attempt.due (committing settings (by_lives trace) old due.by due.attempt)
      × EndsFrom (by_lives trace) due.attempt.due (committing settings (by_lives trace) old due.by due.attempt)
  kept_commits old due now less kept from =
      let time : ℕ = due.attempt.due in
      let timed : Timed = record { place = length old.past.history; scheduler = due.by; sync = due.attempt.sync; time = due.attempt.due } in
      let here : time ≤ time = omega arith in
      let ends = own_commits settings trace (DueFrom trace time) (λ (it : Timed). time ≤ it.time) (due_stays trace time) old due here
      (kept.since.0, each_due trace time old.past.history old.times from) in (
        record {
          since = own_commits settings trace RunsSince _ since_stays old due tt kept.since;
          each = by_place_push (EndsBy trace time (old.times ++ timed ∷ [])) old.past.history (due_entry settings (by_lives trace) old.past due.by due.attempt)
              (each_longer trace now old.times timed old.past.history refl less kept.each) tt;
          done = kept.done;
          all = kept.all;
          opened = sooner now time less kept.done kept.opened;
        },
        first_due_from trace time (committing settings (by_lives trace) old due.by due.attempt).past.history (old.times ++ timed ∷ []) ends.1,
      )

  pub lives_flow : EndsInFlow settings (by_lives trace) Kept
  lives_flow = record {
    none = λ end is. absurd (cc);
    first = record { since = (tt, tt); each = λ place entry is. absurd (cc); done = []; all = refl; opened = tt };
    opens = kept_opens;
    ends = kept_ends;
    commits = kept_commits;
  }

  -- the times never fall
  pub own_times_rise : 0 < settings.window → (history : List Entry) (times : List Timed) → FreeByLives settings trace history times → TimesRise times
  own_times_rise some = run_times_rise settings (by_lives trace) Kept lives_flow some

  in_time : (now : ℕ) (times : List Timed) (before : List Entry) (entry : Entry) → EndsBy trace now times before entry → EndsInTime trace times before entry
  in_time now times before (RoundEntry number) is = tt
  in_time now times before (MachineAdd machine cap) is = tt
  in_time now times before (MachineUpdate machine cap) is = tt
  in_time now times before (MachineRemove machine) is = tt
  in_time now times before (AttrSet machine name value) is = tt
  in_time now times before (AttrDelete machine name) is = tt
  in_time now times before (End key machine) is = λ low. (is low).0
  in_time now times before (Commit by seen txn reply) is = tt

  -- each end comes at its placing's time plus its life
  pub own_ends_in_time : 0 < settings.window → (history : List Entry) (times : List Timed) → FreeByLives settings trace history times → EachEndsInTime trace history times
  own_ends_in_time some history times run =
      let flow = flows settings (by_lives trace) Kept lives_flow some run.steps in
      let last : Moment = after settings (by_lives trace) run.steps in
      subst (λ (h : List Entry). EachEndsInTime trace h times) (sym run.is_history)
      (subst (EachEndsInTime trace last.past.history) (sym run.is_times)
      (λ place entry is. in_time flow.now last.times (take place last.past.history) entry (flow.ok.each place entry is)))

  -- what is due when all is over isn't due before the last thing that happened
  pub own_nothing_due : 0 < settings.window → (history : List Entry) (times : List Timed) → FreeByLives settings trace history times → NothingWasDue settings trace history times
  own_nothing_due some history times run end is =
      let flow = flows settings (by_lives trace) Kept lives_flow some run.steps in
      let last : Moment = after settings (by_lives trace) run.steps in
      let there : first_own_end trace last.past.history last.times ≡ Some end = ap₂ (first_own_end trace) (sym run.is_history) (sym run.is_times) ∙ is in
      let from = flow.ends end there in
      let none = (over_is settings (by_lives trace) last run.over).0 in
      let all : flow.ok.done ≡ rounds trace settings.window =
      sym (append-nil flow.ok.done) ∙ ap (λ (later : List Round). flow.ok.done ++ later) (sym none) ∙ flow.ok.all in
      subst (λ (h : List Entry). HappenedBy settings trace end.time (rounds trace settings.window) h times) (sym run.is_history)
      (subst (HappenedBy settings trace end.time (rounds trace settings.window) last.past.history) (sym run.is_times) (record {
        rounds = subst (Each (λ (round : Round). greatest_time round.rows ≤ end.time)) all (sooner flow.now end.time from flow.ok.done flow.ok.opened);
        commits = each_map (λ (timed : Timed). timed.time ≤ flow.now) (λ (timed : Timed). timed.time ≤ end.time) (λ timed earlier. omega (arith, earlier, from)) last.times flow.happened;
        ends = each_later trace flow.now end.time last.times last.past.history from flow.ok.each;
      }))
