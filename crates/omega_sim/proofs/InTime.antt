-- The times of a lawful history are such that no sum over them runs over.
use Rattle.std.proofs.Common.{◌≡◌, ℕ, ◌+◌, ◌*◌, ◌^◌, ◌<◌, ◌≤◌, List, [], ◌∷◌, ◌++◌, length, map, drop, refl, sym, ap, subst, ◌∙◌, arith, length-append, max}
use Rattle.std.specs.Prelude.{All}
use Rattle.std.specs.List.{filter, fold, AllByRecursion as Each}
use Rattle.std.proofs.Math.ListN.{drop_of_length-le}
use Rattle.std.proofs.Math.Nat.{mul-le-mul_left}
use Rattle.std.proofs.Math.Seq.{take-length}
use Rattle.std.proofs.lemmas.List.{take-append-drop}
use Rattle.std.proofs.lemmas.List.Elements.{All-cons}
use Rattle.omega_feed.proofs.Cutting.{rounds_have}
use Rattle.omega_laws.specs.Simulated.{HasTimes, TimedRounds, base_of, greatest_time, round_times, rows_place, until_after}
use Rattle.omega_laws.specs.VirtualTime.{Timed, clock_of, tick}
use Rattle.omega_model.proofs.Lists.{each_append, each_filter, each_map, each_of_all}
use Rattle.omega_model.specs.Feed.{each_once, feed, is_of_round, round_at, round_number, rounds, time_of}
use Rattle.omega_model.specs.Lawful.{RoundOf, opened, rows_of}
use Rattle.omega_model.specs.Ranges.{IsInRange}
use Rattle.omega_model.specs.Requests.{failed, jobs_in_order, requests}
use Rattle.omega_model.specs.Work.{fresh}
use Rattle.omega_model.specs.declared.entries.Entry.{Entry}
use Rattle.omega_model.specs.declared.rows.Row.{Row}
use Rattle.omega_model.specs.declared.rows.Round.{Round}
use Rattle.omega_model.specs.declared.rows.TraceTables.{TraceTables}
use Rattle.omega_model.specs.declared.settings.Settings.{Settings}
use Rattle.omega_sim.specs.InBounds.{IsInBounds}
use Rattle.omega_sim.specs.Summing.{IsTimely}
use Rattle.omega_sim.proofs.Asked.{IsAsked, requests_asked, requests_few}
use Rattle.omega_sim.proofs.Shorter.{feed_few, jobs_few, rounds_few}
use Rattle.omega_sim.proofs.Ticks.{IsInTime, IsWithin, all_due, most_wishes, ticks}

-- how many attempts a scheduler has in a round at most, and how long they take
abbrev most_attempts : ℕ
most_attempts = 200000000

abbrev whole_round : ℕ
whole_round = 402000200000000000000000

-- all rows are earlier
abbrev latest : ℕ
latest = 18446744073709551616

within_more : (less more : ℕ) (times : List Timed) → less ≤ more → Each (IsWithin less) times → Each (IsWithin more) times
within_more less more times further each =
    each_map (IsWithin less) (IsWithin more)
    (λ timed is. record {
      decides = is.decides;
      syncs = let early = is.syncs in omega (arith, early, further);
      commits = let early = is.commits in omega (arith, early, further);
    }) times each

-- the last commit of some is within the limit, too
last_within : (limit until : ℕ) (times : List Timed) → until ≤ limit → Each (IsWithin limit) times → until_after until times ≤ limit
last_within limit until [] early each = early
last_within limit until (timed ∷ times) early each = last_within limit timed.time times each.0.commits each.1

-- the greatest time of rows that are early is early
greatest_early : (rows : List Row) (so_far : ℕ) → so_far ≤ latest → Each (λ row. time_of row < latest) rows → fold (λ time row. max time (time_of row)) so_far rows ≤ latest
greatest_early [] so_far early each = early
greatest_early (row ∷ rows) so_far early each =
    let here = each.0 in greatest_early rows (max so_far (time_of row)) (omega (arith, early, here)) each.1

module _ (settings : Settings) (trace : TraceTables) (range : IsInRange settings) (bounds : IsInBounds trace) where
  feed_short : length (feed trace) ≤ 2000000
  feed_short = feed_few trace bounds.limits

  -- one round's commits are in time, where it begins at this base
  one_round : (rows : List Row) (start : List Entry) (round : Round) (base : ℕ) (history : List Entry)
      → RoundOf settings trace rows start round history → length (rows ++ round.rows) ≤ 2000000
      → Each (IsWithin (base + whole_round)) (clock_of settings trace (rows ++ round.rows) (rows_place trace rows start round) base history).commits
  one_round rows start round base history whole few =
      let all : List Row = rows ++ round.rows in
      let begun : List Entry = (opened trace rows start round).history in
      let at : ℕ = length begun in
      let later : List Entry = drop at history in
      let split : history ≡ begun ++ later = sym (take-append-drop at history) ∙ ap (λ (front : List Entry). front ++ later) whole.begun.begins in
      let limit : ℕ = base + whole_round in
      let within : at ≤ length begun = omega arith in
      let tries = range.tries in
      let asks : (before : List Entry) (scheduler : ℕ) → Each (IsAsked (jobs_in_order (feed trace)) most_wishes) (requests settings trace all before scheduler) =
      λ before scheduler. requests_asked settings trace bounds.activities all before scheduler most_wishes (omega (arith, few)) in
      let first : IsInTime settings trace all at (jobs_in_order (feed trace)) limit range asks (record { before = begun; synced = (λ scheduler. base); commits = [] }) = record {
        each = λ scheduler known. record {
          standing = fresh (failed begun) (requests settings trace all begun scheduler);
          is = rw (take-length begun, drop_of_length-le begun {i = length begun} (omega arith)) refl;
          budget = most_attempts;
          fair = record {
            tries = let some = tries.0 in omega (arith, some);
            within =
                let fewer = requests_few settings trace bounds.activities all begun scheduler in
                let jobs = jobs_few trace in
                let short = feed_short in
                let product = mul-le-mul_left (length (requests settings trace all begun scheduler)) tries.1 in
                omega (arith, fewer, jobs, short, product);
          };
          early = omega arith;
        };
        commits = tt;
        there = within;
      } in
      subst
      (λ (before : List Entry). Each (IsWithin limit) (fold (tick settings trace all at) (record { before = before; synced = (λ scheduler. base); commits = [] }) later).commits)
      (sym whole.begun.begins)
      (ticks settings trace all at (jobs_in_order (feed trace)) limit range asks later (record { before = begun; synced = (λ scheduler. base); commits = [] }) first
      (all_due settings trace all at (jobs_in_order (feed trace)) limit range asks history begun later split within
      whole.begun.commits (λ scheduler known. (whole.begun.work scheduler known).1.due))).commits

  -- so are those of all rounds, each of which takes no more than a whole round
  all_rounds : (Keeps : List Row → ℕ → ℕ → List Entry → Entry → Type 0) (rows : List Row) (start : List Entry) (until count : ℕ) (some : List Round)
      (history : List Entry) (times : List Timed)
      → TimedRounds settings trace Keeps rows start until some history times
      → length rows + length (rows_of some) ≤ 2000000
      → Each (λ (round : Round). greatest_time round.rows ≤ latest) some
      → until ≤ latest + count * whole_round
      → Each (IsWithin (latest + (count + length some) * whole_round)) times
  all_rounds Keeps rows start until count [] history times timed few early so_far = subst (Each (IsWithin (latest + (count + 0) * whole_round))) (sym timed.1) tt
  all_rounds Keeps rows start until count (round ∷ rest) history times timed few early so_far =
      let middle : List Entry = timed.0 in
      let here : List Timed = round_times settings trace rows start until round middle in
      let base : ℕ = base_of until round in
      let limit : ℕ = latest + (count + length (round ∷ rest)) * whole_round in
      let greatest = early.0 in
      let begins : base ≤ latest + count * whole_round = omega (arith, greatest, so_far) in
      let all = length-append rows round.rows in
      let both = length-append round.rows (rows_of rest) in
      let one : Each (IsWithin (base + whole_round)) here = one_round rows start round base middle timed.1.1.0.whole (omega (arith, few, all, both)) in
      let next : until_after until here ≤ latest + (count + 1) * whole_round =
      let last = last_within (base + whole_round) until here (omega arith) one in omega (arith, last, begins) in
      let others : Each (IsWithin (latest + (count + 1 + length rest) * whole_round)) timed.1.0 =
      all_rounds Keeps (rows ++ round.rows) middle (until_after until here) (count + 1) rest history timed.1.0 timed.1.1.1.1 (omega (arith, few, all, both)) early.1 next in
      subst (Each (IsWithin limit)) (sym timed.1.1.1.0)
      (each_append (IsWithin limit) here timed.1.0
      (within_more (base + whole_round) limit here (omega (arith, begins)) one)
      (within_more (latest + (count + 1 + length rest) * whole_round) limit timed.1.0 (omega arith) others))

  rounds_early : (window : ℕ) (numbers : List ℕ) → Each (λ (round : Round). greatest_time round.rows ≤ latest) (map (round_at window (feed trace)) numbers)
  rounds_early window [] = tt
  rounds_early window (number ∷ numbers) = (
    greatest_early (filter (is_of_round window number) (feed trace)) 0 (omega arith)
        (each_filter (λ row. time_of row < latest) (is_of_round window number) (feed trace) (each_of_all (λ row. time_of row < latest) (feed trace) bounds.times)),
    rounds_early window numbers,
  )

  all_timely : (limit : ℕ) → limit < 2 ^ 101 → (times : List Timed) → Each (IsWithin limit) times → All IsTimely times
  all_timely limit low [] each = λ k d below. absurd (omega arith)
  all_timely limit low (timed ∷ times) each =
      let decides = each.0.decides in
      let syncs = each.0.syncs in
      All-cons IsTimely timed times (record { decides = omega (arith, decides); syncs = omega (arith, syncs, low) }) (all_timely limit low times each.1)

  -- the times of a lawful history are early, and its decisions short
  pub times_timely : (history : List Entry) (times : List Timed) → HasTimes settings trace history times → All IsTimely times
  times_timely history times timed =
      let window = range.window.0 in
      let long : length (rows_of (rounds trace settings.window)) ≡ length (feed trace) = ap length (rounds_have trace settings.window (omega (arith, window))) in
      let fewer = feed_short in
      let some = rounds_few trace settings.window in
      all_timely (latest + (0 + length (rounds trace settings.window)) * whole_round) (omega (arith, some, fewer)) times
      (all_rounds (λ rows opened_at base before entry. Unit {0}) [] [] 0 0 (rounds trace settings.window) history times timed (omega (arith, long, fewer))
      (rounds_early settings.window (each_once (map (round_number settings.window) (feed trace)))) (omega arith))
