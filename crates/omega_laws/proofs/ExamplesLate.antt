-- A worked run of two rounds: the second begins later than its rows, since the one before took long.
use Rattle.std.proofs.Common.{◌≡◌, ◌≤◌, ◌<◌, ℕ, zero, suc, List, [], ◌∷◌, ◌++◌, Some, refl, slice_get, take, drop, length, lit<, lit≤, arith}
use Rattle.rand_pcg.specs.Lcg.{state_after}
use Rattle.omega_model.specs.Feed.{feed, rounds}
use Rattle.omega_model.specs.Fields.{TaskFields}
use Rattle.omega_model.specs.Lawful.{IsCommitOfRound, RoundOf}
use Rattle.omega_model.specs.Policy.{schedulers}
use Rattle.omega_model.specs.Work.{HasLeft, IsDue}
use Rattle.omega_model.specs.declared.entries.Entry.{Entry}
use Rattle.omega_model.specs.declared.entries.Entry.TheVariants.{Round, MachineAdd, Commit}
use Rattle.omega_model.specs.declared.rows.Round.{Round as RoundRows}
use Rattle.omega_model.specs.declared.rows.Row.{Row}
use Rattle.omega_model.specs.declared.rows.TraceTables.{TraceTables}
use Rattle.omega_model.specs.declared.settings.Settings.{Settings}
use Rattle.omega_model.specs.declared.wishes.Request.{Request}
use Rattle.omega_model.proofs.Growing.{by_place_push_where}
use Rattle.omega_laws.specs.Simulated.{SimulatedWith}
use Rattle.omega_laws.specs.TimeReport.{span, wait}
use Rattle.omega_laws.specs.VirtualTime.{KeepsTime, Timed}
use Rattle.omega_laws.proofs.ExamplesTime.{amount, asks, claim, first, key, placed, room, settings, spec}
use Rattle.omega_laws.proofs.Places.{nothing_past}

-- rounds of a twentieth of a second
unfoldable short : Settings
short = record settings { window = 50000 }

unfoldable task_at : ℕ → ℕ → TaskFields
task_at time job = record { time = time; key = key job 0; code = 0; class = 0; spec = spec }

-- a machine and a task, and another task a little later
unfoldable trace : TraceTables
trace = record {
  machines = record { time = 0; machine = 1; code = 0; cap = amount 1000000000 } ∷ [];
  attrs = [];
  tasks = task_at 0 5 ∷ task_at 70000 6 ∷ [];
  constraints = [];
  activities = [];
  disks = [];
}

unfoldable first_rows : List Row
first_rows = take 2 (feed trace)

unfoldable first_round : RoundRows
first_round = record { number = 0; rows = first_rows }

unfoldable second_round : RoundRows
second_round = record { number = 1; rows = drop 2 (feed trace) }

unfoldable second : Entry
second = Commit 1 4 (asks 6 (claim 6 0 ∷ [])) (placed ∷ [])

unfoldable begun : List Entry
begun = Round 0 ∷ MachineAdd 1 (room 1000000000) ∷ []

unfoldable middle : List Entry
middle = begun ++ first ∷ []

unfoldable begun_again : List Entry
begun_again = middle ++ Round 1 ∷ []

unfoldable whole : List Entry
whole = begun_again ++ second ∷ []

-- the first commit stands at 105000, and so the second round begins then and not at 70000
unfoldable times : List Timed
times =
    record { place = 2; scheduler = 1; sync = 0; time = 105000 }
    ∷ record { place = 4; scheduler = 1; sync = 105000; time = 210000 } ∷ []

two_rounds : rounds trace short.window ≡ first_round ∷ second_round ∷ []
unfolding amount spec key settings short task_at trace first_rows first_round second_round
two_rounds = refl

-- what holds of the last entry holds at each place from it on
at_last : (P : List Entry → Entry → Type 0) (before : List Entry) (entry : Entry) → P before entry
    → (place : ℕ) (other : Entry) → slice_get (before ++ entry ∷ []) place ≡ Some other → length before ≤ place
    → P (take place (before ++ entry ∷ [])) other
at_last P before entry =
    by_place_push_where (λ place. length before ≤ place) P before entry
    (λ place other is from. absurd (nothing_past before place other is from))

unfoldable request : ℕ → Request
request job = record { job = job; wishes = record { key = key job 0; spec = spec; constraints = [] } ∷ [] }

first_due : IsDue short trace first_rows 2 1 begun first
unfolding amount spec key settings short task_at trace first_rows claim asks first begun room placed request state_after
first_due same = (request 5, ([], (refl, record { job = refl; rule = refl; mode = refl; claims = refl })))

second_due : IsDue short trace (feed trace) 4 1 begun_again second
unfolding amount spec key settings short task_at trace claim asks first second begun middle begun_again room placed request state_after
second_due same = (request 6, ([], (refl, record { job = refl; rule = refl; mode = refl; claims = refl })))

first_done : (scheduler : ℕ) → scheduler < schedulers short → HasLeft short trace first_rows 2 scheduler middle []
unfolding amount spec key settings short task_at trace first_rows claim asks first begun middle room placed
first_done zero below = record {
  remains = refl;
  due = at_last (IsDue short trace first_rows 2 0) begun first (λ same. absurd (omega arith));
}
first_done (suc zero) below = record { remains = refl; due = at_last (IsDue short trace first_rows 2 1) begun first first_due }
first_done (suc (suc zero)) below = record {
  remains = refl;
  due = at_last (IsDue short trace first_rows 2 2) begun first (λ same. absurd (omega arith));
}
first_done (suc (suc (suc scheduler))) below = absurd (omega arith)

second_done : (scheduler : ℕ) → scheduler < schedulers short → HasLeft short trace (feed trace) 4 scheduler whole []
unfolding amount spec key settings short task_at trace claim asks first second begun middle begun_again whole room placed
second_done zero below = record {
  remains = refl;
  due = at_last (IsDue short trace (feed trace) 4 0) begun_again second (λ same. absurd (omega arith));
}
second_done (suc zero) below = record { remains = refl; due = at_last (IsDue short trace (feed trace) 4 1) begun_again second second_due }
second_done (suc (suc zero)) below = record {
  remains = refl;
  due = at_last (IsDue short trace (feed trace) 4 2) begun_again second (λ same. absurd (omega arith));
}
second_done (suc (suc (suc scheduler))) below = absurd (omega arith)

first_may : IsCommitOfRound short 2 begun first
unfolding amount spec key settings short claim asks first begun room placed
first_may = record { known = lit< tt; there = lit≤ tt; rows = lit≤ tt; own = lit≤ tt; answered = refl }

second_may : IsCommitOfRound short 4 begun_again second
unfolding amount spec key settings short claim asks first second begun middle begun_again room placed
second_may = record { known = lit< tt; there = lit≤ tt; rows = lit≤ tt; own = lit≤ tt; answered = refl }

first_whole : RoundOf short trace [] [] first_round middle
unfolding amount spec key settings short task_at trace first_rows first_round claim asks first begun middle room placed
first_whole = record {
  begun = record {
    begins = refl;
    commits = at_last (IsCommitOfRound short 2) begun first first_may;
    work = λ scheduler below. ([], first_done scheduler below);
  };
  finished = first_done;
}

second_whole : RoundOf short trace first_rows middle second_round whole
unfolding amount spec key settings short task_at trace first_rows second_round claim asks first second begun middle begun_again whole room placed
second_whole = record {
  begun = record {
    begins = refl;
    commits = at_last (IsCommitOfRound short 4) begun_again second second_may;
    work = λ scheduler below. ([], second_done scheduler below);
  };
  finished = second_done;
}

first_in_time : KeepsTime short trace first_rows 2 0 begun first
unfolding amount spec key settings short task_at trace first_rows claim asks first begun room placed
first_in_time = record { order = λ k other below. absurd (omega arith); seen_last = refl }

second_in_time : KeepsTime short trace (feed trace) 4 105000 begun_again second
unfolding amount spec key settings short task_at trace claim asks first second begun middle begun_again room placed
second_in_time = record { order = λ k other below. absurd (omega arith); seen_last = refl }

simulated : SimulatedWith short trace whole times
unfolding amount spec key settings short task_at trace first_rows first_round second_round claim asks first second begun middle begun_again whole room placed times
simulated = (
  middle,
  (
    drop 1 times,
    (
      record { whole = first_whole; keeps = at_last (KeepsTime short trace first_rows 2 0) begun first first_in_time },
      (
        refl,
        (
          whole,
          (
            [],
            (
              record { whole = second_whole; keeps = at_last (KeepsTime short trace (feed trace) 4 105000) begun_again second second_in_time },
              (refl, (refl, refl)),
            ),
          ),
        ),
      ),
    ),
  ),
)

-- the time goes from the rows of the first round to the last commit
span_is : span (rounds trace short.window) times ≡ 210000
unfolding amount spec key settings short task_at trace times
span_is = refl

-- the second job waited from its row until the second round began
wait_is : wait trace whole times 1 ≡ 35000
unfolding amount spec key settings short task_at trace claim asks first second begun middle begun_again whole room placed times
wait_is = refl
