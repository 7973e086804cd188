-- A worked run: two schedulers by the virtual clock, where the one with fewer wishes commits first.
use Rattle.std.proofs.Common.{◌≡◌, ◌≤◌, ◌<◌, inl, ℕ, zero, suc, false, List, [], ◌∷◌, Some, refl, subst, take, slice_get, lit<, lit≤, arith}
use Rattle.rand_pcg.specs.Lcg.{state_after}
use Rattle.omega_model.specs.Fields.{TaskFields}
use Rattle.omega_model.specs.Feed.{feed, rounds}
use Rattle.omega_model.specs.Lawful.{RoundOf, IsCommitOfRound}
use Rattle.omega_model.specs.Policy.{schedulers}
use Rattle.omega_model.specs.Work.{HasLeft, IsDue}
use Rattle.omega_model.specs.declared.cells.Need.{Need}
use Rattle.omega_model.specs.declared.cells.Spec.{Spec}
use Rattle.omega_model.specs.declared.cells.TaskKey.{TaskKey}
use Rattle.omega_model.specs.declared.claims.Claim.{Claim}
use Rattle.omega_model.specs.declared.claims.Judgement.{Judgement}
use Rattle.omega_model.specs.declared.claims.Mode.TheVariants.{Incremental}
use Rattle.omega_model.specs.declared.claims.Rule.TheVariants.{Coarse}
use Rattle.omega_model.specs.declared.claims.Txn.{Txn}
use Rattle.omega_model.specs.declared.claims.Verdict.TheVariants.{Placed, Changed}
use Rattle.omega_model.specs.declared.entries.Entry.{Entry}
use Rattle.omega_model.specs.declared.entries.Entry.TheVariants.{Round, MachineAdd, Commit}
use Rattle.omega_model.specs.declared.rows.Round.{Round as RoundRows}
use Rattle.omega_model.specs.declared.rows.TraceTables.{TraceTables}
use Rattle.omega_model.specs.declared.settings.Settings.{Settings}
use Rattle.omega_model.specs.declared.settings.Clock.TheVariants as clock
use Rattle.omega_model.specs.declared.settings.Command.TheVariants.{Simulate}
use Rattle.omega_model.specs.declared.settings.Ends.TheVariants as ends
use Rattle.omega_model.specs.declared.settings.Preempt.TheVariants.{Nobody}
use Rattle.omega_model.specs.declared.settings.Extra.TheVariants.{Relative}
use Rattle.omega_model.specs.declared.settings.Format.TheVariants.{Text}
use Rattle.std.proofs.lemmas.List.Elements.{All-from_recursion}
use Rattle.omega_model.specs.declared.wishes.Request.{Request}
use Rattle.omega_model.specs.declared.wishes.Wish.{Wish}
use Rattle.omega_laws.proofs.TimeOrder.{only_simulated}
use Rattle.omega_laws.specs.VirtualTime.{Timed, KeepsTime, StandsNoLater}
use Rattle.omega_laws.specs.TimeReport.{busy, span, wait, committed_jobs}
use Rattle.omega_laws.specs.Simulated.{SimulatedWith, base_of, round_times}

unfoldable pub amount : ℕ → Need
amount n = record { cpu = n; mem = n; disk = 0 }

-- a capacity: a machine without a row of its own has the greatest disk
unfoldable pub room : ℕ → Need
room n = record { cpu = n; mem = n; disk = 1000000000000 }

unfoldable pub placed : Judgement
placed = record { verdict = Placed; evicted = [] }

-- the machine has been touched twice, and once when the copy was synced
unfoldable changed : Judgement
changed = record { verdict = Changed 2 1; evicted = [] }

unfoldable pub spec : Spec
spec = record { need = amount 100000000; prec = 1; differ = false }

unfoldable pub key : ℕ → ℕ → TaskKey
key job index = record { job = job; index = index }

unfoldable submitted : ℕ → ℕ → ℕ → TaskFields
submitted job index class = record { time = 0; key = key job index; code = 0; class = class; spec = spec }

unfoldable pub settings : Settings
settings = record {
  command = Simulate;
  seed = 0;
  batch = 1;
  rule = Coarse;
  mode = Incremental;
  preempt = Nobody;
  extra = Relative;
  tries = 5;
  give_up = 1000;
  window = 300000000;
  format = Text;
  machines = 64;
  jobs = 500;
  t_job = 100000;
  t_task = 5000;
  service_t_job = 100000;
  service_t_task = 5000;
  clock = clock.Rounds;
  times = false;
  ends = ends.Trace;
}

-- a machine, two tasks of a service and one of a batch job
unfoldable trace : TraceTables
trace = record {
  machines = record { time = 0; machine = 1; code = 0; cap = amount 1000000000 } ∷ [];
  attrs = [];
  tasks = submitted 4 0 2 ∷ submitted 4 1 2 ∷ submitted 5 0 0 ∷ [];
  constraints = [];
  activities = [];
  disks = [];
}

unfoldable only_round : RoundRows
only_round = record { number = 0; rows = feed trace }

unfoldable pub claim : ℕ → ℕ → Claim
claim job index = record { key = key job index; machine = 1; spec = spec; victims = [] }

unfoldable pub asks : ℕ → List Claim → Txn
asks job claims = record { job = job; rule = Coarse; mode = Incremental; claims = claims }

unfoldable pub first : Entry
first = Commit 1 2 (asks 5 (claim 5 0 ∷ [])) (placed ∷ [])

unfoldable second : Entry
second = Commit 0 2 (asks 4 (claim 4 0 ∷ claim 4 1 ∷ [])) (changed ∷ changed ∷ [])

unfoldable third : Entry
third = Commit 0 4 (asks 4 (claim 4 0 ∷ claim 4 1 ∷ [])) (placed ∷ placed ∷ [])

unfoldable whole : List Entry
whole = Round 0 ∷ MachineAdd 1 (room 1000000000) ∷ first ∷ second ∷ third ∷ []

unfoldable times : List Timed
times =
    record { place = 2; scheduler = 1; sync = 0; time = 105000 }
    ∷ record { place = 3; scheduler = 0; sync = 0; time = 110000 }
    ∷ record { place = 4; scheduler = 0; sync = 110000; time = 220000 } ∷ []

-- the times of the commits are computed
times_are : round_times settings trace [] [] 0 only_round whole ≡ times
unfolding amount spec key submitted settings trace only_round claim asks first second third whole room placed changed times
times_are = refl

first_may : IsCommitOfRound settings 2 (take 2 whole) first
unfolding amount spec key settings claim asks first second third whole room placed changed
first_may = record { known = lit< tt; there = lit≤ tt; rows = lit≤ tt; own = lit≤ tt; answered = refl }

second_may : IsCommitOfRound settings 2 (take 3 whole) second
unfolding amount spec key settings claim asks first second third whole room placed changed
second_may = record { known = lit< tt; there = lit≤ tt; rows = lit≤ tt; own = lit≤ tt; answered = refl }

third_may : IsCommitOfRound settings 2 (take 4 whole) third
unfolding amount spec key settings claim asks first second third whole room placed changed
third_may = record { known = lit< tt; there = lit≤ tt; rows = lit≤ tt; own = lit≤ tt; answered = refl }

-- what holds of each of the three commits holds at each place from 2 on
at_each : (P : List Entry → Entry → Type 0) → P (take 2 whole) first → P (take 3 whole) second → P (take 4 whole) third
    → (place : ℕ) (entry : Entry) → slice_get whole place ≡ Some entry → 2 ≤ place → P (take place whole) entry
unfolding whole
at_each P one two three zero entry at past = absurd (omega arith)
at_each P one two three (suc zero) entry at past = absurd (omega arith)
at_each P one two three (suc (suc zero)) entry at past = let same : first ≡ entry = cc in subst (P (take 2 whole)) same one
at_each P one two three (suc (suc (suc zero))) entry at past = let same : second ≡ entry = cc in subst (P (take 3 whole)) same two
at_each P one two three (suc (suc (suc (suc zero)))) entry at past = let same : third ≡ entry = cc in subst (P (take 4 whole)) same three
at_each P one two three (suc (suc (suc (suc (suc place))))) entry at past = absurd cc

unfoldable wish : ℕ → ℕ → Wish
wish job index = record { key = key job index; spec = spec; constraints = [] }

-- the request of the service and that of the batch job
unfoldable two : Request
two = record { job = 4; wishes = wish 4 0 ∷ wish 4 1 ∷ [] }

unfoldable one : Request
one = record { job = 5; wishes = wish 5 0 ∷ [] }

first_due : IsDue settings trace (feed trace) 2 1 (take 2 whole) first
unfolding amount spec key submitted settings trace claim asks first second third whole room placed changed wish one state_after
first_due same = (one, ([], (refl, record { job = refl; rule = refl; mode = refl; claims = refl })))

second_due : IsDue settings trace (feed trace) 2 0 (take 3 whole) second
unfolding amount spec key submitted settings trace claim asks first second third whole room placed changed wish two state_after
second_due same = (two, ([], (refl, record { job = refl; rule = refl; mode = refl; claims = refl })))

third_due : IsDue settings trace (feed trace) 2 0 (take 4 whole) third
unfolding amount spec key submitted settings trace claim asks first second third whole room placed changed wish two state_after
third_due same = (two, ([], (refl, record { job = refl; rule = refl; mode = refl; claims = refl })))

batch_done : HasLeft settings trace (feed trace) 2 1 whole []
unfolding amount spec key submitted settings trace claim asks first second third whole room placed changed
batch_done = record {
  remains = refl;
  due = at_each (IsDue settings trace (feed trace) 2 1) first_due (λ same. absurd (omega arith)) (λ same. absurd (omega arith));
}

service_done : HasLeft settings trace (feed trace) 2 0 whole []
unfolding amount spec key submitted settings trace claim asks first second third whole room placed changed
service_done = record {
  remains = refl;
  due = at_each (IsDue settings trace (feed trace) 2 0) (λ same. absurd (omega arith)) second_due third_due;
}

mapreduce_done : HasLeft settings trace (feed trace) 2 2 whole []
unfolding amount spec key submitted settings trace claim asks first second third whole room placed changed
mapreduce_done = record {
  remains = refl;
  due = at_each (IsDue settings trace (feed trace) 2 2) (λ same. absurd (omega arith)) (λ same. absurd (omega arith)) (λ same. absurd (omega arith));
}

all_done : (scheduler : ℕ) → scheduler < schedulers settings → HasLeft settings trace (feed trace) 2 scheduler whole []
unfolding settings
all_done zero below = service_done
all_done (suc zero) below = batch_done
all_done (suc (suc zero)) below = mapreduce_done
all_done (suc (suc (suc scheduler))) below = absurd (omega arith)

round_done : RoundOf settings trace [] [] only_round whole
unfolding amount spec key submitted settings trace only_round claim asks first second third whole room placed changed
round_done = record {
  begun = record {
    begins = refl;
    commits = at_each (IsCommitOfRound settings 2) first_may second_may third_may;
    work = λ scheduler below. ([], all_done scheduler below);
  };
  finished = all_done;
}

-- each commit stands in order of time
first_in_time : KeepsTime settings trace (feed trace) 2 0 (take 2 whole) first
unfolding amount spec key submitted settings trace claim asks first second third whole room placed changed
first_in_time = record { order = λ k other below. absurd (omega arith); seen_last = refl }

second_in_time : KeepsTime settings trace (feed trace) 2 0 (take 3 whole) second
unfolding amount spec key submitted settings trace claim asks first second third whole room placed changed
second_in_time = record {
  order = All-from_recursion (StandsNoLater 110000 0) (record { place = 2; scheduler = 1; sync = 0; time = 105000 } ∷ []) (inl (lit< tt), tt);
  seen_last = refl;
}

third_in_time : KeepsTime settings trace (feed trace) 2 0 (take 4 whole) third
unfolding amount spec key submitted settings trace claim asks first second third whole room placed changed
third_in_time = record {
  order = All-from_recursion (StandsNoLater 220000 0)
      (record { place = 2; scheduler = 1; sync = 0; time = 105000 } ∷ record { place = 3; scheduler = 0; sync = 0; time = 110000 } ∷ [])
      (inl (lit< tt), (inl (lit< tt), tt));
  seen_last = refl;
}

-- so the history is the simulated run
simulated : SimulatedWith settings trace whole times
unfolding amount spec key submitted settings trace only_round claim asks first second third whole room placed changed times
simulated = (
  whole,
  (
    [],
    (
      record { whole = round_done; keeps = at_each (KeepsTime settings trace (feed trace) 2 0) first_in_time second_in_time third_in_time },
      (refl, (refl, refl)),
    ),
  ),
)

same_by : (one other seen_one seen_other : ℕ) (txn_one txn_other : Txn) (reply_one reply_other : List Judgement) (a b c d : Entry) (later_one later_other : List Entry)
    → a ∷ b ∷ Commit one seen_one txn_one reply_one ∷ later_one ≡ c ∷ d ∷ Commit other seen_other txn_other reply_other ∷ later_other
    → one ≡ other
same_by one other seen_one seen_other txn_one txn_other reply_one reply_other a b c d later_one later_other same = cc

-- no history in which scheduler 0 commits first is
not_in_turns : (seen : ℕ) (txn : Txn) (reply : List Judgement) (later : List Entry) (its_times : List Timed)
    → SimulatedWith settings trace (Round 0 ∷ MachineAdd 1 (room 1000000000) ∷ Commit 0 seen txn reply ∷ later) its_times → ⊥
unfolding whole first
not_in_turns seen txn reply later its_times other =
    let by = same_by 0 1 seen _ txn _ reply _ _ _ _ _ later _
    (only_simulated settings trace _ whole its_times times other simulated).0 in
    absurd (omega (arith, by))

-- the lines of the report
busy_zero : busy 0 times ≡ 220000
unfolding times
busy_zero = refl

busy_one : busy 1 times ≡ 105000
unfolding times
busy_one = refl

busy_none : busy 2 times ≡ 0
unfolding times
busy_none = refl

span_is : span (rounds trace settings.window) times ≡ 220000
unfolding amount spec key submitted settings trace times
span_is = refl

-- another trace: two batch jobs of one task each; the second waits while the first is decided
unfoldable trace_two : TraceTables
trace_two = record {
  machines = record { time = 0; machine = 1; code = 0; cap = amount 1000000000 } ∷ [];
  attrs = [];
  tasks = submitted 10 0 0 ∷ submitted 11 0 0 ∷ [];
  constraints = [];
  activities = [];
  disks = [];
}

unfoldable round_two : RoundRows
round_two = record { number = 0; rows = feed trace_two }

unfoldable whole_two : List Entry
whole_two =
    Round 0 ∷ MachineAdd 1 (room 1000000000)
    ∷ Commit 1 2 (asks 10 (claim 10 0 ∷ [])) (placed ∷ [])
    ∷ Commit 1 3 (asks 11 (claim 11 0 ∷ [])) (placed ∷ []) ∷ []

unfoldable times_two : List Timed
times_two =
    record { place = 2; scheduler = 1; sync = 0; time = 105000 }
    ∷ record { place = 3; scheduler = 1; sync = 105000; time = 210000 } ∷ []

times_two_are : round_times settings trace_two [] [] 0 round_two whole_two ≡ times_two
unfolding amount spec key submitted settings trace_two round_two claim asks whole_two room placed times_two
times_two_are = refl

busy_two : busy 1 times_two ≡ 210000
unfolding times_two
busy_two = refl

jobs_two : committed_jobs 1 whole_two times_two ≡ 10 ∷ 11 ∷ []
unfolding key claim asks whole_two room placed times_two
jobs_two = refl

wait_two : wait trace_two whole_two times_two 1 ≡ 105000
unfolding amount spec key submitted trace_two claim asks whole_two room placed times_two
wait_two = refl

-- a round whose rows are of an earlier time than the last commit begins with that commit's time
base_is_late : base_of 220000 only_round ≡ 220000
unfolding amount spec key submitted trace only_round
base_is_late = refl
