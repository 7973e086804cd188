-- Worked answers: requests, plans, and what is left of a scheduler's requests.
use Rattle.std.proofs.Common.{◌≡◌, ℕ, Bool, true, false, List, [], ◌∷◌, ◌++◌, Option, Some, None, option_map, option_and_then, refl, take}
use Rattle.std.specs.List.{fold}
use Rattle.rand_pcg.specs.Lcg.{state_after}
use Rattle.omega_model.specs.Fields.{TaskFields, DiskFields}
use Rattle.omega_model.specs.Cell.{Cell}
use Rattle.omega_model.specs.Feed.{feed}
use Rattle.omega_model.specs.Lawful.{opened, after_last}
use Rattle.omega_model.specs.Plan.{victims}
use Rattle.omega_model.specs.Planning.{plan_for}
use Rattle.omega_model.specs.Requests.{requests, failed, jobs_in_order}
use Rattle.omega_model.specs.State.{state}
use Rattle.omega_model.specs.Work.{Standing, fresh, after_outcomes, standing_of, planned, commits_of}
use Rattle.omega_model.specs.declared.cells.Need.{Need}
use Rattle.omega_model.specs.declared.cells.Spec.{Spec}
use Rattle.omega_model.specs.declared.cells.TaskKey.{TaskKey}
use Rattle.omega_model.specs.declared.claims.Claim.{Claim}
use Rattle.omega_model.specs.declared.claims.Judgement.{Judgement}
use Rattle.omega_model.specs.declared.claims.Mode.{Mode}
use Rattle.omega_model.specs.declared.claims.Mode.TheVariants.{Incremental, Gang}
use Rattle.omega_model.specs.declared.claims.Outcome.{Outcome}
use Rattle.omega_model.specs.declared.claims.Policy.{Policy}
use Rattle.omega_model.specs.declared.claims.Rule.TheVariants.{Fine}
use Rattle.omega_model.specs.declared.claims.Txn.{Txn}
use Rattle.omega_model.specs.declared.claims.Verdict.{Verdict}
use Rattle.omega_model.specs.declared.claims.Verdict.TheVariants.{Placed, Full, Withdrawn}
use Rattle.omega_model.specs.declared.entries.Entry.{Entry}
use Rattle.omega_model.specs.declared.entries.Entry.TheVariants.{Round, MachineAdd, MachineRemove, Commit}
use Rattle.omega_model.specs.declared.rows.Row.{Row}
use Rattle.omega_model.specs.declared.rows.TraceTables.{TraceTables}
use Rattle.omega_model.specs.declared.settings.Settings.{Settings}
use Rattle.omega_model.specs.declared.settings.Clock.TheVariants as clock
use Rattle.omega_model.specs.declared.settings.Command.TheVariants.{Replay}
use Rattle.omega_model.specs.declared.settings.Ends.TheVariants as ends
use Rattle.omega_model.specs.declared.settings.Preempt.TheVariants.{Nobody}
use Rattle.omega_model.specs.declared.settings.Extra.TheVariants.{Max}
use Rattle.omega_model.specs.declared.settings.Format.TheVariants.{Text}
use Rattle.omega_model.specs.declared.wishes.Constraint.{Constraint}
use Rattle.omega_model.specs.declared.wishes.Op.TheVariants.{Equal}
use Rattle.omega_model.specs.declared.wishes.Request.{Request}
use Rattle.omega_model.specs.declared.wishes.Wish.{Wish}

unfoldable amount : ℕ → Need
amount n = record { cpu = n; mem = n; disk = 0 }

-- a capacity: a machine without a row of its own has the greatest disk
unfoldable room : ℕ → Need
room n = record { cpu = n; mem = n; disk = 1000000000000 }

-- a claim that is placed and evicts nothing
unfoldable placed : Judgement
placed = record { verdict = Placed; evicted = [] }

-- a claim that isn't placed, for this reason
unfoldable refused : Verdict → Judgement
refused verdict = record { verdict = verdict; evicted = [] }

unfoldable task_key : ℕ → ℕ → TaskKey
task_key job index = record { job = job; index = index }

unfoldable spec_of : ℕ → ℕ → Bool → Spec
spec_of n prec differ = record { need = amount n; prec = prec; differ = differ }

-- a claim of a task of this need and precedence 1 on machine 1, without victims
unfoldable claim : ℕ → ℕ → ℕ → Claim
claim job index n = record { key = task_key job index; machine = 1; spec = spec_of n 1 false; victims = [] }

unfoldable asks : ℕ → List Claim → Txn
asks job claims = record { job = job; rule = Fine; mode = Incremental; claims = claims }

-- these many tries, and given up after so many commits that place nothing
unfoldable settings_with : ℕ → ℕ → Settings
settings_with tries give_up = record {
  command = Replay;
  seed = 0;
  batch = 1;
  rule = Fine;
  mode = Incremental;
  preempt = Nobody;
  extra = Max;
  tries = tries;
  give_up = give_up;
  window = 10;
  format = Text;
  machines = 0;
  jobs = 0;
  t_job = 100000;
  t_task = 5000;
  service_t_job = 100000;
  service_t_task = 5000;
  clock = clock.Rounds;
  times = false;
  ends = ends.Trace;
}

-- a row that submits a task of this need
unfoldable submitted : ℕ → ℕ → ℕ → ℕ → TaskFields
submitted time job index n = record { time = time; key = task_key job index; code = 0; class = 0; spec = spec_of n 1 false }

unfoldable likes : Constraint
likes = record { op = Equal; name = 107 ∷ []; value = 49 ∷ [] }

-- job 12 comes first, then job 10 with its task 1 before its task 0, then job 11; the constraint is
-- for task 0 of job 10
unfoldable trace : TraceTables
trace = record {
  machines = [];
  attrs = [];
  tasks = submitted 0 12 0 3 ∷ submitted 0 10 1 4 ∷ submitted 0 10 0 2 ∷ submitted 0 11 0 9 ∷ submitted 0 10 2 1 ∷ submitted 30 9 0 1 ∷ [];
  constraints = record { key = task_key 10 0; constraint = likes } ∷ [];
  activities = [];
  disks = [];
}

-- the rows of the first round
unfoldable rows : List Row
rows = take 5 (feed trace)

-- task 1 of job 10 runs, and two commits for job 11 placed nothing
unfoldable history : List Entry
history =
    MachineAdd 1 (room 10)
    ∷ Commit 1 1 (asks 10 (claim 10 1 4 ∷ [])) (placed ∷ [])
    ∷ Commit 1 2 (asks 11 (claim 11 0 9 ∷ [])) (refused (Full (room 6)) ∷ [])
    ∷ Commit 1 3 (asks 11 []) []
    ∷ []

unfoldable wish : ℕ → ℕ → ℕ → List Constraint → Wish
wish job index n constraints = record { key = task_key job index; spec = spec_of n 1 false; constraints = constraints }

-- the jobs of a trace stand in order of their first row, also one that comes later
first_rows : jobs_in_order (feed trace) ≡ 12 ∷ 10 ∷ 11 ∷ 9 ∷ []
unfolding amount task_key spec_of submitted likes trace
first_rows = refl

-- job 12 stands before job 10, whose running task 1 isn't asked for; job 11 is given up, and job 9 has
-- no wanted task yet
asked : requests (settings_with 3 2) trace rows history 1 ≡
    record { job = 12; wishes = wish 12 0 3 [] ∷ [] }
    ∷ record { job = 10; wishes = wish 10 0 2 (likes ∷ []) ∷ wish 10 2 1 [] ∷ [] } ∷ []
unfolding amount task_key spec_of claim asks settings_with submitted likes trace rows history wish room placed refused
asked = refl

-- one more failure allowed: job 11 is asked for again
asked_still : requests (settings_with 3 3) trace rows history 1 ≡
    record { job = 12; wishes = wish 12 0 3 [] ∷ [] }
    ∷ record { job = 10; wishes = wish 10 0 2 (likes ∷ []) ∷ wish 10 2 1 [] ∷ [] }
    ∷ record { job = 11; wishes = wish 11 0 9 [] ∷ [] } ∷ []
unfolding amount task_key spec_of claim asks settings_with submitted likes trace rows history wish room placed refused
asked_still = refl

-- commits of another scheduler for the job count too, and rounds in between don't matter
failed_twice : failed (history ++ Round 1 ∷ Commit 0 5 (asks 11 []) [] ∷ Commit 1 6 (asks 10 []) [] ∷ []) 11 ≡ 3
unfolding amount task_key spec_of claim asks history room placed refused
failed_twice = refl

-- a placed claim ends the count, also beside a refused one
count_anew : failed (history ++ Commit 1 4 (asks 11 (claim 11 0 5 ∷ claim 11 1 5 ∷ [])) (placed ∷ refused (Full (room 1)) ∷ []) ∷ Commit 1 5 (asks 11 []) [] ∷ []) 11 ≡ 1
unfolding amount task_key spec_of claim asks history room placed refused
count_anew = refl

-- a withdrawn claim places nothing
withdrawn_counts : failed (Commit 1 0 (asks 11 (claim 11 0 5 ∷ claim 11 1 9 ∷ [])) (refused (Withdrawn 1) ∷ refused (Full (room 5)) ∷ []) ∷ []) 11 ≡ 1
unfolding amount task_key spec_of claim asks room placed refused
withdrawn_counts = refl

unfoldable policy : Mode → Bool → Policy
policy mode preempt = record { rule = Fine; mode = mode; preempt = preempt }

-- machines 1 and 2 of capacity 10, and machine 3 that is down
unfoldable cell : Cell
cell = state (MachineAdd 1 (room 10) ∷ MachineAdd 2 (room 10) ∷ MachineAdd 3 (room 99) ∷ MachineRemove 3 ∷ [])

unfoldable claim_on : ℕ → ℕ → ℕ → ℕ → ℕ → Claim
claim_on machine job index n prec = record { key = task_key job index; machine = machine; spec = spec_of n prec false; victims = [] }

-- the second wish goes on the other machine, the third goes nowhere and is left out, the fourth fits
-- beside the first
leaves_out : plan_for cell (wish 1 0 6 [] ∷ wish 1 1 7 [] ∷ wish 1 2 8 [] ∷ wish 1 3 4 [] ∷ []) 0 (policy Incremental false) ≡
    claim_on 1 1 0 6 1 ∷ claim_on 2 1 1 7 1 ∷ claim_on 1 1 3 4 1 ∷ []
unfolding amount task_key spec_of wish policy cell claim_on room
leaves_out = refl

-- as a gang they make no claim at all
gang_of_none : plan_for cell (wish 1 0 6 [] ∷ wish 1 1 7 [] ∷ wish 1 2 8 [] ∷ wish 1 3 4 [] ∷ []) 0 (policy Gang false) ≡ []
unfolding amount task_key spec_of wish policy cell room
gang_of_none = refl

-- a gang all of whose wishes find a machine is claimed whole
gang_of_all : plan_for cell (wish 1 0 6 [] ∷ wish 1 1 7 [] ∷ wish 1 3 4 [] ∷ []) 0 (policy Gang false) ≡
    claim_on 1 1 0 6 1 ∷ claim_on 2 1 1 7 1 ∷ claim_on 1 1 3 4 1 ∷ []
unfolding amount task_key spec_of wish policy cell claim_on room
gang_of_all = refl

-- machines are tried from the start on and then from the first one: a machine that is down takes nothing
from_place_one : plan_for cell (wish 1 0 6 [] ∷ wish 1 1 6 [] ∷ []) 1 (policy Incremental false) ≡
    claim_on 2 1 0 6 1 ∷ claim_on 1 1 1 6 1 ∷ []
unfolding amount task_key spec_of wish policy cell claim_on room
from_place_one = refl

from_place_two : plan_for cell (wish 1 0 6 [] ∷ []) 2 (policy Incremental false) ≡ claim_on 1 1 0 6 1 ∷ []
unfolding amount task_key spec_of wish policy cell claim_on room
from_place_two = refl

-- a task that must be alone of its job goes on a machine of its own
unfoldable lonely : ℕ → Wish
lonely index = record { key = task_key 1 index; spec = spec_of 1 1 true; constraints = [] }

apart : plan_for cell (lonely 0 ∷ lonely 1 ∷ lonely 2 ∷ []) 0 (policy Incremental true) ≡
    record { key = task_key 1 0; machine = 1; spec = spec_of 1 1 true; victims = [] }
    ∷ record { key = task_key 1 1; machine = 2; spec = spec_of 1 1 true; victims = [] } ∷ []
unfolding amount task_key spec_of lonely policy cell room
apart = refl

-- on machine 1 run tasks of precedence 2, 1, 1 and 5, the last of job 7; on machine 2 one of precedence 1
unfoldable crowded : Cell
crowded = state (
    MachineAdd 1 (room 10) ∷ MachineAdd 2 (room 10)
    ∷ Commit 1 2 (asks 10 (claim_on 1 10 0 3 2 ∷ claim_on 1 10 2 3 1 ∷ claim_on 1 10 1 2 1 ∷ claim_on 1 7 0 2 5 ∷ claim_on 2 11 0 9 1 ∷ []))
    (placed ∷ placed ∷ placed ∷ placed ∷ placed ∷ [])
    ∷ [])

-- a wish of job 7 with precedence 4
unfoldable strong : ℕ → Wish
strong n = record { key = task_key 7 1; spec = spec_of n 4 false; constraints = [] }

-- the fewest go, by precedence, then index: 2 of them make 5 free, and all 3 make 8 free
two_victims : victims crowded 1 (strong 4) ≡ Some (task_key 10 1 ∷ task_key 10 2 ∷ [])
unfolding amount task_key spec_of asks claim_on crowded strong room placed refused
two_victims = refl

three_victims : victims crowded 1 (strong 8) ≡ Some (task_key 10 1 ∷ task_key 10 2 ∷ task_key 10 0 ∷ [])
unfolding amount task_key spec_of asks claim_on crowded strong room placed refused
three_victims = refl

-- a task of the wish's own job is never a victim, so 9 doesn't go in
no_victims : victims crowded 1 (strong 9) ≡ None
unfolding amount task_key spec_of asks claim_on crowded strong room placed refused
no_victims = refl

-- no victim where the wish fits as it is
needless : victims crowded 2 (strong 1) ≡ Some []
unfolding amount task_key spec_of asks claim_on crowded strong room placed refused
needless = refl

-- a plan evicts where the policy lets it
evicts : plan_for crowded (strong 4 ∷ []) 0 (policy Incremental true) ≡
    record { key = task_key 7 1; machine = 1; spec = spec_of 4 4 false; victims = task_key 10 1 ∷ task_key 10 2 ∷ [] } ∷ []
unfolding amount task_key spec_of asks claim_on crowded strong policy room placed refused
evicts = refl

-- and makes no claim where it doesn't
spares : plan_for crowded (strong 4 ∷ []) 0 (policy Incremental false) ≡ []
unfolding amount task_key spec_of asks claim_on crowded strong policy room placed refused
spares = refl

-- room without eviction on a later machine is taken before eviction on an earlier one
room_first : plan_for crowded (strong 1 ∷ []) 0 (policy Incremental true) ≡ claim_on 2 7 1 1 4 ∷ []
unfolding amount task_key spec_of asks claim_on crowded strong policy room placed refused
room_first = refl

-- a wish of equal precedence evicts nobody
equals_stay : plan_for crowded (record { key = task_key 8 0; spec = spec_of 4 1 false; constraints = [] } ∷ []) 0 (policy Incremental true) ≡ []
unfolding amount task_key spec_of asks claim_on crowded policy room placed refused
equals_stay = refl

-- the second wish is planned on the cell without the first one's victims
after_eviction : plan_for crowded (strong 3 ∷ record { key = task_key 8 0; spec = spec_of 2 1 false; constraints = [] } ∷ []) 0 (policy Incremental true) ≡
    record { key = task_key 7 1; machine = 1; spec = spec_of 3 4 false; victims = task_key 10 1 ∷ task_key 10 2 ∷ [] }
    ∷ claim_on 1 8 0 2 1 ∷ []
unfolding amount task_key spec_of asks claim_on crowded strong policy room placed refused
after_eviction = refl

-- what is left of requests after some lists of outcomes, where jobs have failed so often before
unfoldable left : Settings → (ℕ → ℕ) → List Request → List (List Outcome) → Option (List Request)
left settings before some lists = option_map (λ (standing : Standing). standing.requests)
    (fold (λ standing outcomes. option_and_then (λ (s : Standing). after_outcomes settings s s.requests outcomes) standing)
    (Some (fresh before some)) lists)

unfoldable never : ℕ → ℕ
never job = 0

unfoldable outcome : ℕ → ℕ → Verdict → Outcome
outcome job index verdict = record { key = task_key job index; verdict = verdict; evicted = [] }

-- job 1 wishes for two tasks, job 2 for one
unfoldable two_jobs : List Request
two_jobs =
    record { job = 1; wishes = wish 1 0 1 [] ∷ wish 1 1 1 [] ∷ [] }
    ∷ record { job = 2; wishes = wish 2 0 1 [] ∷ [] } ∷ []

-- before any commit all is left
untouched : left (settings_with 3 9) never two_jobs [] ≡ Some two_jobs
unfolding amount task_key spec_of settings_with wish left never two_jobs
untouched = refl

-- what was placed is no longer wished for, and the rest remains
partly_placed : left (settings_with 3 9) never two_jobs ((outcome 1 0 Placed ∷ outcome 1 1 (Full (amount 0)) ∷ []) ∷ []) ≡
    Some (record { job = 1; wishes = wish 1 1 1 [] ∷ [] } ∷ record { job = 2; wishes = wish 2 0 1 [] ∷ [] } ∷ [])
unfolding amount task_key spec_of settings_with wish left never outcome two_jobs
partly_placed = refl

-- once all is placed the next request is the first
all_placed : left (settings_with 3 9) never two_jobs ((outcome 1 0 Placed ∷ outcome 1 1 Placed ∷ []) ∷ []) ≡
    Some (record { job = 2; wishes = wish 2 0 1 [] ∷ [] } ∷ [])
unfolding amount task_key spec_of settings_with wish left never outcome two_jobs
all_placed = refl

-- also where it took two commits
placed_in_two : left (settings_with 3 9) never two_jobs
    ((outcome 1 0 (Full (amount 0)) ∷ outcome 1 1 Placed ∷ []) ∷ (outcome 1 0 Placed ∷ []) ∷ []) ≡
    Some (record { job = 2; wishes = wish 2 0 1 [] ∷ [] } ∷ [])
unfolding amount task_key spec_of settings_with wish left never outcome two_jobs
placed_in_two = refl

-- an empty list ends a request
empty_list : left (settings_with 3 9) never two_jobs ([] ∷ []) ≡ Some (record { job = 2; wishes = wish 2 0 1 [] ∷ [] } ∷ [])
unfolding amount task_key spec_of settings_with wish left never two_jobs
empty_list = refl

unfoldable all_refused : List Outcome
all_refused = outcome 1 0 (Full (amount 0)) ∷ outcome 1 1 (Full (amount 0)) ∷ []

-- the second of three tries leaves the request, the third ends it
two_tries : left (settings_with 3 9) never two_jobs (all_refused ∷ all_refused ∷ []) ≡ Some two_jobs
unfolding amount task_key spec_of settings_with wish left never outcome two_jobs all_refused
two_tries = refl

three_tries : left (settings_with 3 9) never two_jobs (all_refused ∷ all_refused ∷ all_refused ∷ []) ≡
    Some (record { job = 2; wishes = wish 2 0 1 [] ∷ [] } ∷ [])
unfolding amount task_key spec_of settings_with wish left never outcome two_jobs all_refused
three_tries = refl

-- the next request counts its tries from 0
tries_anew : left (settings_with 2 9) never two_jobs (all_refused ∷ all_refused ∷ (outcome 2 0 (Full (amount 0)) ∷ []) ∷ []) ≡
    Some (record { job = 2; wishes = wish 2 0 1 [] ∷ [] } ∷ [])
unfolding amount task_key spec_of settings_with wish left never outcome two_jobs all_refused
tries_anew = refl

-- a job that failed once before is given up at its second failure
unfoldable once_before : ℕ → ℕ
once_before job = 1

given_up_now : left (settings_with 9 2) once_before two_jobs (all_refused ∷ []) ≡
    Some (record { job = 2; wishes = wish 2 0 1 [] ∷ [] } ∷ [])
unfolding amount task_key spec_of settings_with wish left once_before outcome two_jobs all_refused
given_up_now = refl

-- a placed claim ends the count, so that it takes two more
counts_anew : left (settings_with 9 2) once_before two_jobs
    ((outcome 1 0 Placed ∷ outcome 1 1 (Full (amount 0)) ∷ []) ∷ (outcome 1 1 (Full (amount 0)) ∷ []) ∷ []) ≡
    Some (record { job = 1; wishes = wish 1 1 1 [] ∷ [] } ∷ record { job = 2; wishes = wish 2 0 1 [] ∷ [] } ∷ [])
unfolding amount task_key spec_of settings_with wish left once_before outcome two_jobs
counts_anew = refl

-- of two requests of one job the second counts what the first failed
one_job_twice : left (settings_with 1 2) never
    (record { job = 1; wishes = wish 1 0 1 [] ∷ [] } ∷ record { job = 1; wishes = wish 1 1 1 [] ∷ [] } ∷ [])
    ((outcome 1 0 (Full (amount 0)) ∷ []) ∷ (outcome 1 1 (Full (amount 0)) ∷ []) ∷ []) ≡ Some []
unfolding amount task_key spec_of settings_with wish left never outcome
one_job_twice = refl

-- there is no answer for a list that no request is there to take
one_too_many : left (settings_with 3 9) never two_jobs ([] ∷ [] ∷ [] ∷ []) ≡ None
unfolding amount task_key spec_of settings_with wish left never two_jobs
one_too_many = refl

-- a machine of capacity 10 and two tasks of need 6 of jobs 1 and 2, all at time 0
unfoldable small : TraceTables
small = record {
  machines = record { time = 0; machine = 1; code = 0; cap = amount 10 } ∷ [];
  attrs = [];
  tasks = submitted 0 1 0 6 ∷ submitted 0 2 0 6 ∷ [];
  constraints = [];
  activities = [];
  disks = [];
}

-- its round begins with two entries
unfoldable start : List Entry
start = Round 0 ∷ MachineAdd 1 (room 10) ∷ []

begun : opened small [] [] (record { number = 0; rows = feed small }) ≡ record { rows = feed small; history = start }
unfolding amount task_key spec_of submitted small start room
begun = refl

-- the first commit is for job 1, and is placed
unfoldable first_commit : Entry
first_commit = Commit 1 2 (asks 1 (claim 1 0 6 ∷ [])) (placed ∷ [])

first_plan : planned (settings_with 3 9) 1 (commits_of 1 start) (take 2 start) (wish 1 0 6 [] ∷ []) ≡ claim 1 0 6 ∷ []
unfolding amount task_key spec_of claim settings_with wish start room state_after
first_plan = refl

-- then job 2 is left
second_due : option_map (λ (standing : Standing). standing.requests) (standing_of (settings_with 3 9) small (feed small) 2 1 (start ++ first_commit ∷ [])) ≡
    Some (record { job = 2; wishes = wish 2 0 6 [] ∷ [] } ∷ [])
unfolding amount task_key spec_of claim asks settings_with submitted wish small start first_commit room placed refused
second_due = refl

-- from the state before the first commit job 2 would be planned on the same machine, and refused
stale_plan : planned (settings_with 3 9) 1 1 (take 2 (start ++ first_commit ∷ [])) (wish 2 0 6 [] ∷ []) ≡ claim 2 0 6 ∷ []
unfolding amount task_key spec_of claim asks settings_with wish start first_commit room placed refused state_after
stale_plan = refl

-- from the state after it there is no room, and the commit is empty
fresh_plan : planned (settings_with 3 9) 1 1 (take 3 (start ++ first_commit ∷ [])) (wish 2 0 6 [] ∷ []) ≡ []
unfolding amount task_key spec_of claim asks settings_with wish start first_commit room placed refused state_after
fresh_plan = refl

unfoldable second_commit : Entry
second_commit = Commit 1 3 (asks 2 []) []

-- after the empty commit nothing is left; a commit of another scheduler changes nothing of it
nothing_left : option_map (λ (standing : Standing). standing.requests)
    (standing_of (settings_with 3 9) small (feed small) 2 1 (start ++ first_commit ∷ Commit 0 2 (asks 5 []) [] ∷ second_commit ∷ [])) ≡ Some []
unfolding amount task_key spec_of claim asks settings_with submitted small start first_commit second_commit room placed refused
nothing_left = refl

-- a third commit of the scheduler has no request to be for
third_refused : standing_of (settings_with 3 9) small (feed small) 2 1 (start ++ first_commit ∷ second_commit ∷ second_commit ∷ []) ≡ None
unfolding amount task_key spec_of claim asks settings_with submitted small start first_commit second_commit room placed refused
third_refused = refl

-- the place after a scheduler's last commit, and 0 where it has none
last_place : after_last 1 (start ++ first_commit ∷ second_commit ∷ Commit 0 2 (asks 5 []) [] ∷ []) ≡ 4
unfolding amount task_key spec_of claim asks start first_commit second_commit room placed refused
last_place = refl

no_last : after_last 0 (start ++ first_commit ∷ second_commit ∷ []) ≡ 0
unfolding amount task_key spec_of claim asks start first_commit second_commit room placed refused
no_last = refl

-- a machine whose disk is smaller than what the task asks for
unfoldable quarter : ℕ → Need
quarter disk = record { cpu = 250000000; mem = 250000000; disk = disk }

unfoldable on_disk : List DiskFields → TraceTables
on_disk disks = record {
  machines = record { time = 0; machine = 1; code = 0; cap = record { cpu = 500000000; mem = 500000000; disk = 0 } } ∷ [];
  attrs = [];
  tasks = record { time = 0; key = task_key 10 0; code = 0; class = 0; spec = record { need = quarter 1000000; prec = 1; differ = false } } ∷ [];
  constraints = [];
  activities = [];
  disks = disks;
}

unfoldable half : ℕ → Need
half disk = record { cpu = 500000000; mem = 500000000; disk = disk }

unfoldable small_disk : List DiskFields
small_disk = record { machine = 1; disk = 900000 } ∷ []

disk_given : (opened (on_disk small_disk) [] [] (record { number = 0; rows = feed (on_disk small_disk) })).history ≡ Round 0 ∷ MachineAdd 1 (half 900000) ∷ []
unfolding task_key quarter on_disk half small_disk
disk_given = refl

disk_not_given : (opened (on_disk []) [] [] (record { number = 0; rows = feed (on_disk []) })).history ≡ Round 0 ∷ MachineAdd 1 (half 1000000000000) ∷ []
unfolding task_key quarter on_disk half
disk_not_given = refl

unfoldable disk_wish : Wish
disk_wish = record { key = task_key 10 0; spec = record { need = quarter 1000000; prec = 1; differ = false }; constraints = [] }

-- it goes nowhere for its disk alone
too_small_a_disk : planned (settings_with 5 1000) 1 0 (Round 0 ∷ MachineAdd 1 (half 900000) ∷ []) (disk_wish ∷ []) ≡ []
unfolding task_key quarter half disk_wish settings_with state_after
too_small_a_disk = refl

wide_disk : planned (settings_with 5 1000) 1 0 (Round 0 ∷ MachineAdd 1 (half 1000000000000) ∷ []) (disk_wish ∷ []) ≡
    record { key = task_key 10 0; machine = 1; spec = record { need = quarter 1000000; prec = 1; differ = false }; victims = [] } ∷ []
unfolding task_key quarter half disk_wish settings_with state_after
wide_disk = refl
