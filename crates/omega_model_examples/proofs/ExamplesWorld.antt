-- Worked answers: steps of a scheduler in a small world.
use Rattle.std.proofs.Common.{◌≡◌, ◌≤◌, ℕ, zero, suc, false, List, [], ◌∷◌, ◌++◌, Option, Some, None, refl, take, slice_get, arith}
use Rattle.rand_pcg.specs.Lcg.{state_after}
use Rattle.omega_model.specs.Feed.{feed}
use Rattle.omega_model.specs.Stepping.{Step, BeginsRound}
use Rattle.omega_model.specs.Work.{HasLeft, IsDue}
use Rattle.omega_model.specs.World.{World, NobodySynced, OthersStay, Idle, Synced, Committed}
use Rattle.omega_model.specs.declared.cells.Spec.{Spec}
use Rattle.omega_model.specs.declared.cells.TaskKey.{TaskKey}
use Rattle.omega_model.specs.declared.claims.Mode.TheVariants.{Incremental}
use Rattle.omega_model.specs.declared.claims.Rule.TheVariants.{Fine}
use Rattle.omega_model.specs.declared.claims.Txn.{Txn}
use Rattle.omega_model.specs.declared.claims.Verdict.TheVariants.{Placed}
use Rattle.omega_model.specs.declared.entries.Entry.{Entry}
use Rattle.omega_model.specs.declared.entries.Entry.TheVariants.{Round, MachineAdd, Commit}
use Rattle.omega_model.specs.declared.rows.Round.{Round as RoundRows}
use Rattle.omega_model.specs.declared.rows.TraceTables.{TraceTables}
use Rattle.omega_model.specs.declared.settings.Clock.TheVariants as clock
use Rattle.omega_model.specs.declared.settings.Command.TheVariants.{Replay}
use Rattle.omega_model.specs.declared.settings.Ends.TheVariants as ends
use Rattle.omega_model.specs.declared.settings.Extra.TheVariants.{Max}
use Rattle.omega_model.specs.declared.settings.Format.TheVariants.{Text}
use Rattle.omega_model.specs.declared.settings.Preempt.TheVariants.{Nobody}
use Rattle.omega_model.specs.declared.settings.Settings.{Settings}
use Rattle.omega_model.specs.declared.wishes.Request.{Request}

unfoldable spec : Spec
spec = record { need = record { cpu = 6; mem = 6; disk = 0 }; prec = 1; differ = false }

unfoldable key : TaskKey
key = record { job = 1; index = 0 }

unfoldable settings : Settings
settings = record {
  command = Replay;
  seed = 0;
  batch = 1;
  rule = Fine;
  mode = Incremental;
  preempt = Nobody;
  extra = Max;
  tries = 3;
  give_up = 9;
  window = 10;
  format = Text;
  machines = 0;
  jobs = 0;
  t_job = 100000;
  t_task = 5000;
  service_t_job = 100000;
  service_t_task = 5000;
  clock = clock.Rounds;
  times = false;
  ends = ends.Trace;
}

-- a machine, and a task of job 1
unfoldable trace : TraceTables
trace = record {
  machines = record { time = 0; machine = 1; code = 0; cap = record { cpu = 10; mem = 10; disk = 0 } } ∷ [];
  attrs = [];
  tasks = record { time = 0; key = key; code = 0; class = 0; spec = spec } ∷ [];
  constraints = [];
  activities = [];
  disks = [];
}

unfoldable only_round : RoundRows
only_round = record { number = 0; rows = feed trace }

unfoldable begun : List Entry
begun = Round 0 ∷ MachineAdd 1 (record { cpu = 10; mem = 10; disk = 1000000000000 }) ∷ []

unfoldable request : Request
request = record { job = 1; wishes = record { key = key; spec = spec; constraints = [] } ∷ [] }

unfoldable txn : Txn
txn = record { job = 1; rule = Fine; mode = Incremental; claims = record { key = key; machine = 1; spec = spec; victims = [] } ∷ [] }

unfoldable committed : List Entry
committed = begun ++ Commit 1 2 txn (record { verdict = Placed; evicted = [] } ∷ []) ∷ []

-- a world with this history in which scheduler 1 alone may have synced
unfoldable only : Option ℕ → ℕ → Option ℕ
only first zero = None
only first (suc zero) = first
only first (suc (suc scheduler)) = None

unfoldable world : List Entry → Option ℕ → World
world history first = record { history = history; synced = only first }

-- the world before its only round, and after the round's rows
nobody : NobodySynced (world begun None)
unfolding world only
nobody zero = refl
nobody (suc zero) = refl
nobody (suc (suc scheduler)) = refl

begins : BeginsRound trace [] only_round (world [] None) (world begun None)
unfolding spec key trace only_round begun world only
begins = record { entries = refl; nobody = nobody }

-- no entry of the begun history stands after its rows
nothing_due : (scheduler place : ℕ) (entry : Entry) → slice_get begun place ≡ Some entry → 2 ≤ place → IsDue settings trace (feed trace) 2 scheduler (take place begun) entry
unfolding begun
nothing_due scheduler zero entry at past = absurd (omega arith)
nothing_due scheduler (suc zero) entry at past = absurd (omega arith)
nothing_due scheduler (suc (suc place)) entry at past = absurd cc

one_left : HasLeft settings trace (feed trace) 2 1 begun (request ∷ [])
unfolding spec key settings trace begun request
one_left = record { remains = refl; due = nothing_due 1 }

-- the other schedulers are as they were, whatever scheduler 1 has synced
others_stay : (before after : List Entry) (was is : Option ℕ) → OthersStay 1 (world before was) (world after is)
unfolding world only
others_stay before after was is zero differs = refl
others_stay before after was is (suc zero) differs = absurd (differs refl)
others_stay before after was is (suc (suc other)) differs = refl

-- scheduler 1 has work: its first step takes over the history
syncs : Step settings trace (feed trace) 2 (world begun None) 1 (world begun (Some 2)) Synced
unfolding begun request world only
syncs = record {
  left = request ∷ [];
  is_left = one_left;
  steps = record {
    has_work = λ none. cc none;
    first = refl;
    same_history = refl;
    seen_all = refl;
    others = others_stay begun begun None (Some 2);
  };
}

-- its second step commits the plan for its first request, at the history's end
commits : Step settings trace (feed trace) 2 (world begun (Some 2)) 1 (world committed None) (Committed 2)
unfolding spec key settings begun request txn committed world only state_after
commits = record {
  left = request ∷ [];
  is_left = one_left;
  steps = record {
    request = request;
    rest = [];
    has_work = refl;
    seen = 2;
    synced_before = refl;
    txn = txn;
    agrees = record { job = refl; rule = refl; mode = refl; claims = refl };
    at_end = refl;
    appended = refl;
    spent = refl;
    others = others_stay begun committed (Some 2) None;
  };
}

-- with work left no step may be idle
not_idle : (new : World) → Step settings trace (feed trace) 2 (world begun None) 1 new Idle → ⊥
unfolding spec key settings trace begun request world only
not_idle new step =
    let has : Some (request ∷ []) ≡ Some step.left = step.is_left.remains in
    let none : step.left ≡ [] = step.steps.no_work in
    cc (has, none)

-- nor may a step without a sync commit
not_unsynced : (new : World) (place : ℕ) → Step settings trace (feed trace) 2 (world begun None) 1 new (Committed place) → ⊥
unfolding world only
not_unsynced new place step =
    let was : None ≡ Some step.steps.seen = step.steps.synced_before in
    cc was
