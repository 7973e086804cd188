-- A worked history in which a claim stands on a machine that doesn't meet its wish: no run has it.
use Rattle.std.proofs.Common.{◌≡◌, ℕ, zero, suc, true, false, List, [], ◌∷◌, ◌++◌, Some, refl, sym, subst, length, take, slice_get, lit<}
use Rattle.std.specs.Prelude.{IsSomeAnd, IsTrue}
use Rattle.omega_model.specs.Cell.{machine_at}
use Rattle.omega_model.specs.Feed.{feed, rounds}
use Rattle.omega_model.specs.Fields.{TaskFields}
use Rattle.omega_model.specs.Lawful.{Rounds, opened, rows_of}
use Rattle.omega_model.specs.Planning.{suits}
use Rattle.omega_model.specs.State.{state}
use Rattle.omega_model.specs.declared.cells.Attr.{Attr}
use Rattle.omega_model.specs.declared.cells.Machine.{Machine}
use Rattle.omega_model.specs.declared.cells.Need.{Need}
use Rattle.omega_model.specs.declared.cells.Spec.{Spec}
use Rattle.omega_model.specs.declared.cells.TaskKey.{TaskKey}
use Rattle.omega_model.specs.declared.claims.Claim.{Claim}
use Rattle.omega_model.specs.declared.claims.Mode.TheVariants.{Incremental}
use Rattle.omega_model.specs.declared.claims.Rule.TheVariants.{Fine}
use Rattle.omega_model.specs.declared.claims.Txn.{Txn}
use Rattle.omega_model.specs.declared.claims.Verdict.TheVariants.{Placed}
use Rattle.omega_model.specs.declared.entries.Entry.{Entry}
use Rattle.omega_model.specs.declared.entries.Entry.TheVariants.{Round, MachineAdd, Commit}
use Rattle.omega_model.specs.declared.rows.Round.{Round as RoundRows}
use Rattle.omega_model.specs.declared.rows.TraceTables.{TraceTables}
use Rattle.omega_model.specs.declared.settings.Clock.TheVariants as clock
use Rattle.omega_model.specs.declared.settings.Command.TheVariants.{Replay}
use Rattle.omega_model.specs.declared.settings.Ends.TheVariants as ends
use Rattle.omega_model.specs.declared.settings.Extra.TheVariants.{Max}
use Rattle.omega_model.specs.declared.settings.Format.TheVariants.{Text}
use Rattle.omega_model.specs.declared.settings.Preempt.TheVariants.{Nobody}
use Rattle.omega_model.specs.declared.settings.Settings.{Settings}
use Rattle.omega_model.specs.declared.wishes.Constraint.{Constraint}
use Rattle.omega_model.specs.declared.wishes.Op.TheVariants.{Equal}
use Rattle.omega_model.specs.declared.wishes.Request.{Request}
use Rattle.omega_model.specs.declared.wishes.Wish.{Wish}
use Rattle.omega_laws.specs.Constraints.{SuitsItsWish}
use Rattle.omega_laws.specs.NextCommit.{WorksOn, left_of}
use Rattle.omega_laws.specs.WholeCommits.{CommitsAreWhole, IsWholeAttempt}

unfoldable amount : ℕ → Need
amount n = record { cpu = n; mem = n; disk = 0 }

unfoldable settings : Settings
settings = record {
  command = Replay;
  seed = 0;
  batch = 1;
  rule = Fine;
  mode = Incremental;
  preempt = Nobody;
  extra = Max;
  tries = 3;
  give_up = 9;
  window = 10;
  format = Text;
  machines = 0;
  jobs = 0;
  t_job = 100000;
  t_task = 5000;
  service_t_job = 100000;
  service_t_task = 5000;
  clock = clock.Rounds;
  times = false;
  ends = ends.Trace;
}

unfoldable spec : Spec
spec = record { need = amount 6; prec = 1; differ = false }

unfoldable key : TaskKey
key = record { job = 1; index = 0 }

-- the attribute of name 7 is to be 49
unfoldable constraint : Constraint
constraint = record { op = Equal; name = 7 ∷ []; value = 49 ∷ [] }

unfoldable submitted : TaskFields
submitted = record { time = 0; key = key; code = 0; class = 0; spec = spec }

-- a machine without attributes, and a task with that constraint
unfoldable trace : TraceTables
trace = record {
  machines = record { time = 0; machine = 1; code = 0; cap = amount 10 } ∷ [];
  attrs = [];
  tasks = submitted ∷ [];
  constraints = record { key = key; constraint = constraint } ∷ [];
  activities = [];
  disks = [];
}

unfoldable only_round : RoundRows
only_round = record { number = 0; rows = feed trace }

unfoldable wish : Wish
wish = record { key = key; spec = spec; constraints = constraint ∷ [] }

unfoldable wanted : Request
wanted = record { job = 1; wishes = wish ∷ [] }

unfoldable claim : Claim
claim = record { key = key; machine = 1; spec = spec; victims = [] }

unfoldable txn : Txn
txn = record { job = 1; rule = Fine; mode = Incremental; claims = claim ∷ [] }

unfoldable before : List Entry
before = Round 0 ∷ MachineAdd 1 (record { cpu = 10; mem = 10; disk = 1000000000000 }) ∷ []

-- the task is placed on the machine all the same
unfoldable misplaced : List Entry
misplaced = before ++ Commit 1 2 txn (record { verdict = Placed; evicted = [] } ∷ []) ∷ []

unfoldable machine : List Attr → Machine
machine attrs = record { id = 1; up = true; cap = record { cpu = 10; mem = 10; disk = 1000000000000 }; attrs = attrs }

-- the machine doesn't meet the wish
unsuited : SuitsItsWish (machine [] ∷ []) (wish ∷ []) claim → ⊥
unfolding amount spec key constraint wish claim machine
unsuited is = by_number is.number is.wish is.wished is.suited where
  by_number : (number : ℕ) (other : Wish) → slice_get (wish ∷ []) number ≡ Some other
      → IsSomeAnd (machine_at (machine [] ∷ []) claim.machine) (λ machine. IsTrue (suits other machine.attrs)) → ⊥
  by_number zero other is suited =
      let same : wish ≡ other = cc in
      let none : false ≡ true = subst (λ (w : Wish). IsTrue (suits w [])) (sym same) suited in absurd (cc)
  by_number (suc number) other is suited = absurd (cc)

-- with that attribute it would
suited : SuitsItsWish (machine (record { name = 7 ∷ []; value = 49 ∷ [] } ∷ []) ∷ []) (wish ∷ []) claim
unfolding amount spec key constraint wish claim machine
suited = record { wish = wish; number = 0; wished = refl; is_for = refl; suited = refl }

-- the only request that scheduler 1 has after the rows of the trace
only_request : (done : ℕ) (round : RoundRows) (start : List Entry) (request : Request)
    → slice_get (rounds trace settings.window) done ≡ Some round
    → Rounds settings trace [] [] (take done (rounds trace settings.window)) start
    → WorksOn settings trace (rows_of (take done (rounds trace settings.window)) ++ round.rows)
    (length (opened trace (rows_of (take done (rounds trace settings.window))) start round).history) before 1 request
    → wanted ≡ request
unfolding amount settings spec key constraint submitted trace only_round wish wanted before
only_request zero round start request next whole works =
    let same : only_round ≡ round = cc in
    let begun : left_of settings trace round.rows (length (opened trace [] [] round).history) before 1 ≡ Some (request ∷ works.0) =
    subst (λ (history : List Entry). left_of settings trace round.rows (length (opened trace [] history round).history) before 1 ≡ Some (request ∷ works.0)) whole works.1 in
    let is : Some (wanted ∷ []) ≡ Some (request ∷ works.0) =
    subst (λ (r : RoundRows). left_of settings trace r.rows (length (opened trace [] [] r).history) before 1 ≡ Some (request ∷ works.0)) (sym same) begun in cc
only_request (suc done) round start request next whole works = absurd (cc)

-- nor is it one that the machine meets
unsuited_there : (request : Request) → wanted ≡ request → SuitsItsWish (state before).machines request.wishes claim → ⊥
unfolding wanted before machine
unsuited_there request same suits =
    unsuited (subst (λ (r : Request). SuitsItsWish (state before).machines r.wishes claim) (sym same) suits)

-- so the commit isn't an attempt on it
misplaced_isnt_whole : CommitsAreWhole settings trace misplaced → ⊥
unfolding before misplaced txn
misplaced_isnt_whole whole =
    let is : IsWholeAttempt settings trace before 1 2 txn = whole 2 (Commit 1 2 txn (record { verdict = Placed; evicted = [] } ∷ [])) refl in
    let asked : wanted ≡ is.request = only_request is.underway.done is.underway.round is.underway.start is.request is.underway.next is.underway.whole is.first in
    unsuited_there is.request asked (is.suited 0 claim (lit< tt))
