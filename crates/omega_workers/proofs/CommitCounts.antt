-- What a commit adds to what is counted, and what stays in a longer history.
use Rattle.std.proofs.Common.{◌≡◌, ◌≢◌, ◌≤◌, ◌+◌, ℕ, Bool, subst, true, false, cond, List, Option, Some, None, [], ◌∷◌, ◌++◌, length, take, refl, sym, ap, arith, ◌∙◌, inl, inr, ◌==◌, if◌then◌else◌, length-append, add-zero}
use Rattle.std.specs.List.{list_any}
use Rattle.std.proofs.lemmas.Bool.{eq-eqb, ne_eqb}
use Rattle.std.proofs.lemmas.Bool.Decides.{eqb_tells}
use Rattle.std.proofs.lemmas.List.{take-append-le}
use Rattle.std.proofs.lemmas.List.Sums.{sum_by-append, sum_by-cons}
use Rattle.omega_model.proofs.Answered.{length-all_or_nothing, length-judgements}
use Rattle.omega_model.proofs.Standing.{failed_push, placed_outcomes}
use Rattle.omega_model.specs.Reply.{admits, by_mode, judgements}
use Rattle.omega_model.specs.Requests.{failed}
use Rattle.omega_model.specs.State.{reply_of, state}
use Rattle.omega_model.specs.Work.{commits_of, failing_with, is_commit_of, outcomes_of}
use Rattle.omega_model.specs.declared.claims.Judgement.{Judgement}
use Rattle.omega_model.specs.declared.claims.Mode.{Mode}
use Rattle.omega_model.specs.declared.claims.Mode.TheVariants.{Incremental, Gang}
use Rattle.omega_model.specs.declared.claims.Txn.{Txn}
use Rattle.omega_model.specs.declared.entries.Entry.{Entry}
use Rattle.omega_model.specs.declared.entries.Entry.TheVariants.{Commit}
use Rattle.omega_plan.specs.Indexes.{AreIndexesOf}
use Rattle.omega_plan.specs.Levels.{LevelsTell}
use Rattle.omega_plan.specs.Telling.{freed_of}
use Rattle.omega_plan.specs.declared.indexes.Indexes.{Indexes}
use Rattle.omega_model.specs.Cell.{Cell}
use Rattle.omega_workers.specs.Workers.{SyncedWithin}

commits_more : (scheduler : ℕ) (before : List Entry) (entry : Entry)
    → commits_of scheduler (before ++ entry ∷ []) ≡ commits_of scheduler before + cond (is_commit_of scheduler entry) 1 0
commits_more scheduler before entry =
    let one : ℕ → ℕ = λ n. n in
    let split : commits_of scheduler (before ++ entry ∷ []) ≡ commits_of scheduler before + commits_of scheduler (entry ∷ []) =
    sum_by-append (λ (e : Entry). cond (is_commit_of scheduler e) 1 0) before (entry ∷ []) in
    let last : commits_of scheduler (entry ∷ []) ≡ cond (is_commit_of scheduler entry) 1 0 + commits_of scheduler [] =
    sum_by-cons (λ (e : Entry). cond (is_commit_of scheduler e) 1 0) entry [] in
    let none : commits_of scheduler [] ≡ 0 = refl in
    omega (arith, split, last, none)

-- a commit counts for its scheduler
pub commits_own : (scheduler seen : ℕ) (txn : Txn) (reply : List Judgement) (before : List Entry)
    → commits_of scheduler (before ++ Commit scheduler seen txn reply ∷ []) ≡ commits_of scheduler before + 1
commits_own scheduler seen txn reply before =
    let itself : (scheduler == scheduler) ≡ true = eq-eqb scheduler scheduler refl in
    commits_more scheduler before (Commit scheduler seen txn reply) ∙ ap (λ (b : Bool). commits_of scheduler before + cond b 1 0) itself

-- other entries don't
pub commits_other : (scheduler : ℕ) (before : List Entry) (entry : Entry) → is_commit_of scheduler entry ≡ false
    → commits_of scheduler (before ++ entry ∷ []) ≡ commits_of scheduler before
commits_other scheduler before entry other =
    commits_more scheduler before entry ∙ ap (λ (b : Bool). commits_of scheduler before + cond b 1 0) other ∙ add-zero (commits_of scheduler before)

-- indexes of a history are those of a longer one
pub indexes_on : (indexes : Indexes) (before after : List Entry) → (later : List Entry) × (after ≡ before ++ later) → AreIndexesOf before indexes → AreIndexesOf after indexes
indexes_on indexes before after on are =
    let within : indexes.seen ≤ length before = are.within in
    let longer : length after ≡ length before + length on.0 = ap length on.1 ∙ length-append before on.0 in
    let front : state (take indexes.seen before) ≡ state (take indexes.seen after) =
    ap state (sym (take-append-le indexes.seen before on.0 within) ∙ ap (take indexes.seen) (sym on.1)) in
    record {
      within = omega (arith, within, longer);
      free = are.free ∙ ap (freed_of 0) front;
      levels = subst (λ (cell : Cell). LevelsTell cell indexes.levels) front are.levels;
    }

-- what a scheduler has seen stays within a longer history
pub synced_longer : (synced : Option ℕ) (count longer : ℕ) → count ≤ longer → SyncedWithin synced count → SyncedWithin synced longer
synced_longer None count longer more within = tt
synced_longer (Some seen) count longer more within = omega (arith, within, more)

length-by_mode : (mode : Mode) (reply : List Judgement) → length (by_mode mode reply) ≡ length reply
length-by_mode Incremental reply = refl
length-by_mode Gang reply = length-all_or_nothing reply

-- a reply answers each claim
pub length-reply_of : (history : List Entry) (seen : ℕ) (txn : Txn) → length (reply_of history seen txn) ≡ length txn.claims
length-reply_of history seen txn =
    length-by_mode txn.mode (judgements history seen (state history) txn.rule txn.claims)
    ∙ length-judgements history seen (state history) txn.rule txn.claims

-- the failed commits of a job after a commit for another job
pub failed_other : (before : List Entry) (scheduler seen : ℕ) (txn : Txn) (reply : List Judgement) (job : ℕ) → txn.job ≢ job
    → failed (before ++ Commit scheduler seen txn reply ∷ []) job ≡ failed before job
failed_other before scheduler seen txn reply job apart =
    failed_push before (Commit scheduler seen txn reply) job ∙ rw (ne_eqb txn.job job apart) refl

-- and of each job after a commit, by what came of it
pub failed_commit : (before : List Entry) (scheduler seen : ℕ) (txn : Txn) (reply : List Judgement) (failing : ℕ → ℕ) (job : ℕ)
    → length reply ≡ length txn.claims → failed before txn.job ≡ failing txn.job → failed before job ≡ failing job
    → failed (before ++ Commit scheduler seen txn reply ∷ []) job ≡ failing_with failing txn.job (outcomes_of txn.claims reply) job
failed_commit before scheduler seen txn reply failing job long first here =
    elim (eqb_tells job txn.job) [
      | inl same ↦
          let ours : (txn.job == job) ≡ true = eq-eqb txn.job job (sym same.1) in
          let placed = placed_outcomes txn.claims reply long in
          rw (same.0, failed_push before (Commit scheduler seen txn reply) job, ours, placed)
          (ap (λ (count : ℕ). if list_any admits reply then 0 else count + 1) (ap (failed before) same.1 ∙ first))
      | inr other ↦ rw other.0 (failed_other before scheduler seen txn reply job (λ same. other.1 (sym same)) ∙ here)
    ]
