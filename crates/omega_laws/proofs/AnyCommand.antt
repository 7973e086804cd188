-- Settings that differ in the command alone have the same lawful histories.
use Rattle.std.proofs.Common.{◌≡◌, ℕ, List, [], ◌∷◌, ◌++◌, take, drop, Option, Some, None, refl, sym, ap, ap₂, subst, ◌∙◌}
use Rattle.std.specs.Prelude.{◌==◌, map, option_map, if◌then◌else◌}
use Rattle.std.specs.List.{filter, filter_map, fold}
use Rattle.std.proofs.Math.Path.{fun_ext}
use Rattle.omega_model.specs.Cell.{Cell}
use Rattle.omega_model.specs.ExtraTasks.{wishes_after, activities_of, wanted_of}
use Rattle.omega_model.specs.Feed.{feed, rounds}
use Rattle.omega_model.specs.Lawful.{IsCommitOfRound, Lawful, RoundOf, Rounds}
use Rattle.omega_model.specs.ReportForms.{printed_report}
use Rattle.omega_model.specs.Requests.{failed, is_waiting, jobs_in_order, request_of, requests, works_on}
use Rattle.omega_model.specs.State.{state}
use Rattle.omega_model.specs.Wanted.{WantedTask, wanted}
use Rattle.omega_model.specs.Wishes.{wish_of}
use Rattle.omega_model.specs.Work.{Agrees, AgreesWithFirst, HasLeft, IsDue, Standing, after_entry, after_outcomes, fresh, outcomes_of, standing_of}
use Rattle.omega_model.specs.declared.claims.Txn.{Txn}
use Rattle.omega_model.specs.declared.entries.Entry.{Entry}
use Rattle.omega_model.specs.declared.entries.Entry.TheVariants.{Round as RoundEntry, MachineAdd, MachineUpdate, MachineRemove, AttrSet, AttrDelete, End, Commit}
use Rattle.omega_model.specs.declared.claims.Outcome.{Outcome}
use Rattle.omega_model.specs.declared.rows.Round.{Round}
use Rattle.omega_model.specs.declared.rows.Row.{Row}
use Rattle.omega_model.specs.declared.rows.TraceTables.{TraceTables}
use Rattle.omega_model.specs.declared.settings.Command.{Command}
use Rattle.omega_model.specs.declared.settings.Command.TheVariants.{Resume}
use Rattle.omega_model.specs.declared.settings.Settings.{Settings}
use Rattle.omega_model.specs.declared.wishes.Request.{Request}
use Rattle.omega_model.specs.declared.wishes.Wish.{Wish}
use Rattle.omega_laws.specs.AsReplay.{as_replay, with_command}

module _ (settings : Settings) (command : Command) where
  abbrev pub other : Settings
  other = with_command command settings

  -- ---- what schedulers are asked to place, and what they have left of it

  wishes_same : (trace : TraceTables) (cell : Cell) (asked : List WantedTask) (job : ℕ) (activities : Option ℕ) (models : List WantedTask)
      → wishes_after other trace cell asked job activities models ≡ wishes_after settings trace cell asked job activities models
  wishes_same trace cell asked job None models = refl
  wishes_same trace cell asked job (Some activities) [] = refl
  wishes_same trace cell asked job (Some activities) (model ∷ models) = refl

  requests_same : (trace : TraceTables) (rows : List Row) (history : List Entry) (scheduler : ℕ)
      → requests other trace rows history scheduler ≡ requests settings trace rows history scheduler
  requests_same trace rows history scheduler =
      let asked : List WantedTask = wanted rows in
      ap (λ (asks : ℕ → Option Request). filter_map asks (filter (works_on settings trace history scheduler) (jobs_in_order (feed trace))))
      (fun_ext λ job.
      ap (λ (extras : List Wish). request_of job (map (wish_of trace) (filter (is_waiting (state history) job) asked) ++ extras))
      (wishes_same trace (state history) asked job (activities_of trace job) (wanted_of job asked)))

  outcomes_same : (standing : Standing) (left : List Request) (outcomes : List Outcome)
      → after_outcomes other standing left outcomes ≡ after_outcomes settings standing left outcomes
  outcomes_same standing [] outcomes = refl
  outcomes_same standing (request ∷ left) outcomes = refl

  entry_same : (scheduler : ℕ) (standing : Option Standing) (entry : Entry)
      → after_entry other scheduler standing entry ≡ after_entry settings scheduler standing entry
  entry_same scheduler None entry = refl
  entry_same scheduler (Some standing) (Commit by seen txn reply) =
      ap (λ (after : Option Standing). if by == scheduler then after else Some standing)
      (outcomes_same standing standing.requests (outcomes_of txn.claims reply))
  entry_same scheduler (Some standing) (RoundEntry number) = refl
  entry_same scheduler (Some standing) (MachineAdd machine amount) = refl
  entry_same scheduler (Some standing) (MachineUpdate machine amount) = refl
  entry_same scheduler (Some standing) (MachineRemove machine) = refl
  entry_same scheduler (Some standing) (AttrSet machine name value) = refl
  entry_same scheduler (Some standing) (AttrDelete machine name) = refl
  entry_same scheduler (Some standing) (End key machine) = refl

  standing_same : (trace : TraceTables) (rows : List Row) (opened_at scheduler : ℕ) (history : List Entry)
      → standing_of other trace rows opened_at scheduler history ≡ standing_of settings trace rows opened_at scheduler history
  standing_same trace rows opened_at scheduler history =
      ap₂ (λ (step : Option Standing → Entry → Option Standing) (asked : List Request).
      fold step (Some (fresh (failed (take opened_at history)) asked)) (drop opened_at history))
      (fun_ext λ standing. fun_ext λ entry. entry_same scheduler standing entry)
      (requests_same trace rows (take opened_at history) scheduler)

  -- ---- what commits may stand

  agrees_too : (scheduler : ℕ) (before : List Entry) (seen : ℕ) (txn : Txn) (request : Request)
      → Agrees settings scheduler before seen txn request → Agrees other scheduler before seen txn request
  agrees_too scheduler before seen txn request agrees =
      record { job = agrees.job; rule = agrees.rule; mode = agrees.mode; claims = agrees.claims }

  first_too : (scheduler : ℕ) (before : List Entry) (seen : ℕ) (txn : Txn) (standing : Option Standing)
      → AgreesWithFirst settings scheduler before seen txn standing → AgreesWithFirst other scheduler before seen txn standing
  first_too scheduler before seen txn None agrees = absurd agrees
  first_too scheduler before seen txn (Some standing) agrees =
      (agrees.0, (agrees.1.0, (agrees.1.1.0, agrees_too scheduler before seen txn agrees.0 agrees.1.1.1)))

  due_too : (trace : TraceTables) (rows : List Row) (opened_at scheduler : ℕ) (before : List Entry) (entry : Entry)
      → IsDue settings trace rows opened_at scheduler before entry → IsDue other trace rows opened_at scheduler before entry
  due_too trace rows opened_at scheduler before (Commit by seen txn reply) due = λ own.
      subst (AgreesWithFirst other scheduler before seen txn) (sym (standing_same trace rows opened_at scheduler before))
      (first_too scheduler before seen txn (standing_of settings trace rows opened_at scheduler before) (due own))
  due_too trace rows opened_at scheduler before (RoundEntry number) due = due
  due_too trace rows opened_at scheduler before (MachineAdd machine amount) due = due
  due_too trace rows opened_at scheduler before (MachineUpdate machine amount) due = due
  due_too trace rows opened_at scheduler before (MachineRemove machine) due = due
  due_too trace rows opened_at scheduler before (AttrSet machine name value) due = due
  due_too trace rows opened_at scheduler before (AttrDelete machine name) due = due
  due_too trace rows opened_at scheduler before (End key machine) due = due

  left_too : (trace : TraceTables) (rows : List Row) (opened_at scheduler : ℕ) (history : List Entry) (left : List Request)
      → HasLeft settings trace rows opened_at scheduler history left → HasLeft other trace rows opened_at scheduler history left
  left_too trace rows opened_at scheduler history left has = record {
    remains = ap (option_map (λ (standing : Standing). standing.requests)) (standing_same trace rows opened_at scheduler history) ∙ has.remains;
    due = λ place entry is from. due_too trace rows opened_at scheduler (take place history) entry (has.due place entry is from);
  }

  commit_too : (opened_at : ℕ) (before : List Entry) (entry : Entry)
      → IsCommitOfRound settings opened_at before entry → IsCommitOfRound other opened_at before entry
  commit_too opened_at before (Commit scheduler seen txn reply) may =
      record { known = may.known; there = may.there; rows = may.rows; own = may.own; answered = may.answered }
  commit_too opened_at before (RoundEntry number) may = absurd may
  commit_too opened_at before (MachineAdd machine amount) may = absurd may
  commit_too opened_at before (MachineUpdate machine amount) may = absurd may
  commit_too opened_at before (MachineRemove machine) may = absurd may
  commit_too opened_at before (AttrSet machine name value) may = absurd may
  commit_too opened_at before (AttrDelete machine name) may = absurd may
  commit_too opened_at before (End key machine) may = absurd may

  -- ---- rounds

  round_too : (trace : TraceTables) (rows : List Row) (start : List Entry) (round : Round) (history : List Entry)
      → RoundOf settings trace rows start round history → RoundOf other trace rows start round history
  round_too trace rows start round history whole = record {
    begun = record {
      begins = whole.begun.begins;
      commits = λ place entry is from. commit_too _ (take place history) entry (whole.begun.commits place entry is from);
      work = λ scheduler known.
          let has = whole.begun.work scheduler known in
          (has.0, left_too trace (rows ++ round.rows) _ scheduler history has.0 has.1);
    };
    finished = λ scheduler known. left_too trace (rows ++ round.rows) _ scheduler history [] (whole.finished scheduler known);
  }

  pub rounds_too : (trace : TraceTables) (rows : List Row) (start : List Entry) (some : List Round) (history : List Entry)
      → Rounds settings trace rows start some history → Rounds other trace rows start some history
  rounds_too trace rows start [] history whole = whole
  rounds_too trace rows start (round ∷ some) history whole = (
    whole.0,
    (
      round_too trace rows start round whole.0 whole.1.0,
      rounds_too trace (rows ++ round.rows) whole.0 some history whole.1.1,
    ),
  )

  pub lawful_too : (trace : TraceTables) (history : List Entry) → Lawful settings trace history → Lawful other trace history
  lawful_too trace history lawful = rounds_too trace [] [] (rounds trace settings.window) history lawful

-- so is what is lawful for the others
pub lawful_back : (settings : Settings) (command : Command) (trace : TraceTables) (history : List Entry)
    → Lawful (with_command command settings) trace history → Lawful settings trace history
lawful_back settings command = lawful_too (with_command command settings) settings.command

-- `resume` prints what `replay` does
pub resume_prints : (settings : Settings) (trace : TraceTables) (history : List Entry) → settings.command ≡ Resume
    → printed_report settings trace history ≡ printed_report (as_replay settings) trace history
resume_prints settings trace history is =
    ap (λ (command : Command). printed_report (with_command command settings) trace history) is
