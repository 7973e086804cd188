-- All sums over a lawful history and its times fit.
use Rattle.std.proofs.Common.{◌≡◌, ℕ, ◌+◌, ◌≤◌, List, [], length, take, Option, Some, None, refl, sym, subst, arith}
use Rattle.std.specs.Prelude.{option_and_then, slice_get}
use Rattle.std.specs.List.{filter_map}
use Rattle.omega_laws.proofs.EachLeft.{first_left, standing_holds}
use Rattle.omega_laws.proofs.Suited.{OfValue, each_mapped}
use Rattle.omega_laws.proofs.TimeOrder.{timed_are_rounds}
use Rattle.omega_laws.proofs.WholeCommits.{lawful_whole}
use Rattle.omega_laws.specs.InRound.{rows_now}
use Rattle.omega_laws.specs.Simulated.{HasTimes}
use Rattle.omega_laws.specs.TimeReport.{committed_jobs, job_at, job_of_entry, timed_of}
use Rattle.omega_laws.specs.VirtualTime.{Timed}
use Rattle.omega_laws.specs.WholeCommits.{CommitsWhole, IsWholeAttempt}
use Rattle.omega_model.proofs.Lists.{each_of}
use Rattle.omega_model.specs.Feed.{feed, rounds}
use Rattle.omega_model.specs.Lawful.{Lawful}
use Rattle.omega_model.specs.Ranges.{IsInRange}
use Rattle.omega_model.specs.Requests.{jobs_in_order}
use Rattle.omega_model.specs.Stepping.{rows_end}
use Rattle.omega_model.specs.Work.{standing_of}
use Rattle.omega_model.specs.declared.claims.Txn.{Txn}
use Rattle.omega_model.specs.declared.entries.Entry.{Entry}
use Rattle.omega_model.specs.declared.entries.Entry.TheVariants.{Round, MachineAdd, MachineUpdate, MachineRemove, AttrSet, AttrDelete, End, Commit}
use Rattle.omega_model.specs.declared.rows.Row.{Row}
use Rattle.omega_model.specs.declared.rows.TraceTables.{TraceTables}
use Rattle.omega_model.specs.declared.settings.Settings.{Settings}
use Rattle.omega_sim.specs.InBounds.{IsInBounds}
use Rattle.omega_sim.specs.Summing.{SumsFit}
use Rattle.omega_sim.proofs.Asked.{IsAsked, IsIn, requests_asked}
use Rattle.omega_sim.proofs.InTime.{times_timely}
use Rattle.omega_sim.proofs.Pigeons.{once_fits}
use Rattle.omega_sim.proofs.Shorter.{feed_few, jobs_few}
use Rattle.omega_sim.proofs.Standings.{rest_asked}

module _ (settings : Settings) (trace : TraceTables) (range : IsInRange settings) (bounds : IsInBounds trace) where
  -- a commit is for a job of the trace
  attempt_in : (before : List Entry) (scheduler seen : ℕ) (txn : Txn) → IsWholeAttempt settings trace before scheduler seen txn
      → IsIn (jobs_in_order (feed trace)) txn.job
  attempt_in before scheduler seen txn whole =
      let rows : List Row = rows_now settings trace before whole.underway in
      let at : ℕ = rows_end settings trace before whole.underway in
      let most : ℕ = length rows + 10000 in
      let asked : IsAsked (jobs_in_order (feed trace)) most whole.request =
      first_left (IsAsked (jobs_in_order (feed trace)) most) (standing_of settings trace rows at scheduler before) whole.request whole.first.0
      (standing_holds settings (IsAsked (jobs_in_order (feed trace)) most) (λ taken failing. rest_asked (jobs_in_order (feed trace)) most taken failing settings) trace rows at scheduler before
      (requests_asked settings trace bounds.activities rows (take at before) scheduler most (omega arith)))
      whole.first.1 in
      subst (IsIn (jobs_in_order (feed trace))) (sym whole.planned.job) asked.job

  entry_in : (before : List Entry) (entry : Entry) → CommitsWhole settings trace before entry → OfValue (IsIn (jobs_in_order (feed trace))) (job_of_entry entry)
  entry_in before (Round number) whole = tt
  entry_in before (MachineAdd machine cap) whole = tt
  entry_in before (MachineUpdate machine cap) whole = tt
  entry_in before (MachineRemove machine) whole = tt
  entry_in before (AttrSet machine name value) whole = tt
  entry_in before (AttrDelete machine name) whole = tt
  entry_in before (End key machine) whole = tt
  entry_in before (Commit scheduler seen txn reply) whole = attempt_in before scheduler seen txn whole

  place_in : (history : List Entry) (place : ℕ) (found : Option Entry) → Lawful settings trace history → slice_get history place ≡ found
      → OfValue (IsIn (jobs_in_order (feed trace))) (option_and_then job_of_entry found)
  place_in history place None lawful is = tt
  place_in history place (Some entry) lawful is = entry_in (take place history) entry (lawful_whole settings trace history lawful place entry is)

  -- the jobs of a scheduler's commits are jobs of the trace
  jobs_fit : (history : List Entry) (times : List Timed) (scheduler : ℕ) → Lawful settings trace history
      → length (committed_jobs scheduler history times) ≤ length (jobs_in_order (feed trace))
  jobs_fit history times scheduler lawful =
      let any : Timed → Type 0 = λ timed. Unit {0} in
      once_fits (filter_map (job_at history) (timed_of scheduler times)) (jobs_in_order (feed trace))
      (each_mapped any (IsIn (jobs_in_order (feed trace))) (job_at history)
      (λ timed is. place_in history timed.place (slice_get history timed.place) lawful refl)
      (timed_of scheduler times) (each_of any (λ timed. tt) (timed_of scheduler times)))

  pub sums_fit : (history : List Entry) (times : List Timed) → HasTimes settings trace history times → SumsFit history times
  sums_fit history times timed =
      let lawful : Lawful settings trace history = timed_are_rounds settings trace (λ rows opened_at base before entry. Unit {0}) [] [] 0 (rounds trace settings.window) history times timed in
      record {
        each = times_timely settings trace range bounds history times timed;
        jobs = λ scheduler.
            let fit = jobs_fit history times scheduler lawful in
            let few = jobs_few trace in
            let short = feed_few trace bounds.limits in
            omega (arith, fit, few, short);
      }
