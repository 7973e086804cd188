use Rattle.std.proofs.Common.{◌≡◌, ℕ, List, [], ◌∷◌, ◌++◌, length, map, sym, ap, ap₂, ◌∙◌, arith}
use Rattle.std.specs.List.{range_with_len}
use Rattle.std.proofs.lemmas.List.FromFn.{map-range_with_len_more}
use Rattle.omega_laws.specs.TimeReport.{committed_jobs}
use Rattle.omega_model.specs.Policy.{schedulers}
use Rattle.omega_sim.specs.Arriving.{span_from}
use Rattle.omega_sim.specs.Summing.{waited_in_all}
use Rattle.omega_sim.specs.declared.totals.TimeTotals.{TimeTotals}
use Rattle.omega_sim.proofs.Early.{are_early}
use Rattle.omega_sim.proofs.OneByOne.{all_totals, totals_by}
use Rattle.omega_sim.proofs.totals.time_totals.Goals as goal

pub waited-requires-clause-early : goal.waited-requires-clause-early
waited-requires-clause-early c =
    are_early c.args.history.now c.args.times.now c.in_ok-synced.synced c.requires.sums.each c.in_ok-synced.ensures

abbrev totals_with : ℕ → ℕ → ℕ → ℕ → ℕ → TimeTotals
totals_with scheduler decided whole jobs waited = record { scheduler = scheduler; busy = decided; span = whole; jobs = jobs; wait = waited }

pub loop-scheduler-preserved : goal.loop-scheduler-preserved
loop-scheduler-preserved c =
    let history = c.args.history.now in
    let times = c.args.times.now in
    let came = c.args.arrivals.now.first_times in
    let synced = c.in_ok-synced.synced in
    let scheduler : ℕ = c.loop-scheduler.scheduler in
    let whole : ℕ = c.span-span.result in
    let jobs : c.in_ok-jobs.jobs ≡ committed_jobs scheduler history times = c.in_ok-jobs.ensures in
    let one : totals_with scheduler c.busy.result whole c.len.result c.waited.result ≡ totals_by came synced whole history times scheduler =
    (λ i. totals_with scheduler (c.busy.ensures i) whole ((c.len.ensures ∙ ap length jobs) i)
    ((c.waited.ensures ∙ ap (waited_in_all came synced) (c.as_slice.ensures ∙ jobs)) i)) in
    c.in_ok-push.ensures.ok
    ∙ ap₂ (λ (front : List TimeTotals) (last : TimeTotals). front ++ last ∷ []) c.loop-scheduler.invariant one
    ∙ sym (map-range_with_len_more (totals_by came synced whole history times) 0 scheduler scheduler (omega arith))

pub returns : goal.returns
returns c trace arrive =
    let history = c.args.history.now in
    let times = c.args.times.now in
    let settings = c.args.settings.now in
    let arrivals = c.args.arrivals.now in
    let synced = c.in_ok-synced.synced in
    let window = c.requires.range.window.0 in
    let ended = c.schedulers-scheduler-end.ensures in
    let count : c.loop-scheduler.scheduler ≡ schedulers settings = omega arith in
    c.loop-scheduler.invariant
    ∙ ap (λ (n : ℕ). map (totals_by arrivals.first_times synced c.span-span.result history times) (range_with_len 0 n)) count
    ∙ all_totals settings trace arrivals synced history times (omega arith) arrive c.in_ok-synced.ensures c.span-span.result
    (c.span-span.ensures ∙ ap (span_from arrivals.row_times) c.last_time.ensures)
    (range_with_len 0 (schedulers settings))
