use Rattle.std.proofs.Common.{◌≡◌, ◌∙◌, ◌<◌, arith, refl, None}
use Rattle.std.proofs.lemmas.Result.{err_from_is_err_and}
use Rattle.omega_tables.specs.Reading.{CameTo}
use Rattle.omega_tables.proofs.InOrder.{none_more, trace_more, done_more, left_more, later_more, stops_first, stops_last, came_to, stopped_in, stopped_behind, place_below}
use Rattle.omega_model.proofs.FirstRefusal.{rows_last}
use Rattle.omega_model.specs.Trace.{trace_of}
use Rattle.omega_tables.specs.Taking.{Gathers}
use Rattle.omega_tables.proofs.reading.read_tables.Goals as goal

pub returns-clause-trace : goal.returns-clause-trace
returns-clause-trace g c =
    let all : c.loop-table.table-index ≡ 6 = omega arith in
    λ bytes told. c.in_ok-check_gathered.ensures.rows (trace_of bytes) (rw all at (c.loop-table.invariant.trace bytes told))

pub returns-clause-none : goal.returns-clause-none
returns-clause-none g c =
    let all : c.loop-table.table-index ≡ 6 = omega arith in
    λ bytes told.
    rows_last bytes None (rw all at (c.loop-table.invariant.none bytes told))
    (c.in_ok-check_gathered.ensures.none (trace_of bytes) (rw all at (c.loop-table.invariant.trace bytes told)))

pub loop-table-preserved : goal.loop-table-preserved
loop-table-preserved g c =
    let inv = c.loop-table.invariant in
    let read = c.in_ok-read_table.ensures in
    let i = c.loop-table.table-index in
    let first = g.T.Tables.rest c.args.tables.now in
    let now = g.T.Tables.rest c.loop-table.tables in
    let next = g.T.Tables.rest c.read_table.new.tables in
    let below : i < 6 = omega arith in
    record {
      none = λ bytes told. none_more first now i bytes below inv.left told (inv.none bytes told) read.none;
      trace = λ bytes told. trace_more first now i bytes c.loop-table.gathered c.read_table.new.into below inv.left told (inv.trace bytes told) read.rows;
      done = done_more first now next i below inv.done inv.left read.to_end read.other_rests;
      left = left_more first now next i below inv.left read.other_rests;
      same = left_more (g.T.Tables.faults c.args.tables.now) (g.T.Tables.faults c.loop-table.tables) (g.T.Tables.faults c.read_table.new.tables) i below inv.same read.other_counts;
      later = later_more (g.T.Tables.faults c.args.tables.now) (g.T.Tables.faults c.loop-table.tables) (g.T.Tables.faults c.read_table.new.tables) i below inv.later read.later read.other_counts;
      folder = read.folder ∙ inv.folder;
    }

pub returns-in_err-read_table-clause-refusal : goal.returns-in_err-read_table-clause-refusal
returns-in_err-read_table-clause-refusal g c =
    let inv = c.loop-table.invariant in
    let i = c.loop-table.table-index in
    let below : i < 6 = omega arith in
    let kept = err_from_is_err_and c.from_residual.result c.from_residual.ensures.1 in
    λ bytes told. rw (kept.1, kept.2) (stops_first (g.T.Tables.rest c.args.tables.now) (g.T.Tables.rest c.loop-table.tables) i bytes c.in_err-read_table.field-0.0 below inv.left told (inv.none bytes told) c.in_err-read_table.ensures.refusal)

pub returns-in_err-check_gathered-clause-refusal : goal.returns-in_err-check_gathered-clause-refusal
returns-in_err-check_gathered-clause-refusal g c =
    let all : c.loop-table.table-index ≡ 6 = omega arith in
    let kept = err_from_is_err_and c.from_residual-in_err-check_gathered.result c.from_residual-in_err-check_gathered.ensures.1 in
    λ bytes told.
    let none = rw all at (c.loop-table.invariant.none bytes told) in
    let trace : Gathers c.loop-table.gathered (trace_of bytes) = rw all at (c.loop-table.invariant.trace bytes told) in
    rw (kept.1, kept.2) (stops_last bytes (trace_of bytes) c.in_err-check_gathered.field-0.0 none refl (c.in_err-check_gathered.ensures.refusal (trace_of bytes) trace))

pub returns-in_err-read_table-clause-stopped : goal.returns-in_err-read_table-clause-stopped
returns-in_err-read_table-clause-stopped g c =
    let inv = c.loop-table.invariant in
    let read = c.in_err-read_table.ensures in
    let i = c.loop-table.table-index in
    let first = g.T.Tables.rest c.args.tables.now in
    let now = g.T.Tables.rest c.loop-table.tables in
    let next = g.T.Tables.rest c.read_table.new.tables in
    let count = g.T.Tables.faults c.args.tables.now in
    let held = g.T.Tables.faults c.loop-table.tables in
    let then = g.T.Tables.faults c.read_table.new.tables in
    let below : i < 6 = omega arith in
    let kept = err_from_is_err_and c.from_residual.result c.from_residual.ensures.1 in
    let came = came_to first now next count held then i below inv.done inv.left inv.same read.other_rests read.other_counts in
    rw (kept.1, kept.2) (stopped_in first next count then i c.in_err-read_table.field-0.0 below came read.names)

pub returns-in_err-check_gathered-clause-stopped : goal.returns-in_err-check_gathered-clause-stopped
returns-in_err-check_gathered-clause-stopped g c =
    let inv = c.loop-table.invariant in
    let all : c.loop-table.table-index ≡ 6 = omega arith in
    let first = g.T.Tables.rest c.args.tables.now in
    let next = g.T.Tables.rest c.loop-table.tables in
    let count = g.T.Tables.faults c.args.tables.now in
    let then = g.T.Tables.faults c.loop-table.tables in
    let kept = err_from_is_err_and c.from_residual-in_err-check_gathered.result c.from_residual-in_err-check_gathered.ensures.1 in
    let came : CameTo 6 first next count then = record {
      before = rw all at inv.done;
      rests = λ t above. absurd (omega (arith, above, place_below t));
      counts = λ t above. absurd (omega (arith, above, place_below t));
    } in
    rw (kept.1, kept.2) (stopped_behind first next count then c.in_err-check_gathered.field-0.0 came c.in_err-check_gathered.ensures.of_all)
