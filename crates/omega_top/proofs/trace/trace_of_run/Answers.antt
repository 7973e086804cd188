use Rattle.std.proofs.Common.{◌≡◌, ℕ, List, None, subst, sym}
use Rattle.std.specs.Prelude.{IfOk, OnOk}
use Rattle.omega_model.specs.Refusals.{first_refusal}
use Rattle.omega_model.specs.Trace.{trace_of}
use Rattle.omega_model.specs.declared.rows.Table.{Table}
use Rattle.omega_top.proofs.Unread.{stopped_before}
use Rattle.omega_top.proofs.Reading.{handed_are_read, made_are_read}
use Rattle.omega_top.proofs.trace.trace_of_run.Goals as goal

pub returns-then-makes_tables-clause-trace : goal.returns-then-makes_tables-clause-trace
returns-then-makes_tables-clause-trace g c bytes reads =
    subst (λ (made : Table → List ℕ). IfOk c.generated_trace.result (λ trace. trace ≡ trace_of made))
    (sym (made_are_read c.args.settings.now _ bytes reads (sym c.if-makes_tables.ensures))) c.generated_trace.ensures.trace

pub returns-then-makes_tables-clause-stopped : goal.returns-then-makes_tables-clause-stopped
returns-then-makes_tables-clause-stopped g c = stopped_before _ _ c.generated_trace.result c.generated_trace.ensures.refusal

pub returns-then-makes_tables-clause-none : goal.returns-then-makes_tables-clause-none
returns-then-makes_tables-clause-none g c bytes reads =
    subst (λ (made : Table → List ℕ). OnOk c.generated_trace.result (first_refusal made ≡ None))
    (sym (made_are_read c.args.settings.now _ bytes reads (sym c.if-makes_tables.ensures))) c.generated_trace.ensures.none

pub returns-else-makes_tables-clause-refusal : goal.returns-else-makes_tables-clause-refusal
returns-else-makes_tables-clause-refusal g c bytes reads =
    c.read_tables.ensures.refusal bytes (handed_are_read c.args.settings.now _ bytes reads (sym c.if-makes_tables.ensures))
