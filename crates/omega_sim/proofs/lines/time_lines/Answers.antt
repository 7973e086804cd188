use Rattle.std.proofs.Common.{◌∙◌, ◌++◌, List, ℕ, ap}
use Rattle.std.specs.List.{flat_map}
use Rattle.omega_sim.specs.TimeLines.{text_of_totals}
use Rattle.omega_sim.specs.declared.totals.TimeTotals.{TimeTotals}
use Rattle.omega_sim.proofs.OneByOne.{text_said}
use Rattle.omega_sim.proofs.lines.time_lines.Goals as goal

pub returns : goal.returns
returns c trace arrive =
    c.of.ensures ∙ ap (λ v. v.items) c.into_bytes.ensures.value ∙ c.in_ok-push_lines.ensures
    ∙ ap (λ (bytes : List ℕ). bytes ++ flat_map text_of_totals c.as_slice.result.now) c.new-text.ensures.bytes
    ∙ ap (λ (some : List TimeTotals). flat_map text_of_totals some) c.as_slice.ensures
    ∙ text_said c.args.settings.now trace c.args.history.now c.args.times.now _ (c.in_ok-totals.ensures trace arrive)
