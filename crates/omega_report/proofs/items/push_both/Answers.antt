use Rattle.std.proofs.Common.{ℕ, ◌++◌, ◌∷◌, [], ap, ◌∙◌, append_assoc}
use Rattle.omega_model.specs.Report.{Line}
use Rattle.omega_report.specs.Pages.{open_form}
use Rattle.omega_sim.specs.TimeLines.{busy_line, wait_line}
use Rattle.omega_report.proofs.items.push_both.Goals as goal

pub returns : goal.returns
returns c lines were =
    let totals = c.args.totals.now in
    let busy : ℕ → Line = λ scheduler. busy_line scheduler totals.busy totals.span in
    let wait : ℕ → Line = λ scheduler. wait_line scheduler totals.jobs totals.wait in
    c.in_ok-push_behind-2.ensures (lines ++ busy c.from.result ∷ []) (c.in_ok-push_behind.ensures lines were)
    ∙ ap (open_form c.args.format) (append_assoc lines (busy c.from.result ∷ []) (wait c.from.result ∷ []))
    ∙ ap (λ (scheduler : ℕ). open_form c.args.format (lines ++ busy scheduler ∷ wait scheduler ∷ [])) c.from.ensures
