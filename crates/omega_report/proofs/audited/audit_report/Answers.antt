use Rattle.std.proofs.Common.{◌≡◌, ◌∙◌, ◌∷◌, ◌++◌, [], ℕ, List, ap, ap₂, length}
use Rattle.omega_cell.specs.declared.effects.Usage.{Usage}
use Rattle.omega_model.specs.Report.{Line}
use Rattle.omega_model.specs.ReportForms.{in_format}
use Rattle.omega_model.specs.ReportLines.{first_line}
use Rattle.omega_model.proofs.Answering.{if_ok_weaker}
use Rattle.omega_report.specs.AuditLines.{audit_lines, legal_line}
use Rattle.omega_report.specs.Lines.{usage_line}
use Rattle.omega_report.proofs.audited.audit_report.Goals as goal

pub returns : goal.returns
returns c =
    let history = c.args.history.now in
    let page = c.usage.new.self in
    let last = c.args.last in
    let format = c.in_ok-usage.ensures.format ∙ c.in_ok-legal.ensures.format ∙ c.in_ok-first.ensures.format ∙ c.new-page.ensures.format in
    let first = c.in_ok-first.ensures.lines ∙ ap (λ (before : List Line). before ++ first_line ∷ []) c.new-page.ensures.lines in
    let legal = c.in_ok-legal.ensures.lines ∙ ap (λ (before : List Line). before ++ legal_line (length history) ∷ []) first in
    let usage = c.in_ok-usage.ensures.lines ∙ ap (λ (before : List Line). before ++ usage_line last.used last.capacity ∷ []) legal in
    let lines : page.lines ≡ audit_lines history =
    usage ∙ ap (λ (usage : Usage). first_line ∷ legal_line (length history) ∷ usage_line usage.used usage.capacity ∷ []) c.requires in
    if_ok_weaker (λ (bytes : List ℕ). bytes ≡ in_format page.format page.lines)
    (λ (bytes : List ℕ). bytes ≡ in_format c.args.format (audit_lines history))
    c.finish.result (λ bytes is. is ∙ ap₂ in_format format lines) c.finish.ensures
