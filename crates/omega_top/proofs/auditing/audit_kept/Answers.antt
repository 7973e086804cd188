use Rattle.std.proofs.Common.{◌∙◌, List, ap, subst, sym}
use Rattle.omega_keep.specs.Audited.{IsAudited}
use Rattle.omega_model.specs.ReportForms.{in_format}
use Rattle.omega_model.specs.declared.entries.Entry.{Entry}
use Rattle.omega_report.specs.AuditLines.{audit_lines}
use Rattle.omega_top.proofs.Runs.{sound_of}
use Rattle.omega_top.proofs.auditing.audit_kept.Goals as goal

pub returns-in-Ok-clause-audit : goal.returns-in-Ok-clause-audit
returns-in-Ok-clause-audit g c = record {
  lines = c.in_ok-lines.lines;
  told = c.in_ok-lines.ensures.lines;
  audited = subst (λ (history : List Entry). IsAudited c.in_ok-lines.lines history) (sym c.into_run-history.ensures.history) c.in_ok-cell.ensures.audited;
  bytes = c.in-Ok.ensures ∙ ap (λ (history : List Entry). in_format c.args.format (audit_lines history)) c.as_slice.ensures;
}

pub returns-in-Ok-clause-sound : goal.returns-in-Ok-clause-sound
returns-in-Ok-clause-sound g c =
    let run = c.into_run-history in rw run.ensures.history (sound_of _ run.ensures.legal)
