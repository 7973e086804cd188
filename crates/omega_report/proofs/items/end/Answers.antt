use Rattle.std.proofs.Common.{◌≡◌, ◌++◌, ◌==◌, length, sym, subst}
use Rattle.omega_model.specs.declared.settings.Format.{Format}
use Rattle.omega_report.specs.JsonOfText.{in_wide_format}
use Rattle.omega_report.specs.Pages.{end_of_array, open_form}
use Rattle.omega_report.proofs.Closing.{bytes_closed}
use Rattle.omega_report.proofs.items.end.Goals as goal

pub returns-in_ok-extend_from_slice-in-Json : goal.returns-in_ok-extend_from_slice-in-Json
returns-in_ok-extend_from_slice-in-Json c lines same =
    let bytes = c.args.bytes.now.items in
    rw (c.in_ok-extend_from_slice-in-Json.ensures.items, c.end_of_array-end.ensures, c.is_empty.ensures, c.as_slice.ensures.value)
    (subst (λ (format : Format). bytes ≡ open_form format lines → bytes ++ end_of_array (length bytes == 0) ≡ in_wide_format format lines)
    (sym c.in-Json.is) (bytes_closed bytes lines) same)
