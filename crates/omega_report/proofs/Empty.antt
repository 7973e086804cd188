-- A page without a line.
use Rattle.std.proofs.Common.{◌≡◌, [], refl}
use Rattle.omega_model.specs.declared.settings.Format.{Format}
use Rattle.omega_model.specs.declared.settings.Format.TheVariants.{Text, Json}
use Rattle.omega_report.specs.Pages.{IsPage}
use Rattle.omega_report.specs.Readings.{lines_read}

-- no line stands in no bytes
pub lines_read-nil : lines_read [] ≡ []
unfolding lines_read
lines_read-nil = refl

-- no bytes are a page in each format
pub empty_page : (format : Format) → IsPage format []
unfolding lines_read
empty_page Text = record { form = refl; ended = refl; plain = refl; short = refl }
empty_page Json = record { form = refl; ended = refl; plain = refl; short = refl }
