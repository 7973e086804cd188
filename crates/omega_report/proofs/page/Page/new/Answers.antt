use Rattle.std.proofs.Common.{List, sym, subst, ap, ◌∙◌, ℕ}
use Rattle.omega_report.specs.Pages.{IsPage}
use Rattle.omega_report.specs.Readings.{lines_read}
use Rattle.omega_report.proofs.Empty.{lines_read-nil, empty_page}
use Rattle.omega_report.proofs.page.Page.new.Goals as goal

pub invariant_of-result : goal.invariant_of-result
invariant_of-result c = subst (λ (bytes : List ℕ). IsPage c.args.format bytes) (sym c.new.ensures.items) (empty_page c.args.format)

pub returns-clause-lines : goal.returns-clause-lines
returns-clause-lines c = ap lines_read c.new.ensures.items ∙ lines_read-nil
