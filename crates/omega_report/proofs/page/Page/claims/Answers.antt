use Rattle.std.proofs.Common.{◌++◌, ap, sym, ◌∙◌, append-nil}
use Rattle.std.specs.Iterator.Adapters.{zip_first, zip_second}
use Rattle.std.specs.Slice.Iter.{iter_rest}
use Rattle.std.proofs.lemmas.Slice.Zip.{either_empty_from_Zip}
use Rattle.omega_model.specs.Report.{claim_lines}
use Rattle.omega_report.proofs.Joined.{pairs_out}
use Rattle.omega_report.proofs.page.Page.claims.Goals as goal

pub returns-clause-lines : goal.returns-clause-lines
returns-clause-lines c =
    let left = c.loop-claim.claim-iterator in
    let lines = c.loop-claim.self.lines in
    let none = either_empty_from_Zip left c.next.new.self c.next.result c.in-None.is c.next.ensures.steps in
    sym (ap (λ ls. lines ++ ls) (pairs_out claim_lines (iter_rest (zip_first left)) (iter_rest (zip_second left)) none) ∙ append-nil lines)
    ∙ c.loop-claim.invariant.lines
