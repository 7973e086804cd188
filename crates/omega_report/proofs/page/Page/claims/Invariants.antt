use Rattle.std.proofs.Common.{◌≡◌, ◌++◌}
use Rattle.std.specs.List.{flat_map, zip}
use Rattle.std.specs.Iterator.Adapters.{zip_first, zip_second}
use Rattle.std.specs.Slice.Iter.{iter_rest}
use Rattle.omega_model.specs.Report.{claim_lines}
use Rattle.omega_report.proofs.page.Page.claims.Given as goal

abbrev pub invariant-loop-claim : goal.invariant-loop-claim
invariant-loop-claim l = record {
  format : l.self.format ≡ l.fn.self.format;
  lines : l.self.lines ++ flat_map claim_lines (zip (iter_rest (zip_first l.claim-iterator)) (iter_rest (zip_second l.claim-iterator)))
      ≡ l.fn.self.lines ++ flat_map claim_lines (zip l.claims l.reply);
}
