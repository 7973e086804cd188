use Rattle.std.proofs.Common.{map, ap, refl, ◌∙◌}
use Rattle.omega_report.specs.Counted.{counts_in}
use Rattle.omega_report.proofs.Tallying.{none_counted}
use Rattle.omega_report.proofs.tally.Tally.new.Goals as goal

pub returns : goal.returns
returns c = ap (map counts_in) (c.in_ok-counts.ensures.items_if_clones_equal (λ y same. same)) ∙ none_counted _ refl 0 c.args.schedulers
