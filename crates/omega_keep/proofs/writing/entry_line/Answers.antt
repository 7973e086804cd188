use Rattle.std.proofs.Common.{◌∙◌}
use Rattle.omega_keep.proofs.Joined.{entry_spaced}
use Rattle.omega_keep.proofs.writing.entry_line.Goals as goal

pub returns-clause-line : goal.returns-clause-line
returns-clause-line c = c.of.ensures ∙ c.in_ok-push_entry.ensures.text ∙ rw c.new-out.ensures.items (entry_spaced c.args.entry.now)
