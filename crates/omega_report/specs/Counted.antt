-- Counts as the code holds them.
use Rattle.omega_model.specs.ReportCounts.{Counts}
use Rattle.omega_report.specs.declared.counts.Counts.{Counts as HeldCounts}

-- the counts that the code holds
abbrev pub counts_in : HeldCounts → Counts
counts_in held = record {
  commits = held.commits;
  empty = held.empty;
  placing = held.placing;
  conflicted = held.conflicted;
  placed = held.placed;
  refused = held.refused;
  withdrawn = held.withdrawn;
  evicted = held.evicted;
}
