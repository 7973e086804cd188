-- The counts of all schedulers over a history.
use Rattle.std.specs.Prelude.{ℕ, zero, suc, List, [], ◌∷◌, ◌+◌, length, map}
use Rattle.std.specs.List.{count_by, flat_map, range_with_len}
use Rattle.omega_model.specs.ReportCounts.{Counts, answers_in, claims_nothing, counts_of, evicted_by, is_refused, is_withdrawn, leaves_some, places_some}
use Rattle.omega_model.specs.Touches.{is_placed}
use Rattle.omega_model.specs.declared.entries.Entry.{Entry}

-- the counts of each scheduler over a history, from scheduler 0
abbrev pub tallies : ℕ → List Entry → List Counts
tallies schedulers history = map (λ scheduler. counts_of scheduler history) (range_with_len 0 schedulers)

-- the counts over some commits
abbrev pub counts_over : List Entry → Counts
counts_over commits = record {
  commits = length commits;
  empty = count_by claims_nothing commits;
  placing = count_by places_some commits;
  conflicted = count_by leaves_some commits;
  placed = count_by (λ judgement. is_placed judgement.verdict) (flat_map answers_in commits);
  refused = count_by (λ judgement. is_refused judgement.verdict) (flat_map answers_in commits);
  withdrawn = count_by (λ judgement. is_withdrawn judgement.verdict) (flat_map answers_in commits);
  evicted = length (evicted_by (flat_map answers_in commits));
}

-- the sum of two counts
abbrev pub sum_of_counts : Counts → Counts → Counts
sum_of_counts a b = record {
  commits = a.commits + b.commits;
  empty = a.empty + b.empty;
  placing = a.placing + b.placing;
  conflicted = a.conflicted + b.conflicted;
  placed = a.placed + b.placed;
  refused = a.refused + b.refused;
  withdrawn = a.withdrawn + b.withdrawn;
  evicted = a.evicted + b.evicted;
}

-- the counts with more for the scheduler at a place, if there is one
abbrev pub added_at : ℕ → Counts → List Counts → List Counts
added_at place more [] = []
added_at zero more (counts ∷ rest) = sum_of_counts counts more ∷ rest
added_at (suc place) more (counts ∷ rest) = counts ∷ added_at place more rest
