use Rattle.std.proofs.Common.{◌≡◌, ◌++◌, ℕ, List, drop}
use Rattle.omega_model.specs.Touches.{copied_seqs}
use Rattle.omega_model.specs.declared.entries.Entry.{Entry}
use Rattle.omega_free_laws.specs.StillWanted.{wanted_claims}
use Rattle.omega_free.proofs.attempts.kept_seqs.Given as goal

abbrev pub invariant-loop-i : goal.invariant-loop-i
invariant-loop-i l =
    (history : List Entry) (seen : ℕ) → l.seqs ≡ copied_seqs history seen l.claims
    → l.kept.items ++ copied_seqs history seen (wanted_claims l.wanted.tasks (drop l.i l.claims)) ≡ copied_seqs history seen (wanted_claims l.wanted.tasks l.claims)
