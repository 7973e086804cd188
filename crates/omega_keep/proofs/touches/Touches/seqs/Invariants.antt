use Rattle.std.proofs.Common.{◌≡◌, ◌≤◌, ◌++◌, List, drop, length}
use Rattle.omega_model.specs.Touches.{copied_seqs}
use Rattle.omega_model.specs.declared.entries.Entry.{Entry}
use Rattle.omega_keep.specs.Touching.{AreTouches}
use Rattle.omega_keep.proofs.touches.Touches.seqs.Given as goal

abbrev pub invariant-loop-claim : goal.invariant-loop-claim
invariant-loop-claim l = (history : List Entry) → AreTouches l.self.places history → l.seen ≤ length history
    → l.seqs.items ++ copied_seqs history l.seen (drop l.claim-index l.claims) ≡ copied_seqs history l.seen l.claims
