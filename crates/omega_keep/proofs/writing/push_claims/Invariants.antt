use Rattle.std.proofs.Common.{◌≡◌, ◌++◌, drop}
use Rattle.std.specs.List.{flat_map, zip, AllByRecursion}
use Rattle.omega_keep.specs.KeptLines.{claim_words, IsClaim, IsJudgement}
use Rattle.omega_keep.specs.Writing.{more_text}
use Rattle.omega_keep.proofs.writing.push_claims.Given as goal

abbrev pub invariant-loop-i : goal.invariant-loop-i
invariant-loop-i l = record {
  text : l.out.items ++ more_text (flat_map claim_words (zip (drop l.i l.claims) (drop l.i l.reply))) ≡ l.fn.out.items ++ more_text (flat_map claim_words (zip l.claims l.reply));
  claims : AllByRecursion IsClaim (drop l.i l.claims) → AllByRecursion IsClaim l.claims;
  reply : AllByRecursion IsJudgement (drop l.i l.reply) → AllByRecursion IsJudgement l.reply;
}
