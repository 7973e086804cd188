use Rattle.std.proofs.Common.{◌≡◌, ◌++◌, drop}
use Rattle.std.specs.Prelude.{map}
use Rattle.std.specs.List.{list_all}
use Rattle.omega_report.specs.Forms.{more_form}
use Rattle.omega_report.specs.Spelling.{fits, word_of}
use Rattle.omega_report.proofs.writing.push_more.Given as goal

abbrev pub invariant-loop-word : goal.invariant-loop-word
invariant-loop-word l = record {
  bytes : l.out.items ++ more_form l.format (map word_of (drop l.word-index l.words)) ≡ l.fn.out.items ++ more_form l.format (map word_of l.words);
  numbers : list_all fits (drop l.word-index l.words) ≡ list_all fits l.words;
}
