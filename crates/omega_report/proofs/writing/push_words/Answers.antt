use Rattle.std.proofs.Common.{append_assoc}
use Rattle.std.specs.Prelude.{map}
use Rattle.omega_report.specs.Forms.{gap, word_form}
use Rattle.omega_report.specs.Spelling.{word_of}
use Rattle.omega_report.proofs.Joined.{join_items}
use Rattle.omega_report.proofs.writing.push_words.Goals as goal

pub returns-in_ok-push_more-in-Some-clause-bytes :
    goal.returns-in_ok-push_more-in-Some-clause-bytes
returns-in_ok-push_more-in-Some-clause-bytes c =
    rw (
      c.in_ok-push_more-in-Some.ensures.bytes,
      c.in_ok-push_word-in-Some.ensures.bytes,
      c.in-Some.ensures.cases.0,
      join_items (word_form c.args.format) (gap c.args.format) (word_of c.in-Some.first.now) (map word_of c.in-Some.more.now),
    )
    (simp append_assoc)
