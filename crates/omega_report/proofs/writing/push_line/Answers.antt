use Rattle.std.proofs.Common.{◌∙◌, ◌++◌, ap}
use Rattle.std.specs.Prelude.{map}
use Rattle.omega_report.specs.Spelling.{word_of}
use Rattle.omega_report.proofs.Forms.{line_written}
use Rattle.omega_report.proofs.writing.push_line.Goals as goal

pub returns-clause-bytes : goal.returns-clause-bytes
returns-clause-bytes c =
    line_written c.args.format (map word_of c.args.words.now) _ _ _ _
    (c.in_ok-extend_from_slice.ensures.items ∙ ap (λ bytes. c.args.out.now.items ++ bytes) c.opening.ensures)
    c.in_ok-push_words.ensures.bytes
    (c.in_ok-extend_from_slice-2.ensures.items ∙ ap (λ bytes. c.push_words.new.out.items ++ bytes) c.closing.ensures)
