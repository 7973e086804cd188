use Rattle.std.proofs.Common.{◌≡◌, [], ap, ◌∙◌}
use Rattle.std.specs.Prelude.{fold}
use Rattle.std.proofs.lemmas.List.{take_all}
use Rattle.std.proofs.lemmas.Result.{IfOk-weaker}
use Rattle.omega_report.specs.JsonOfText.{json_of_words, text_of_words, texts_of}
use Rattle.omega_report.specs.Writing.{after_byte}
use Rattle.omega_report.specs.declared.json_of_text.Position.TheVariants.{Beginning}
use Rattle.omega_report.proofs.Texts.{lines_inner, same_text}
use Rattle.omega_report.proofs.Written.{finished, written}
use Rattle.omega_report.proofs.json_of_text.json_of.Goals as goal

pub returns-clause-words : goal.returns-clause-words
returns-clause-words c lines inner is =
    let all : c.loop-byte.writing ≡ fold after_byte (record { json = []; word = []; position = Beginning }) (text_of_words lines) =
    c.loop-byte.invariant
    ∙ ap (fold after_byte (record { json = []; word = []; position = Beginning })) (take_all c.loop-byte.byte-index c.args.text.now c.loop-byte-test.false ∙ is) in
    IfOk-weaker c.finish.result (λ json. json ≡ finished c.loop-byte.writing) (λ json. json ≡ json_of_words lines)
    (λ json same. same ∙ ap finished all ∙ written lines inner)
    c.finish.ensures

pub returns-clause-lines : goal.returns-clause-lines
returns-clause-lines c lines plain is =
    let text : c.args.text.now ≡ text_of_words (texts_of lines) = is ∙ same_text lines in
    let all : c.loop-byte.writing ≡ fold after_byte (record { json = []; word = []; position = Beginning }) (text_of_words (texts_of lines)) =
    c.loop-byte.invariant
    ∙ ap (fold after_byte (record { json = []; word = []; position = Beginning })) (take_all c.loop-byte.byte-index c.args.text.now c.loop-byte-test.false ∙ text) in
    IfOk-weaker c.finish.result (λ json. json ≡ finished c.loop-byte.writing) (λ json. json ≡ json_of_words (texts_of lines))
    (λ json same. same ∙ ap finished all ∙ written (texts_of lines) (lines_inner lines plain))
    c.finish.ensures
