use Rattle.std.proofs.Common.{rules, ◌<◌, ◌≤◌, length, sym, ◌∙◌}
use Rattle.omega_words.proofs.Building.{ends, grows}
use Rattle.omega_words.proofs.command.command.Goals as goal

pub loop-choice-preserved : goal.loop-choice-preserved
loop-choice-preserved c =
    let inside : c.loop-choice.choice-index < length c.args.choices.now = search rules in
    grows c.args.choices.now c.loop-choice.choice-index _ _ _ inside c.in_ok-command-2.ensures ∙ c.loop-choice.invariant

pub returns : goal.returns
returns c =
    let past : length c.args.choices.now ≤ c.loop-choice.choice-index = search rules in
    sym (ends c.args.choices.now c.loop-choice.choice-index _ past) ∙ c.loop-choice.invariant
