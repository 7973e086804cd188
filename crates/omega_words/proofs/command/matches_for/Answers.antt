use Rattle.std.proofs.Common.{◌≡◌, ap, sym, ◌∙◌, map, List, []}
use Rattle.clap.specs.Words.{App, Text, app_of, is_simple, matches_of, takes}
use Rattle.omega_model.specs.Options.{WordTable}
use Rattle.omega_words.specs.Taken.{app}
use Rattle.omega_words.specs.Choices.{choice_of}
use Rattle.clap.specs.Faults.{fault_of, is_simple_and_free}
use Rattle.omega_words.proofs.Taken.{app_is_free}
use Rattle.omega_words.proofs.Built.{app_is_simple}
use Rattle.omega_words.proofs.command.matches_for.Goals as goal

pub returns-in-Ok-try_get_matches_from-clause-rows : goal.returns-in-Ok-try_get_matches_from-clause-rows
returns-in-Ok-try_get_matches_from-clause-rows c =
    let words : List Text = map (λ s. s.now) c.args.words.now in
    let t : WordTable = record { commands = []; choices = map choice_of c.args.choices.now } in
    let made : app_of c.in-Ok.command ≡ app t = c.in-Ok.ensures in
    (c.in-Ok-try_get_matches_from.ensures.matches (ap is_simple made ∙ app_is_simple t)).0 ∙ ap (λ (a : App). matches_of a words) made

pub returns : goal.returns
returns c =
    let words : List Text = map (λ s. s.now) c.args.words.now in
    record {
      rows = tt;
      accepted = tt;
      usage = λ t. absurd (c.in_default-kind.not-OutOfMemory (c.kind.ensures ∙ c.in-Err.ensures.passes (ap (λ (a : App). takes a words) c.in-Ok.ensures ∙ t)));
    }

pub returns-in-Ok-try_get_matches_from-clause-accepted : goal.returns-in-Ok-try_get_matches_from-clause-accepted
returns-in-Ok-try_get_matches_from-clause-accepted c =
    let words : List Text = map (λ s. s.now) c.args.words.now in
    let t : WordTable = record { commands = []; choices = map choice_of c.args.choices.now } in
    let made : app_of c.in-Ok.command ≡ app t = c.in-Ok.ensures in
    ap (λ (a : App). fault_of a words) (sym made) ∙ c.in-Ok-try_get_matches_from.ensures.kinds (ap is_simple_and_free made ∙ app_is_free t)
