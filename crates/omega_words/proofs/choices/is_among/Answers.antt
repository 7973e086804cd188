use Rattle.std.proofs.Common.{Bor, List, ℕ, ◌∙◌}
use Rattle.std.specs.Str.{bytes_eq}
use Rattle.clap.proofs.WalkLemmas.{list_any-map}
use Rattle.omega_words.proofs.choices.is_among.Goals as goal

pub returns : goal.returns
returns c = c.contains.ensures.value ∙ list_any-map (λ name. bytes_eq name c.args.text.now) (λ (name : Bor (List ℕ)). name.now) c.args.names.now
