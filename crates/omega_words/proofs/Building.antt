-- The command grows by one option.
use Rattle.std.proofs.Common.{◌≡◌, ◌<◌, ◌≤◌, ◌+◌, ℕ, suc, List, [], ◌∷◌, ◌++◌, map, ap, sym, ◌∙◌, append-nil, append_assoc, drop, drop-cons, drop_of_length-le, length, arith, slice_index_or}
use Rattle.clap.specs.Words.{App, Rule, with_rule}
use Rattle.omega_words.specs.declared.choices.Choice.{Choice as CodeChoice}
use Rattle.omega_words.specs.Taken.{option_rule, option_rules}
use Rattle.omega_words.specs.Choices.{choice_of}

abbrev pub with_rest : App → List CodeChoice → App
with_rest a rest = record a { top = record a.top { rules = a.top.rules ++ option_rules (map choice_of rest) } }

pub grows : (choices : List CodeChoice) (i : ℕ) (a b : App) (d : CodeChoice) → i < length choices → b ≡ with_rule a (option_rule (slice_index_or choices i d).name.now)
    → with_rest b (drop (i + 1) choices) ≡ with_rest a (drop i choices)
grows choices i a b d lt is =
    let next : i + 1 ≡ suc i = omega arith in
    ap (λ (x : App). with_rest x (drop (i + 1) choices)) is
    ∙ ap (λ (k : ℕ). with_rest (with_rule a (option_rule (slice_index_or choices i d).name.now)) (drop k choices)) next
    ∙ ap (λ (rs : List Rule). record a { top = record a.top { rules = rs } })
    (append_assoc a.top.rules (option_rule (slice_index_or choices i d).name.now ∷ []) (option_rules (map choice_of (drop (suc i) choices))))
    ∙ ap (with_rest a) (sym (drop-cons choices i d lt))

pub ends : (choices : List CodeChoice) (i : ℕ) (a : App) → length choices ≤ i → with_rest a (drop i choices) ≡ a
ends choices i a past = ap (with_rest a) (drop_of_length-le choices past) ∙ ap (λ (rs : List Rule). record a { top = record a.top { rules = rs } }) (append-nil a.top.rules)
