use Rattle.std.proofs.Common.{rules, ◌∙◌, ap, Bool}
use Rattle.std.specs.List.{filter}
use Rattle.std.proofs.lemmas.Fn.{filter_same}
use Rattle.omega_model.specs.declared.claims.Claim.{Claim}
use Rattle.omega_free_laws.specs.StillWanted.{is_still_wanted}
use Rattle.omega_free.proofs.attempts.kept_claims.Goals as goal

pub returns : goal.returns
returns c =
    let keeps : Claim → Bool = λ claim. is_still_wanted c.args.wanted.now.tasks claim.key in
    c.of.ensures ∙ filter_same _ keeps _ (λ claim kept f' k. search rules) _ _ c.retain.ensures.filtered
    ∙ ap (λ claims. filter keeps claims) c.into_items-kept.ensures
