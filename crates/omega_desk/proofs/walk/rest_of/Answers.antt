use Rattle.std.proofs.Common.{◌∙◌, ap}
use Rattle.omega_desk.proofs.Walks.{walked_leaves}
use Rattle.omega_desk.specs.Walks.{walked}
use Rattle.omega_desk.proofs.walk.rest_of.Goals as goal

pub returns : goal.returns
returns c =
    let outcomes = c.args.outcomes.now in
    let wishes =
    c.of.ensures
    ∙ c.walked-wishes.ensures
    ∙ ap (λ items. walked outcomes items) c.into_items.ensures
    ∙ walked_leaves outcomes c.args.request.wishes c.requires.distinct c.requires.answers in
    λ i. record { job = c.args.request.job; wishes = wishes i }
