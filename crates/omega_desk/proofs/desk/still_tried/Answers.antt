use Rattle.std.proofs.Common.{rules, ◌∙◌, ap, not, Bool, nat_le}
use Rattle.std.specs.List.{filter}
use Rattle.std.proofs.lemmas.Fn.{filter_same}
use Rattle.omega_model.specs.declared.wishes.Request.{Request}
use Rattle.omega_desk.specs.Counts.{count_of}
use Rattle.omega_desk.proofs.desk.still_tried.Goals as goal

pub returns : goal.returns
returns c =
    let keeps : Request → Bool = λ request. not (nat_le c.args.settings.now.give_up (count_of c.args.failures.now request.job)) in
    filter_same _ keeps _ (λ request kept f' k. search rules) _ _ c.retain.ensures.filtered
    ∙ ap (λ requests. filter keeps requests) c.into_items-tried.ensures
