use Rattle.std.proofs.Common.{sym, ap, ◌∙◌, length, List}
use Rattle.std.proofs.lemmas.Bool.{eq-eqb, eqb-true}
use Rattle.omega_model.specs.declared.wishes.Wish.{Wish}
use Rattle.omega_mapreduce.proofs.FreeIndexes.{no_length}
use Rattle.omega_mapreduce.proofs.counted.CountedRequest.is_empty.Goals as goal

pub returns : goal.returns
returns c = (
  λ t. no_length _ (sym c.len.ensures ∙ eqb-true _ _ t),
  λ e. eq-eqb _ _ (c.len.ensures ∙ ap (λ (wishes : List Wish). length wishes) e),
)
