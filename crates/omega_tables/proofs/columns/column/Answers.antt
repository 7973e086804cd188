use Rattle.std.proofs.Common.{◌∙◌, ◌-◌, ap, List, ℕ, Option, [], Bor}
use Rattle.std.specs.Option.{unwrap_or}
use Rattle.csv.specs.Records.{fields_of}
use Rattle.omega_tables.proofs.Field.{field_or_none, now_or}
use Rattle.omega_tables.proofs.columns.column.Goals as goal

pub returns : goal.returns
returns c =
    ap (λ (b : Bor (List ℕ)). b.now) c.unwrap_or.ensures ∙ now_or c.get.result _
    ∙ ap (λ (o : Option (List ℕ)). unwrap_or o []) c.get.ensures.value
    ∙ field_or_none (fields_of c.args.fields.now) (c.args.number - 1)
