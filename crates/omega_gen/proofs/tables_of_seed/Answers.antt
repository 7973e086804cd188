use Rattle.std.proofs.Common.{◌≡◌, ℕ, Some, ap, ◌∙◌, subst}
use Rattle.std.specs.Prelude.{IfOk}
use Rattle.omega_io.specs.ByTable.{at}
use Rattle.omega_model.specs.Draws.{word_at}
use Rattle.omega_model.specs.Generated.{made_of}
use Rattle.omega_model.specs.declared.rows.Table.{Table}
use Rattle.omega_gen.proofs.Drawn.{words_of_generator}
use Rattle.omega_gen.proofs.tables_of_seed.Goals as goal

pub returns-clause-rests : goal.returns-clause-rests
returns-clause-rests c =
    subst
    (λ (word : ℕ → ℕ). IfOk c.tables_of.result (λ tables.
    (table : Table) → Some (at tables.unread table) ≡ Some (made_of word c.args.machines c.args.jobs table)))
    (words_of_generator c.new-words.result ∙ ap word_at c.new-words.ensures)
    c.tables_of.ensures.rests
