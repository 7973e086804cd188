use Rattle.std.proofs.Common.{◌≡◌, [], sym, ◌∙◌, rules}
use Rattle.std.proofs.lemmas.List.{nil_from_length}
use Rattle.omega_running.proofs.forest.Forest.place.Goals as goal

pub returns-then-is_empty-clause-nothing : goal.returns-then-is_empty-clause-nothing
returns-then-is_empty-clause-nothing c = λ e.
    let no : c.self.inside.trees.len ≡ 0 = search rules in
    let none : c.self.inside.trees.items ≡ [] = nil_from_length c.self.inside.trees.items (sym c.self.inside.trees.ok.0 ∙ no) in
    rw (← c.self.view_is, none) (λ i. [])
