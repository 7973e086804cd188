use Rattle.std.proofs.Common.{◌≡◌, [], sym, ◌∙◌, rules}
use Rattle.std.proofs.lemmas.List.{nil_from_length}
use Rattle.omega_running.proofs.Spread.{leaves_are}
use Rattle.omega_running.proofs.forest.Forest.plant.Goals as goal

pub invariant_of-self : goal.invariant_of-self
invariant_of-self c = (leaves_are c.self.inside.order c.in_ok-self-inside.field-0.items c.in_ok-self-inside.ensures.empty).trees

pub returns-in_ok-self-inside-clause-tasks : goal.returns-in_ok-self-inside-clause-tasks
returns-in_ok-self-inside-clause-tasks c =
    let no : c.self.inside.trees.len ≡ 0 = search rules in
    let none : c.self.inside.trees.items ≡ [] = nil_from_length c.self.inside.trees.items (sym c.self.inside.trees.ok.0 ∙ no) in
    (leaves_are c.self.inside.order c.in_ok-self-inside.field-0.items c.in_ok-self-inside.ensures.empty).is ∙ rw (← c.self.view_is, none) (λ i. [])
