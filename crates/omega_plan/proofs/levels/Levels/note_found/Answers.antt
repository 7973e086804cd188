use Rattle.std.proofs.Common.{ℕ, Option, Some, subst}
use Rattle.std.proofs.lemmas.Bool.{or_parts}
use Rattle.omega_plan.specs.Levels.{LevelsTellBut, no_number}
use Rattle.omega_plan.specs.Telling.{is_found, is_this_or}
use Rattle.omega_plan.proofs.Noted.{levels_where}
use Rattle.omega_plan.proofs.levels.Levels.note_found.Goals as goal

pub returns-in-Some : goal.returns-in-Some
returns-in-Some c = λ cell tell.
    let machine = c.in-Some.machine in
    c.note.ensures cell no_number
    (levels_where (is_found (Some machine)) (is_this_or machine no_number) (λ id out. (or_parts _ _ out).0) cell c.args.self.now
    (subst (λ (found : Option ℕ). LevelsTellBut (is_found found) cell c.args.self.now) c.in-Some.is tell))

pub returns-in_default : goal.returns-in_default
returns-in_default c = λ cell tell. subst (λ (found : Option ℕ). LevelsTellBut (is_found found) cell c.args.self.now) c.in_default.is tell
