use Rattle.std.proofs.Common.{ℕ, List, Option, Some, None, subst, sym}
use Rattle.omega_model.specs.declared.cells.TaskKey.{TaskKey}
use Rattle.omega_pieces.specs.Due.{SetsDue}
use Rattle.omega_pieces.proofs.Queued.{sets_due, sets_over}
use Rattle.omega_pieces.proofs.ends_due.EndsDue.set.Goals as goal

pub returns-in-None : goal.returns-in-None
returns-in-None c =
    let key = c.args.key in
    let new = c.take_off.new.times in
    subst (λ (time : Option ℕ). SetsDue c.args.self.now new.entries key time) (sym c.in-None.is)
    (subst (λ (old : List (TaskKey × ℕ)). SetsDue old new.entries key None) c.self.view_is (sets_due c.self.inside.times new key None c.take_off.ensures.times))

pub returns-in_ok-put-in-Some : goal.returns-in_ok-put-in-Some
returns-in_ok-put-in-Some c =
    let key = c.args.key in
    let mid = c.take_off.new.times in
    let new = c.put.new.times in
    subst (λ (time : Option ℕ). SetsDue c.args.self.now new.entries key time) (sym c.in-Some.is)
    (subst (λ (old : List (TaskKey × ℕ)). SetsDue old new.entries key (Some c.in-Some.time)) c.self.view_is
    (sets_over c.self.inside.times.entries mid.entries new.entries key (Some c.in-Some.time)
    (sets_due c.self.inside.times mid key None c.take_off.ensures.times) (sets_due mid new key (Some c.in-Some.time) c.in_ok-put-in-Some.ensures.times)))
