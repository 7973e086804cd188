use Rattle.std.proofs.Common.{◌≡◌, ℕ, Bool, true, false, not, List, refl}
use Rattle.std.specs.Prelude.{◌↔◌}
use Rattle.std.proofs.lemmas.Bool.{both_ways}
use Rattle.omega_model.specs.declared.cells.Task.{Task}
use Rattle.omega_feed.specs.Asked.{Asked}
use Rattle.omega_feed.specs.Open.{IsQuietAt, SaysWaits}
use Rattle.omega_feed.proofs.wanted.Wanted.waits_at.Goals as goal

says : (asked : Asked) (tasks : List Task) (place : ℕ) (b : Bool) → (b ≡ true) ↔ IsQuietAt asked tasks place → SaysWaits asked tasks place (not b)
says asked tasks place true is = is.0 refl
says asked tasks place false is = λ quiet. both_ways _ refl (is.1 quiet)

pub returns : goal.returns
returns c = says c.args.self.now c.args.board.now.tasks c.args.place c.is_quiet_at.result c.is_quiet_at.ensures
