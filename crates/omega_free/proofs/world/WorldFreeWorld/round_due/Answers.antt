use Rattle.std.proofs.Common.{◌∙◌, ℕ, Some, sym, ap}
use Rattle.std.specs.Prelude.{option_map}
use Rattle.omega_free.specs.declared.next_round.NextRound.{NextRound}
use Rattle.omega_free.proofs.WorldSteps.{round_told}
use Rattle.omega_free.proofs.world.WorldFreeWorld.round_due.Goals as goal

pub returns-in-Some : goal.returns-in-Some
returns-in-Some c trace moment is =
    ap (λ (n : ℕ). Some n) c.from.ensures ∙ sym (ap (option_map (λ (it : NextRound). it.due)) c.in-Some.is) ∙ round_told c.args.self.now trace moment is

pub returns-in-None : goal.returns-in-None
returns-in-None c trace moment is =
    sym (ap (option_map (λ (it : NextRound). it.due)) c.in-None.is) ∙ round_told c.args.self.now trace moment is
