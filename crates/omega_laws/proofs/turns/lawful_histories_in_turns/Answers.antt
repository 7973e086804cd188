use Rattle.omega_laws.proofs.TurnOrder.{only_history}
use Rattle.omega_laws.proofs.turns.lawful_histories_in_turns.Goals as goal

pub returns : goal.returns
returns c = only_history
