use Rattle.omega_model.proofs.Soundness.{states_sound}
use Rattle.omega_model.proofs.laws.states_of_legal_histories.Goals as goal

pub returns : goal.returns
returns c = states_sound
