-- A player may go to another thread.
use denote.Param.Send.{IsSend, recorded_send, sendable, struct_send}
use denote.Struct.Declared.{shape}
use Rattle.omega_shared.proofs.Crossing.{pass_send}
use Rattle.omega_shared.specs.contracts.pass.Pass as Pass
use Rattle.omega_workers.proofs.Crossing.{indexes_send, worker_send}
use Rattle.omega_rounds.specs.contracts.threads.player.Player as Player

-- what a pass holds goes to another thread with it
pass_field_send : IsSend (Pass.the_field).row
pass_field_send = search (pass_send, sendable) depth 20

-- a player, with its worker and its indexes
pub player_send : IsSend Player.the_row
player_send = recorded_send (Player.the_field).row _ _ (Player.the_type).to_one (struct_send (shape Player.the_type) (worker_send, (indexes_send, (pass_field_send, (search sendable, tt)))))
