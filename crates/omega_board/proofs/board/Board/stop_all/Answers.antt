use Rattle.std.proofs.Common.{refl, sym, ap, ◌∙◌, ◌∷◌, [], take, arith}
use Rattle.std.proofs.lemmas.List.{take_more}
use Rattle.omega_machines.specs.Table.{machines_of, seq_at}
use Rattle.omega_model.specs.Cell.{without}
use Rattle.omega_board.proofs.Claims.{without_none}
use Rattle.omega_board.proofs.Rewinds.{machines_with, seq_with}
use Rattle.omega_board.proofs.Tasks.{without_more}
use Rattle.omega_board.proofs.board.Board.stop_all.Goals as goal

pub loop-key-init : goal.loop-key-init
loop-key-init c = (sym (without_none c.args.self.now.tasks), refl, λ id. refl, omega arith)

pub loop-key-preserved : goal.loop-key-preserved
loop-key-preserved c = (
  c.stop.ensures.tasks
      ∙ ap (without (_ ∷ [])) c.loop-key.invariant.0
      ∙ sym (without_more (take c.loop-key.key-index c.args.keys.now) _ c.args.self.now.tasks)
      ∙ ap (λ keys. without keys c.args.self.now.tasks) (sym (take_more c.args.keys.now c.loop-key.key-index _ c.loop-key-test.true)),
  ap machines_of c.stop.ensures.table ∙ machines_with c.stop.new.self.tasks c.loop-key.self.table ∙ c.loop-key.invariant.1,
  λ id. ap (λ table. seq_at table id) c.stop.ensures.table ∙ seq_with c.stop.new.self.tasks c.loop-key.self.table id ∙ c.loop-key.invariant.2 id,
  omega (arith, c.loop-key.invariant.3, c.stop.ensures.spare),
)
