use Rattle.std.proofs.Common.{rules, ℕ, ◌≡◌, ◌∙◌, false, sym, arith}
use Rattle.std.specs.Prelude.{All}
use Rattle.std.specs.List.{list_any}
use Rattle.std.proofs.lemmas.Bool.{eqb-true}
use denote.Param.{param}
use denote.Param.Send.{IsSync, param_sync, sendable}
use Rattle.std.proofs.Crossing.{crosses, sync}
use Rattle.omega_shared.proofs.Crossing.{shared_sync}
use Rattle.omega_rounds.proofs.Crossing.{player_send}
use Rattle.omega_workers.specs.Workers.{has_work}
use Rattle.omega_rounds.specs.Players.{MayPlay}
use Rattle.omega_rounds.proofs.PlayersTogether.{idle_all, played_empty, played_only, played_whole}
use Rattle.omega_rounds.proofs.threads.together.+fn-play_all-join_mut+arg2+fn-play_all-join_mut+arg3+play_all.Goals as goal

pub returns-then-not-any_has_work : goal.returns-then-not-any_has_work
returns-then-not-any_has_work g t c =
    let may : All (MayPlay c.args.shared.now.of) c.split_at_mut-left.result.0.now = search rules in
    let none : list_any (λ player. has_work player.worker) c.split_at_mut-left.result.0.now ≡ false =
    sym c.any_has_work.ensures ∙ c.if-not-any_has_work.true in
    record {
      played = played_whole _ c.split_at_mut-left.result.0.now c.split_at_mut-left.result.1.now _ _ (search rules)
          (idle_all c.args.shared.now.of c.split_at_mut-left.result.0.now may none) c.play_all.ensures.played;
    }

pub returns-then-not-any_has_work-2 : goal.returns-then-not-any_has_work-2
returns-then-not-any_has_work-2 g t c =
    let may : All (MayPlay c.args.shared.now.of) c.split_at_mut-left.result.1.now = search rules in
    let none : list_any (λ player. has_work player.worker) c.split_at_mut-left.result.1.now ≡ false =
    sym c.any_has_work-2.ensures ∙ c.if-not-any_has_work-2.true in
    record {
      played = played_whole _ c.split_at_mut-left.result.0.now c.split_at_mut-left.result.1.now _ _ (search rules)
          c.play_all-then-not-any_has_work-2.ensures.played (idle_all c.args.shared.now.of c.split_at_mut-left.result.1.now may none);
    }

pub returns : goal.returns
returns g t c = record {
  played = played_whole c.args.players.now c.split_at_mut-left.result.0.now c.split_at_mut-left.result.1.now c.left-2-1.given.0 c.right-2-1.given.0
      (search rules) (search rules) (search rules);
}

-- the runtime and the gate are shared as what stands for a type parameter, at whatever place
pub join_mut-requires-send-F : goal.join_mut-requires-send-F
join_mut-requires-send-F g t c κs within =
    let runtime : (i : ℕ) → IsSync (param i g.row.R) = λ i. param_sync i g.row.R (record { shared = c.requires.sync.0.shared }) in
    let gate : (i : ℕ) → IsSync (param i g.row.G) = λ i. param_sync i g.row.G (record { shared = c.requires.sync.1.shared }) in
    search (player_send, shared_sync, runtime, gate, sync, crosses, sendable) depth 20

pub returns-then-is_empty : goal.returns-then-is_empty
returns-then-is_empty g t c = record { played = played_empty c.args.players.now (eqb-true _ _ (sym c.if-is_empty.ensures)) }

pub play-requires : goal.play-requires
play-requires g t c = record {
  may_play = c.requires.may_play 0 c.index-players-0.result (let one = c.if-players-eq1.true in omega (arith, one));
}

pub returns-then-players-eq1 : goal.returns-then-players-eq1
returns-then-players-eq1 g t c = record {
  played = played_only c.args.players.now c.index-players-0.result c.play.new.self c.if-players-eq1.true c.play.ensures.played;
}
