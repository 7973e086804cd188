use Rattle.std.proofs.Common.{ℕ, ◌++◌, ◌∷◌, [], ◌<◌, ◌+◌, ◌∙◌, List, Option, length, sym, ap, subst, arith, get_or}
use Rattle.std.proofs.lemmas.List.{get_or_default}
use Rattle.std.specs.Vec.Iter.{into_iter_items}
use Rattle.std.specs.Option.{option_to_list}
use Rattle.omega_model.specs.declared.claims.Judgement.{Judgement}
use Rattle.omega_cell.proofs.Judging.{IsJudging, judge_next, rooms_left}
use Rattle.omega_cell.proofs.deciding.judge_all.Goals as goal

pub loop-i-preserved : goal.loop-i-preserved
loop-i-preserved c =
    let number = get_or c.args.seqs.now c.loop-i.i 0 in
    let within : c.loop-i.i < length c.args.seqs.now = subst (λ (n : ℕ). c.loop-i.i < n) (sym c.requires.seqs) c.loop-i-test.true in
    let next : IsJudging c.args.board.now c.judge_one-judgement.new.board c.args.undo.now c.judge_one-judgement.new.undo c.args.rule c.args.claims.now c.args.seqs.now
    (c.loop-i.answered.items ++ c.judge_one-judgement.result ∷ []) (c.loop-i.i + 1) =
    judge_next c.args.board.now c.loop-i.board c.judge_one-judgement.new.board c.args.undo.now c.loop-i.undo c.judge_one-judgement.new.undo
    c.args.rule c.args.claims.now c.args.seqs.now c.loop-i.answered.items c.loop-i.i c.index-claims-i.result number c.known_of-copy.result c.judge_one-judgement.result
    c.loop-i-test.true c.index-claims-i.is
    (sym (get_or_default c.args.seqs.now c.loop-i.i number 0 within))
    c.known_of-copy.ensures
    (record {
      is = c.judge_one-judgement.ensures.judgement;
      cell = c.judge_one-judgement.ensures.cell;
      numbers = c.judge_one-judgement.ensures.numbers;
      undone = c.judge_one-judgement.ensures.undo;
      content = c.judge_one-judgement.ensures.content;
      claims = c.judge_one-judgement.ensures.claims;
      victims = c.judge_one-judgement.ensures.victims;
    })
    c.loop-i.invariant.0 in (
      subst (λ (answered : List Judgement). IsJudging c.args.board.now c.judge_one-judgement.new.board c.args.undo.now c.judge_one-judgement.new.undo c.args.rule c.args.claims.now c.args.seqs.now answered (c.loop-i.i + 1))
          (sym c.push_reserved.ensures.items) next,
      rooms_left c.args.claims.now c.loop-i.i c.index-claims-i.result c.unwrap-room.result (into_iter_items c.loop-i.rooms) (into_iter_items c.next.new.self)
          c.loop-i-test.true c.loop-i.invariant.1 (c.next.ensures.items ∙ ap (λ (room : Option ℕ). option_to_list room ++ into_iter_items c.next.new.self) c.unwrap-room.ensures),
      omega (arith, c.push_reserved.ensures.len, c.loop-i.invariant.2),
      omega (arith, c.push_reserved.ensures.capacity, c.loop-i.invariant.3),
    )
