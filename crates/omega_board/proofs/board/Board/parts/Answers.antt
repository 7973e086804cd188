use Rattle.std.proofs.Common.{◌≡◌, ◌∷◌, ◌++◌, Some, [], length, map, ap, ap₂, sym, ◌∙◌, arith}
use Rattle.std.specs.List.{range_with_len}
use Rattle.std.proofs.lemmas.List.{map-append}
use Rattle.std.proofs.lemmas.List.FromFn.{map-range_with_len_more}
use Rattle.omega_board.specs.Board.{BoardState}
use Rattle.omega_board.specs.Parts.{part_at}
use Rattle.omega_board.proofs.Boards.{at_now}
use Rattle.omega_board.proofs.Whole.{leads_whole}
use Rattle.omega_board.proofs.board.Board.parts.Goals as goal

pub loop-position-preserved : goal.loop-position-preserved
loop-position-preserved c =
    let place = c.loop-position.position in
    let board = c.args.self.now in
    ap (map Some) c.in_ok-push.ensures.items ∙ map-append Some c.loop-position.parts.items (c.in_ok-part.field-0 ∷ [])
    ∙ ap₂ (λ ps qs. ps ++ qs) c.loop-position.invariant (ap (λ p. p ∷ []) (sym c.in_ok-part.ensures))
    ∙ sym (map-range_with_len_more (part_at board) 0 place place (omega arith))

pub returns : goal.returns
returns c =
    let board = c.args.self.now in
    let shown : c.len-position-end.result ≡ length board.table = c.len-position-end.ensures.len ∙ ap (λ (b : BoardState). length b.table) c.self.view_is in
    let at_end : c.loop-position.position ≡ length board.table = omega (arith, c.loop-position-test.false, c.loop-position.auto.position-end, shown) in
    leads_whole board (at_now _ _ c.self.view_is c.self.invariant) c.of.result
    (ap (map Some) c.of.ensures ∙ c.loop-position.invariant ∙ ap (λ n. map (part_at board) (range_with_len 0 n)) at_end)
