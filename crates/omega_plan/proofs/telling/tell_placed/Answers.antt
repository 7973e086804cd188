use Rattle.std.proofs.Common.{◌≡◌, ◌∷◌, ◌∙◌, List, sym, subst, rules}
use Rattle.std.specs.List.{zip}
use Rattle.std.specs.Iterator.Adapters.{zip_first, zip_second}
use Rattle.std.specs.Slice.Iter.{iter_rest}
use Rattle.std.proofs.lemmas.Slice.Zip.{Zip-more, either_empty_from_Zip}
use Rattle.omega_model.specs.declared.claims.Claim.{Claim}
use Rattle.omega_model.specs.declared.claims.Judgement.{Judgement}
use Rattle.omega_machines.specs.Table.{machines_of}
use Rattle.omega_board.proofs.Counts.{zipped_out}
use Rattle.omega_model.specs.Touches.{is_claimed}
use Rattle.omega_plan.specs.Telling.{TellsBut, is_this_or}
use Rattle.omega_plan.proofs.Tells.{told_all, told_states, tells_where, zipped_more, placed_more, passed_more}
use Rattle.omega_plan.proofs.telling.tell_placed.Goals as goal

pub loop-claim-init : goal.loop-claim-init
loop-claim-init c =
    let all = c.into_iter-claim-iterator.result in
    let first : iter_rest (zip_first all) ≡ c.args.claims.now = search rules in
    let second : iter_rest (zip_second all) ≡ c.args.reply.now = search rules in
    record {
      told = subst (λ (decided : List (Claim × Judgement)). TellsBut (is_claimed decided) 0 c.args.board.now.tasks c.args.index.now.free (machines_of c.args.board.now.table))
          (sym (λ i. zip (first i) (second i))) c.requires;
      last = tt;
    }

pub tell_next-requires-clause-long : goal.tell_next-requires-clause-long
tell_next-requires-clause-long c = told_states _ 0 c.args.board.now.tasks c.loop-claim.index.free c.args.board.now.table c.loop-claim.invariant.told

pub loop-claim-preserved-then-is_placed : goal.loop-claim-preserved-then-is_placed
loop-claim-preserved-then-is_placed c =
    let left = c.loop-claim.claim-iterator in
    let rest = c.next.new.self in
    let claim : Claim = c.in-Some.claim.now in
    let judgement : Judgement = c.in-Some.judgement.now in
    let later : List (Claim × Judgement) = zip (iter_rest (zip_first rest)) (iter_rest (zip_second rest)) in
    let left_claims : List (Claim × Judgement) = zip (iter_rest (zip_first left)) (iter_rest (zip_second left)) in
    let more = Zip-more left rest c.next.result (c.in-Some.claim, c.in-Some.judgement) c.in-Some.is c.next.ensures.steps in
    let first : left_claims ≡ (claim, judgement) ∷ later = zipped_more _ _ _ _ claim judgement more.0 more.1 in
    record {
      told = c.tell_next.ensures.tells (is_claimed later)
          (tells_where (is_claimed left_claims) (is_this_or claim.machine (is_claimed later)) (λ id out. placed_more left_claims later claim judgement first (sym c.if-is_placed.ensures) id ∙ out)
          0 c.args.board.now.tasks c.loop-claim.index.free (machines_of c.args.board.now.table) c.loop-claim.invariant.told);
      last = c.tell_next.ensures.own;
    }

pub loop-claim-preserved : goal.loop-claim-preserved
loop-claim-preserved c =
    let left = c.loop-claim.claim-iterator in
    let rest = c.next.new.self in
    let claim : Claim = c.in-Some.claim.now in
    let judgement : Judgement = c.in-Some.judgement.now in
    let later : List (Claim × Judgement) = zip (iter_rest (zip_first rest)) (iter_rest (zip_second rest)) in
    let left_claims : List (Claim × Judgement) = zip (iter_rest (zip_first left)) (iter_rest (zip_second left)) in
    let more = Zip-more left rest c.next.result (c.in-Some.claim, c.in-Some.judgement) c.in-Some.is c.next.ensures.steps in
    let first : left_claims ≡ (claim, judgement) ∷ later = zipped_more _ _ _ _ claim judgement more.0 more.1 in
    record {
      told = tells_where (is_claimed left_claims) (is_claimed later) (λ id out. passed_more left_claims later claim judgement first (sym c.if-is_placed.ensures) id ∙ out)
          0 c.args.board.now.tasks c.loop-claim.index.free (machines_of c.args.board.now.table) c.loop-claim.invariant.told;
      last = c.loop-claim.invariant.last;
    }

pub returns : goal.returns
returns c =
    let left = c.loop-claim.claim-iterator in
    let none = zipped_out (iter_rest (zip_first left)) (iter_rest (zip_second left)) (either_empty_from_Zip left c.next.new.self c.next.result c.in-None.is c.next.ensures.steps) in
    told_all 0 c.args.board.now.tasks c.loop-claim.index.free (machines_of c.args.board.now.table)
    (subst (λ (decided : List (Claim × Judgement)). TellsBut (is_claimed decided) 0 c.args.board.now.tasks c.loop-claim.index.free (machines_of c.args.board.now.table)) none c.loop-claim.invariant.told)
