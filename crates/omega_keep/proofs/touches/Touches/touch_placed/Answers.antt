use Rattle.std.proofs.Common.{arith, sym, ◌∙◌}
use Rattle.omega_keep.specs.Touching.{places_of}
use Rattle.omega_keep.proofs.TouchMap.{claims_end, claims_noted, either_end}
use Rattle.omega_keep.proofs.touches.Touches.touch_placed.Goals as goal

pub loop-i-preserved : goal.loop-i-preserved
loop-i-preserved c = λ id.
    claims_noted c.args.place id c.loop-i.i c.args.claims.now c.args.reply.now c.index-claims-i.result c.index-reply-i.result
    (places_of c.loop-i.self.places id) (places_of c.touch_claimed.new.self.places id)
    (omega (arith, c.loop-i-test.true, c.min-i-end.ensures)) (omega (arith, c.loop-i-test.true, c.min-i-end.ensures))
    c.index-claims-i.is c.index-reply-i.is (c.in_ok-touch_claimed.ensures id)
    ∙ c.loop-i.invariant id

pub returns : goal.returns
returns c = λ id.
    sym (claims_end c.args.place id c.loop-i.i c.args.claims.now c.args.reply.now (places_of c.loop-i.self.places id) (either_end _ _ c.loop-i.i c.min-i-end.result c.min-i-end.ensures c.loop-i-test.false))
    ∙ c.loop-i.invariant id
