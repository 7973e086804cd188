use Rattle.std.proofs.Common.{rules}
use Rattle.omega_fit.proofs.Searches.{next_with_room}
use Rattle.omega_fit.proofs.searching.search_between.Goals as goal

pub returns-clause-next : goal.returns-clause-next
returns-clause-next c =
    next_with_room _ c.args.need c.args.nodes.now c.args.from c.args.to c.search_in.result c.search_in.ensures.first (λ i b w. search rules)
