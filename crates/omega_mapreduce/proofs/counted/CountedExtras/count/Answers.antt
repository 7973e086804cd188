use Rattle.std.proofs.Common.{sym, ap, ◌∙◌, length, List}
use Rattle.omega_model.specs.declared.wishes.Wish.{Wish}
use Rattle.omega_mapreduce.proofs.FreeIndexes.{counted_all}
use Rattle.omega_mapreduce.proofs.counted.CountedExtras.count.Goals as goal

pub returns : goal.returns
returns c =
    let e = c.self.inside in
    sym (counted_all e.job e.need e.constraints e.running.items e.count c.self.invariant)
    ∙ ap (λ (wishes : List Wish). length wishes) c.self.view_is
