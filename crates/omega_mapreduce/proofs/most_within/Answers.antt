use Rattle.std.proofs.Common.{◌≡◌, ◌∙◌, sym, min, arith}
use Rattle.omega_model.specs.Extras.{keeps_within}
use Rattle.omega_mapreduce.proofs.Greatest.{greatest_passed, all_three}
use Rattle.omega_mapreduce.proofs.most_within.Goals as goal

pub returns : goal.returns
returns c =
    let cpu = c.most_of-cpu in
    let mem = c.most_of-mem in
    let disk = c.most_of-disk in
    let least : c.min-2.result ≡ min (min cpu.result mem.result) disk.result = omega (arith, c.min.ensures, c.min-2.ensures) in
    least ∙ sym (greatest_passed (keeps_within c.args.percent c.args.need c.args.used c.args.capacity)
    (min (min cpu.result mem.result) disk.result) c.args.count (omega (arith, cpu.ensures.bound))
    (λ i some within. all_three i cpu.result mem.result disk.result _ _ _ _ _ _
    (cpu.ensures.most i some within) (mem.ensures.most i some within) (disk.ensures.most i some within)))
