use Rattle.std.proofs.Common.{rules, nat_lt}
use Rattle.std.proofs.lemmas.List.Sorted.{IsPartitionPoint-from_clause}
use Rattle.omega_keep.proofs.Touched.{is_parted, one_split}
use Rattle.omega_keep.proofs.touches.count_below.Goals as goal

pub returns : goal.returns
returns c = λ count h.
    let found = IsPartitionPoint-from_clause (λ place. nat_lt place c.args.seen) c.args.places.now c.partition_point.result c.partition_point.ensures.partitioned (is_parted c.args.seen c.args.places.now count h) (λ a r q k. search rules) in
    one_split c.args.seen c.args.places.now c.partition_point.result count (c.partition_point.ensures.bound, found) h
