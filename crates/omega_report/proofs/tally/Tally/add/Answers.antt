use Rattle.std.proofs.Common.{◌≡◌, ◌<◌, ◌≤◌, length, map, sym, ap, ◌∙◌, arith}
use Rattle.std.proofs.lemmas.List.{length-map}
use Rattle.omega_report.specs.Counted.{counts_in}
use Rattle.omega_report.specs.Tallies.{added_at}
use Rattle.omega_report.proofs.Tallying.{added_past, added_set}
use Rattle.omega_report.proofs.tally.Tally.add.Goals as goal

pub returns-in_ok-self-inside : goal.returns-in_ok-self-inside
returns-in_ok-self-inside c =
    let held = c.self.inside.counts.items in
    let below : c.args.scheduler < length held = omega (arith, c.if-scheduler-len.true, c.len.ensures, c.self.inside.counts.ok.0) in
    added_set held c.args.scheduler (counts_in c.args.more.now) c.in_ok-self-inside.field-0 c.index.result.now below c.index.ensures c.in_ok-self-inside.ensures
    ∙ ap (added_at c.args.scheduler (counts_in c.args.more.now)) c.self.view_is

pub returns-else-scheduler-len : goal.returns-else-scheduler-len
returns-else-scheduler-len c =
    let held = c.self.inside.counts.items in
    let past : length held ≤ c.args.scheduler = omega (arith, c.if-scheduler-len.false, c.len.ensures, c.self.inside.counts.ok.0) in
    let long : length (map counts_in held) ≡ length held = length-map held counts_in in
    sym (ap (added_at c.args.scheduler (counts_in c.args.more.now)) (sym c.self.view_is)
    ∙ added_past (map counts_in held) c.args.scheduler (counts_in c.args.more.now) (omega (arith, past, long))
    ∙ c.self.view_is)
