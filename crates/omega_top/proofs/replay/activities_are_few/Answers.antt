use Rattle.std.proofs.Common.{◌≤◌, subst, sym, take}
use Rattle.std.proofs.lemmas.List.{take_all}
use Rattle.std.proofs.lemmas.List.Elements.{All-more, All-same}
use Rattle.omega_model.specs.Fields.{ActivityFields, most_activities}
use Rattle.omega_top.proofs.replay.activities_are_few.Goals as goal

pub loop-row-preserved : goal.loop-row-preserved
loop-row-preserved c =
    let few = subst (λ (row : ActivityFields). row.activities ≤ most_activities) c.row.view_is c.row.invariant in
    All-more (λ (row : ActivityFields). row.activities ≤ most_activities) c.args.rows.now c.loop-row.row-index c.row-item.result c.loop-row-test.true c.loop-row.invariant
    (subst (λ (row : ActivityFields). row.activities ≤ most_activities) c.row-item.is few)

pub returns : goal.returns
returns c =
    All-same (λ (row : ActivityFields). row.activities ≤ most_activities) c.args.rows.now (take c.loop-row.row-index c.args.rows.now)
    (sym (take_all c.loop-row.row-index c.args.rows.now c.loop-row-test.false)) c.loop-row.invariant
