use Rattle.std.proofs.Common.{OnOk, sym, subst}
use Rattle.std.specs.List.{zip}
use Rattle.omega_model.specs.declared.entries.Entry.{Entry}
use Rattle.omega_model.specs.Touches.{is_touched_by, is_claimed}
use Rattle.omega_board.specs.Naming.{Names}
use Rattle.omega_board.proofs.naming.name_touched.Goals as goal

pub returns-in-Commit : goal.returns-in-Commit
returns-in-Commit c =
    let before = c.args.machines.now.items in
    let after = c.name_placed.new.machines.items in
    subst (λ (e : Entry). OnOk c.name_placed.result (Names (is_touched_by e) before after)) (sym c.in-Commit.is)
    (subst (λ claims. OnOk c.name_placed.result (Names (is_claimed (zip claims c.in-Commit.reply)) before after)) c.as_slice.ensures
    (subst (λ reply. OnOk c.name_placed.result (Names (is_claimed (zip c.as_slice.result.now reply)) before after)) c.as_slice-in-Commit.ensures c.name_placed.ensures))
