use Rattle.std.proofs.Common.{ℕ, Bool, sym, subst}
use Rattle.std.specs.List.{zip}
use Rattle.omega_model.specs.Touches.{is_claimed, is_touched_by}
use Rattle.omega_model.specs.declared.entries.Entry.{Entry}
use Rattle.omega_plan.specs.Levels.{LevelsTellBut}
use Rattle.omega_plan.proofs.Tells.{no_commit}
use Rattle.omega_plan.proofs.levels.Levels.note_entry.Goals as goal

pub returns-in-Commit : goal.returns-in-Commit
returns-in-Commit c = λ cell tell.
    let levels = c.args.self.now in
    c.note_placed.ensures cell
    (subst (λ claims. LevelsTellBut (is_claimed (zip claims c.as_slice-in-Commit.result.now)) cell levels) (sym c.as_slice.ensures)
    (subst (λ reply. LevelsTellBut (is_claimed (zip c.in-Commit.txn.claims reply)) cell levels) (sym c.as_slice-in-Commit.ensures)
    (subst (λ (e : Entry). LevelsTellBut (is_touched_by e) cell levels) c.in-Commit.is tell)))

pub returns-in_default : goal.returns-in_default
returns-in_default c = λ cell tell.
    c.note_found.ensures cell
    (subst (λ (stale : ℕ → Bool). LevelsTellBut stale cell c.args.self.now)
    (λ i id. c.machine.ensures.touched (no_commit c.args.entry.now c.in_default.not-Commit) id i) tell)
