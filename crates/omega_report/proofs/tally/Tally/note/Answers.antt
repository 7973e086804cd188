use Rattle.std.proofs.Common.{◌≡◌, ◌∷◌, ◌++◌, [], List, ap, ap₂, sym, ◌∙◌}
use Rattle.omega_model.specs.ReportCounts.{Counts}
use Rattle.omega_model.specs.declared.claims.Judgement.{Judgement}
use Rattle.omega_model.specs.declared.entries.Entry.{Entry}
use Rattle.omega_model.specs.declared.entries.Entry.TheVariants.{Commit}
use Rattle.omega_report.specs.Counted.{counts_in}
use Rattle.omega_report.specs.Tallies.{added_at, counts_over, tallies}
use Rattle.omega_report.proofs.Tallying.{no_commit, tallies_commit, tallies_other}
use Rattle.omega_report.proofs.tally.Tally.note.Goals as goal

pub returns-in_ok-add-in-Commit : goal.returns-in_ok-add-in-Commit
returns-in_ok-add-in-Commit c = λ schedulers history same.
    let by = c.in-Commit.scheduler in
    let more : counts_in c.in_ok-more-in-Commit.more ≡ counts_over (Commit by c.in-Commit.seen c.in-Commit.txn c.in-Commit.reply ∷ []) =
    c.in_ok-more-in-Commit.ensures by c.in-Commit.seen
    ∙ ap (λ (reply : List Judgement). counts_over (Commit by c.in-Commit.seen c.in-Commit.txn reply ∷ [])) c.as_slice.ensures in
    c.in_ok-add-in-Commit.ensures
    ∙ ap₂ (λ (counts : Counts) (before : List Counts). added_at by counts before) more same
    ∙ tallies_commit schedulers history by c.in-Commit.seen c.in-Commit.txn c.in-Commit.reply
    ∙ ap (λ (e : Entry). tallies schedulers (history ++ e ∷ [])) (sym c.in-Commit.is)

pub returns-in_default : goal.returns-in_default
returns-in_default c = λ schedulers history same.
    same ∙ tallies_other schedulers history c.args.entry.now (no_commit c.args.entry.now c.in_default.not-Commit)
