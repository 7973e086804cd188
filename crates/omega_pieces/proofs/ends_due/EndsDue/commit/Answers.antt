use Rattle.std.proofs.Common.{ℕ, List, ap₂, sym, ◌∙◌}
use Rattle.std.specs.List.{fold, zip}
use Rattle.omega_model.specs.declared.claims.Claim.{Claim}
use Rattle.omega_pieces.specs.Due.{due_after, due_at, due_when}
use Rattle.omega_pieces.proofs.EndsOn.{keeps_commit}
use Rattle.omega_pieces.proofs.ends_due.EndsDue.commit.Goals as goal

pub returns : goal.returns
returns c trace rows history times by seen timed pieces keeps at is_then =
    keeps_commit trace history times c.args.self.now c.claims.new.self by seen c.args.txn.now c.args.reply.now timed at
    (λ key. c.in_ok-claims.ensures trace rows history pieces key
    ∙ ap₂ (λ (time : ℕ) (claims : List Claim). fold (due_after key (due_when trace history time key)) (due_at c.args.self.now key) (zip claims c.args.reply.now)) (sym is_then) c.as_slice.ensures)
    keeps
