use Rattle.std.proofs.Common.{◌≡◌, ℕ, true, cond, Option, ap, sym, ◌∙◌}
use Rattle.omega_model.specs.Keys.{same_key}
use Rattle.omega_model.specs.Reply.{admits}
use Rattle.omega_pieces.specs.Due.{due_at}
use Rattle.omega_pieces.proofs.EndsOn.{set_claim}
use Rattle.omega_pieces.proofs.ends_due.EndsDue.claim.Goals as goal

pub returns : goal.returns
returns c trace rows history keeps key =
    let claim = c.args.claim.now in
    let old = c.args.self.now in
    let placed : admits c.args.judgement.now ≡ true = sym c.is_placed.ensures ∙ c.if-not-is_placed.false in
    c.in_ok-set.ensures key
    ∙ ap (λ (due : Option ℕ). cond (same_key claim.key key) due (due_at old key)) (c.in_ok-due.ensures trace rows history keeps)
    ∙ set_claim trace history c.args.time claim c.args.judgement.now key (due_at old key) placed
