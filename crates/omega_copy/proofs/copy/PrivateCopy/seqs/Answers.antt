use Rattle.std.proofs.Common.{◌≡◌, List, ap, map, take, ◌∙◌}
use Rattle.std.proofs.lemmas.Result.{IfOk-weaker}
use Rattle.omega_machines.specs.Table.{seq_at}
use Rattle.omega_board.proofs.Histories.{numbers_alike}
use Rattle.omega_model.specs.Touches.{copied_seqs}
use Rattle.omega_model.specs.declared.claims.Claim.{Claim}
use Rattle.omega_model.specs.declared.entries.Entry.{Entry}
use Rattle.omega_copy.specs.Copies.{CopyOf, CopyState}
use Rattle.omega_copy.proofs.copy.PrivateCopy.seqs.Goals as goal

pub returns-clause-history : goal.returns-clause-history
returns-clause-history c =
    IfOk-weaker c.seqs_on.result
    (λ seqs. seqs.items ≡ map (λ (claim : Claim). seq_at c.self.inside.board.table claim.machine) c.args.claims.now)
    (λ seqs. (history : List Entry) → CopyOf c.args.self.now history → seqs.items ≡ copied_seqs history c.args.self.now.seen c.args.claims.now)
    (λ seqs told history stands.
    told ∙ ap (λ (s : CopyState). map (λ (claim : Claim). seq_at s.board.table claim.machine) c.args.claims.now) c.self.view_is
    ∙ numbers_alike c.args.self.now.board.table (take c.args.self.now.seen history) c.args.claims.now stands.numbers)
    c.seqs_on.ensures
