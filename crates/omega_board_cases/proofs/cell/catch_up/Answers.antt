use Rattle.std.proofs.Common.{length, sym, subst}
use Rattle.omega_model.specs.Copy.{Carries}
use Rattle.omega_copy.proofs.Follows.{may_catch_up}
use Rattle.omega_board_cases.proofs.cell.catch_up.Goals as goal

pub catch_up-requires : goal.catch_up-requires
catch_up-requires c =
    let history = c.args.cell.now.history in
    let carries : Carries c.in_ok-delta.delta history c.args.copy.now.seen (length history) = subst (λ n. Carries c.in_ok-delta.delta history n (length history)) c.seen.ensures c.in_ok-delta.ensures.carries in
    record { history = may_catch_up c.args.copy.now c.in_ok-delta.delta history c.requires.stands carries c.in_ok-delta.ensures.applied }

pub returns : goal.returns
returns c =
    let history = c.args.cell.now.history in
    let carries : Carries c.in_ok-delta.delta history c.args.copy.now.seen (length history) = subst (λ n. Carries c.in_ok-delta.delta history n (length history)) c.seen.ensures c.in_ok-delta.ensures.carries in
    record { stands = c.in_ok-catch_up.ensures.stands history c.requires.stands (subst (λ n. Carries c.in_ok-delta.delta history c.args.copy.now.seen n) (sym carries.ends) carries) c.in_ok-delta.ensures.applied }
