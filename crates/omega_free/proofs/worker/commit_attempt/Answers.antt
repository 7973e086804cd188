use Rattle.std.proofs.Common.{◌≡◌, ap, length, arith}
use Rattle.omega_model.proofs.Fewer.{filter_fewer}
use Rattle.omega_model.specs.declared.claims.Claim.{Claim}
use Rattle.omega_free_laws.specs.StillWanted.{is_still_wanted}
use Rattle.omega_free.specs.KeptAttempts.{KeptAttempt}
use Rattle.omega_free.proofs.worker.commit_attempt.Goals as goal

pub reserve-requires : goal.reserve-requires
reserve-requires c =
    let fewer = filter_fewer (λ (claim : Claim). is_still_wanted c.args.wanted.now.tasks claim.key) c.attempt.inside.claims in
    let kept : length c.kept_claims.result ≡ length _ = ap length c.kept_claims.ensures in
    let same : length c.attempt.inside.claims ≡ length c.args.attempt.attempt.claims = ap (λ (kept : KeptAttempt). length kept.attempt.claims) c.attempt.view_is in
    let few = c.requires.kept.beside.few in
    omega (arith, fewer, kept, same, few)
