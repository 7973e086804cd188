use Rattle.std.proofs.Common.{◌≡◌, ◌∙◌, ℕ, List, Option, None, ap, length}
use Rattle.std.specs.Prelude.{max, unwrap_or}
use Rattle.std.proofs.lemmas.List.{length-replicate}
use Rattle.omega_laws.specs.Simulated.{until_after}
use Rattle.omega_laws.specs.VirtualTime.{Timed}
use Rattle.omega_model.specs.Policy.{schedulers}
use Rattle.omega_rounds.specs.InTime.{rows_time}
use Rattle.omega_rounds.proofs.InTime.{stands_begun}
use Rattle.omega_rounds.proofs.clock.play_round.Goals as goal

pub commit_all-requires : goal.commit_all-requires
commit_all-requires c =
    let agenda = c.in_ok-agenda.agenda in
    let count : length agenda ≡ schedulers c.args.world.now.stage.settings =
    ap (λ (times : List (Option ℕ)). length times) c.in_ok-agenda.ensures ∙ length-replicate c.schedulers.result None ∙ c.schedulers.ensures in
    let base = c.base_of-base.ensures ∙ ap (λ (times : List Timed). max (until_after 0 times) (unwrap_or (rows_time c.args.world.now.stage) 0)) c.as_slice.ensures in
    record {
      some = (
        c.requires.begins.0,
        c.in_ok-sync_all.ensures.synced c.requires.begins.0 c.args.times.now
            (stands_begun c.requires.begins.0 c.args.world.now agenda c.args.times.now c.base_of-base.result c.requires.begins.1 count base),
      );
    }

pub returns-clause-plays : goal.returns-clause-plays
returns-clause-plays c timed begins =
    let agenda = c.in_ok-agenda.agenda in
    let count : length agenda ≡ schedulers c.args.world.now.stage.settings =
    ap (λ (times : List (Option ℕ)). length times) c.in_ok-agenda.ensures ∙ length-replicate c.schedulers.result None ∙ c.schedulers.ensures in
    let base = c.base_of-base.ensures ∙ ap (λ (times : List Timed). max (until_after 0 times) (unwrap_or (rows_time c.args.world.now.stage) 0)) c.as_slice.ensures in
    c.in_ok-commit_all.ensures.ends timed
    (c.in_ok-sync_all.ensures.synced timed c.args.times.now
    (stands_begun timed c.args.world.now agenda c.args.times.now c.base_of-base.result begins count base))
