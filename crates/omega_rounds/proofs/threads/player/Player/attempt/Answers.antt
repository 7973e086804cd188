use Rattle.std.proofs.Common.{◌<◌, ◌∙◌, subst}
use Rattle.omega_desk.specs.Desks.{DeskState, left_at}
use Rattle.omega_workers.specs.AttemptsLeft.{attempts_left}
use Rattle.omega_workers.specs.Workers.{to_do_of}
use Rattle.omega_rounds.proofs.PlayingOn.{may_play_after, one_turn, plays_on_both, synced_now}
use Rattle.omega_rounds.proofs.threads.player.Player.attempt.Goals as goal

pub sync-requires-clause-left : goal.sync-requires-clause-left
sync-requires-clause-left g c = one_turn c.args.shared.now.of c.args.self.now c.requires.may_play c.requires.work

pub returns-in_err-sync-clause-plays_on : goal.returns-in_err-sync-clause-plays_on
returns-in_err-sync-clause-plays_on g c = c.sync.ensures.plays_on

pub returns-in_err-sync-clause-failed : goal.returns-in_err-sync-clause-failed
returns-in_err-sync-clause-failed g c = c.sync.ensures.failed

pub commit-requires-clause-synced : goal.commit-requires-clause-synced
commit-requires-clause-synced g c =
    synced_now c.args.shared.now.of c.args.self.now c.requires.may_play c.requires.work c.sync.new.self c.sync.ensures.plays_on c.sync.ensures.turn
    c.sync.ensures.desk c.in_ok-sync.ensures.all

pub commit-requires-clause-plan : goal.commit-requires-clause-plan
commit-requires-clause-plan g c = c.in_ok-sync.ensures.plan

pub commit-requires-clause-short : goal.commit-requires-clause-short
commit-requires-clause-short g c = c.in_ok-sync.ensures.short

pub returns-in_err-commit-clause-plays_on : goal.returns-in_err-commit-clause-plays_on
returns-in_err-commit-clause-plays_on g c =
    plays_on_both c.args.self.now c.sync.new.self c.commit.new.self c.sync.ensures.plays_on c.commit.ensures.plays_on

pub returns-in_err-commit-clause-failed : goal.returns-in_err-commit-clause-failed
returns-in_err-commit-clause-failed g c = c.commit.ensures.failed ∙ c.sync.ensures.failed

pub returns-clause-plays_on : goal.returns-clause-plays_on
returns-clause-plays_on g c =
    plays_on_both c.args.self.now c.sync.new.self c.commit.new.self c.sync.ensures.plays_on c.commit.ensures.plays_on

pub returns-clause-may_play : goal.returns-clause-may_play
returns-clause-may_play g c =
    may_play_after c.args.shared.now.of c.args.self.now c.sync.new.self c.commit.new.self c.requires.may_play
    (plays_on_both c.args.self.now c.sync.new.self c.commit.new.self c.sync.ensures.plays_on c.commit.ensures.plays_on)
    c.sync.ensures.turn c.sync.ensures.desk c.commit.ensures.turn c.in_ok-commit.ensures.fewer

pub returns-clause-fewer : goal.returns-clause-fewer
returns-clause-fewer g c =
    subst (λ (d : DeskState). to_do_of c.commit.new.self.worker < attempts_left d.settings (left_at d)) c.sync.ensures.desk c.in_ok-commit.ensures.fewer

pub returns-clause-spent : goal.returns-clause-spent
returns-clause-spent g c = c.in_ok-commit.ensures.spent

pub returns-clause-failed : goal.returns-clause-failed
returns-clause-failed g c = c.commit.ensures.failed ∙ c.sync.ensures.failed
