use Rattle.std.proofs.Common.{sym, ◌∙◌, arith}
use Rattle.omega_lock.specs.Lists.{StartsWith}
use Rattle.omega_lock.proofs.Entries.{starts_length}
use Rattle.omega_shared.specs.Held.{held_history}
use Rattle.omega_shared.proofs.Standing.{seqs_later}
use Rattle.omega_shared.proofs.Turning.{adds_at_most_one, adds_goes_on, commits_after, extends_seen, is_pass_seat, sees_others_after}
use Rattle.omega_shared.proofs.shared.SharedCell.append.Goals as goal

pub commit-held-requires : goal.commit-held-requires
commit-held-requires g c =
    let turn = c.turn-held.ensures in
    let on : StartsWith (held_history c.turn-held.result) c.args.seat.now.seen = (turn.extends.0, sym turn.seen ∙ turn.extends.1) in
    record {
      few = c.requires.planned.few;
      seen =
          (let longer = starts_length (held_history c.turn-held.result) c.args.seat.now.seen on in
          let seen = c.requires.planned.seen in
          omega (arith, longer, seen));
      seqs = seqs_later c.args.planned.seqs (λ v. v.items) c.args.planned.seen c.args.seat.now.seen (held_history c.turn-held.result) c.args.planned.txn.claims
          c.requires.planned.seen on c.requires.planned.seqs;
    }

pub returns-clause-pass : goal.returns-clause-pass
returns-clause-pass g c =
    let turn = c.turn-held.ensures in
    let back = c.release.ensures in
    is_pass_seat c.args.seat.now c.turn-held.new.seat c.release.new.seat (held_history c.turn-held.result) (held_history c.commit-held.result.0) c.requires.pass
    record { same = turn.seat; seen = turn.seen; extends = turn.extends; own = turn.own; own_seen = turn.own_seen }
    record { same = back.seat; free = back.free; seen = back.seen; own_seen = back.own_seen }
    (adds_goes_on c.turn-held.new.seat.number (held_history c.turn-held.result) (held_history c.commit-held.result.0)
    (adds_at_most_one c.turn-held.new.seat.number c.number.result c.args.planned.seen (held_history c.turn-held.result) (held_history c.commit-held.result.0) c.args.planned.txn c.commit-held.result.1 c.number.ensures.number
    c.commit-held.ensures.history c.commit-held.ensures.err))

pub returns-clause-extends : goal.returns-clause-extends
returns-clause-extends g c =
    let turn = c.turn-held.ensures in
    let back = c.release.ensures in
    extends_seen c.args.seat.now c.turn-held.new.seat c.release.new.seat (held_history c.turn-held.result) (held_history c.commit-held.result.0)
    record { same = turn.seat; seen = turn.seen; extends = turn.extends; own = turn.own; own_seen = turn.own_seen }
    record { same = back.seat; free = back.free; seen = back.seen; own_seen = back.own_seen }
    (adds_goes_on c.turn-held.new.seat.number (held_history c.turn-held.result) (held_history c.commit-held.result.0)
    (adds_at_most_one c.turn-held.new.seat.number c.number.result c.args.planned.seen (held_history c.turn-held.result) (held_history c.commit-held.result.0) c.args.planned.txn c.commit-held.result.1 c.number.ensures.number
    c.commit-held.ensures.history c.commit-held.ensures.err))

pub returns-clause-commits : goal.returns-clause-commits
returns-clause-commits g c =
    let turn = c.turn-held.ensures in
    let back = c.release.ensures in
    commits_after c.args.seat.now c.turn-held.new.seat c.release.new.seat (held_history c.turn-held.result) (held_history c.commit-held.result.0) c.number.result c.args.planned.seen c.args.planned.txn c.commit-held.result.1 (c.number.ensures.number ∙ turn.seat.number)
    c.commit-held.ensures.history c.commit-held.ensures.answers c.requires.pass
    record { same = turn.seat; seen = turn.seen; extends = turn.extends; own = turn.own; own_seen = turn.own_seen }
    record { same = back.seat; free = back.free; seen = back.seen; own_seen = back.own_seen }
    back.more

pub returns-clause-seen : goal.returns-clause-seen
returns-clause-seen g c =
    let turn = c.turn-held.ensures in
    let back = c.release.ensures in
    sees_others_after c.args.seat.now c.turn-held.new.seat c.release.new.seat (held_history c.turn-held.result) (held_history c.commit-held.result.0) c.commit-held.result.1 c.commit-held.ensures.err c.requires.pass
    record { same = turn.seat; seen = turn.seen; extends = turn.extends; own = turn.own; own_seen = turn.own_seen }
    record { same = back.seat; free = back.free; seen = back.seen; own_seen = back.own_seen }
