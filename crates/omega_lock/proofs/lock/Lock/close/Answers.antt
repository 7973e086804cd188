use Rattle.std.proofs.Common.{◌≡◌, false, length}
use Rattle.omega_lock.specs.Lists.{StartsWith, entries_since}
use Rattle.omega_lock.specs.Views.{lists}
use Rattle.omega_lock.proofs.Closing.{all_before, all_seats, all_pairs, known_seats}
use Rattle.omega_lock.proofs.lock.Lock.close.Goals as goal

pub gather-all-requires-clause-of : goal.gather-all-requires-clause-of
gather-all-requires-clause-of g c = all_before (λ s. s.of ≡ c.args.self.of) c.args.seats.items c.pop.new.self.items c.in-Some.first c.in-Some.ensures.items c.requires.of

pub gather-all-requires-clause-free : goal.gather-all-requires-clause-free
gather-all-requires-clause-free g c = all_before (λ s. s.holds ≡ false) c.args.seats.items c.pop.new.self.items c.in-Some.first c.in-Some.ensures.items c.requires.free

pub returns-clause-seen : goal.returns-clause-seen
returns-clause-seen g c = all_seats c.gather-all.result.me.0 (λ s. StartsWith (g.T.Counted.entries c.end.result) s.seen) c.args.seats.items c.pop.new.self.items c.in-Some.first (λ s h. (c.end.ensures.each s h).0) c.in-Some.ensures.items c.gather-all.ensures.has

pub returns-clause-own : goal.returns-clause-own
returns-clause-own g c = all_seats c.gather-all.result.me.0 (λ s. s.own ≡ entries_since g.T.Counted.number (length c.args.self.first) s.number (g.T.Counted.entries c.end.result)) c.args.seats.items c.pop.new.self.items c.in-Some.first (λ s h. (c.end.ensures.each s h).2) c.in-Some.ensures.items c.gather-all.ensures.has

pub returns-clause-given : goal.returns-clause-given
returns-clause-given g c = known_seats g.T.Counted.number (lists c.gather-all.result.me.0) c.args.seats.items _ (all_pairs (lists c.gather-all.result.me.0) c.args.seats.items c.pop.new.self.items c.in-Some.first c.gather-all.ensures.pairs c.in-Some.ensures.items) c.end.ensures.known

pub returns-clause-first : goal.returns-clause-first
returns-clause-first g c = all_seats c.gather-all.result.me.0 (λ s. s.first_length ≡ length c.args.self.first) c.args.seats.items c.pop.new.self.items c.in-Some.first (λ s h. (c.end.ensures.each s h).1) c.in-Some.ensures.items c.gather-all.ensures.has
