use Rattle.std.proofs.Common.{◌≡◌, ◌∙◌, ap, sym, length}
use Rattle.std.proofs.lemmas.List.Elements.{All-weaker}
use Rattle.omega_lock.specs.Lists.{StartsWith}
use Rattle.omega_shared.specs.Held.{held_history}
use Rattle.omega_shared.specs.Passes.{PassState}
use Rattle.omega_shared.proofs.Closing.{commits_of_passes, no_others, of_passes, of_seats, own_commits}
use Rattle.omega_shared.proofs.shared.SharedCell.closed.Goals as goal

pub close-requires-clause-of : goal.close-requires-clause-of
close-requires-clause-of c =
    of_seats c.seats_of.result.items c.args.passes.items c.seats_of.ensures.passes (λ pass. pass.of ≡ c.self.inside.lock.of)
    (All-weaker (λ (pass : PassState). pass.of ≡ c.args.self.of) (λ pass. pass.of ≡ c.self.inside.lock.of)
    (λ pass same. same ∙ sym (ap (λ s. s.of) c.self.view_is)) c.args.passes.items c.requires.of)

pub returns-clause-seen : goal.returns-clause-seen
returns-clause-seen c =
    of_passes c.seats_of.result.items c.args.passes.items c.seats_of.ensures.passes (λ pass. StartsWith (held_history c.close.result) pass.seen)
    c.close.ensures.seen

pub returns-clause-own : goal.returns-clause-own
returns-clause-own c =
    rw (← c.self.view_is)
    (own_commits c.seats_of.result.items c.args.passes.items c.seats_of.ensures.passes (length c.self.inside.lock.first) (held_history c.close.result)
    c.close.ensures.own)

pub returns-clause-commits : goal.returns-clause-commits
returns-clause-commits c =
    rw (← c.self.view_is)
    (commits_of_passes c.seats_of.result.items c.args.passes.items c.seats_of.ensures.passes (length c.self.inside.lock.first) (held_history c.close.result)
    c.close.ensures.given)

pub returns-clause-others : goal.returns-clause-others
returns-clause-others c =
    no_others c.seats_of.result.items c.args.passes.items c.seats_of.ensures.passes (length c.self.inside.lock.first) (held_history c.close.result)
    c.seats_of.ensures.seats c.close.ensures.seen c.close.ensures.own c.close.ensures.first

pub returns-clause-first : goal.returns-clause-first
returns-clause-first c =
    rw (← c.self.view_is)
    (of_passes c.seats_of.result.items c.args.passes.items c.seats_of.ensures.passes (λ pass. pass.first_length ≡ length c.self.inside.lock.first)
    c.close.ensures.first)
