use Rattle.std.proofs.Common.{◌≡◌, ◌-◌, OnOk, ℕ, length, sym, ap, ap₂, ◌∙◌, subst}
use Rattle.omega_plan.specs.Indexes.{HaveRoom, places_missing}
use Rattle.omega_plan.proofs.GoingOn.{are_still}
use Rattle.omega_plan.proofs.indexes.Indexes.make_room.Goals as goal

pub returns-clause-kept : goal.returns-clause-kept
returns-clause-kept c = λ history are. are_still c.args.self.now c.reserve.new.self history c.reserve.ensures.seen are c.reserve.ensures.kept

pub returns-clause-places : goal.returns-clause-places
returns-clause-places c =
    let count : c.len.result ≡ length c.args.board.now.table = c.len.ensures.len ∙ ap length c.machines.ensures.table in
    let same : c.saturating_sub-more.result ≡ places_missing (length c.args.board.now.table) c.reserve.new.self =
    c.saturating_sub-more.ensures ∙ ap₂ (λ (a b : ℕ). a - b) count (c.len-2.ensures ∙ sym c.reserve.ensures.long) in
    subst (λ n. OnOk c.reserve.result (HaveRoom n c.reserve.new.self)) same c.reserve.ensures.room
