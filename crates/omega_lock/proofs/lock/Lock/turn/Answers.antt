use Rattle.std.proofs.Common.{rules, ◌∙◌, ap, sym, ◌∷◌, Some}
use Rattle.atomic_table.specs.Table.{rest}
use Rattle.omega_lock.proofs.Drawing.{draw_keeps}
use Rattle.omega_lock.proofs.Reading.{read_keeps}
use Rattle.omega_lock.proofs.lock.Lock.turn.Goals as goal

pub fetch_add-ticket-requires : goal.fetch_add-ticket-requires
fetch_add-ticket-requires g c =
    let i = c.seat.invariant in
    let free = ap (λ s. s.holds) c.seat.view_is ∙ c.requires.free in (
      search rules,
      search rules,
      draw_keeps g.T.Counted.entries g.T.Counted.number _ _ _ _ c.self.invariant.few_turns i.0.has_number (i.0.has_ticket ∙ free) free (rw (ap (λ s. s.turns) c.seat.view_is) c.requires.left),
    )

pub load-seat-inside-requires : goal.load-seat-inside-requires
load-seat-inside-requires g c =
    let drew = c.fetch_add-ticket.ensures.2.0 in
    let now = c.wait.ensures.turn.1 in (
      search rules,
      search rules,
      read_keeps g.T.Counted.entries g.T.Counted.number _ _ _ _ (ap (λ m. m.0.has_number) now ∙ ap (λ v. v.has_number) drew ∙ c.seat.invariant.0.has_number) (ap (λ m. m.0.holds) now),
    )

pub exchange-requires : goal.exchange-requires
exchange-requires g c =
    let y = c.wait.ensures.turn.0 in
    let now = ap (λ m. m.1) c.load-seat-inside.ensures.2.0 ∙ ap (λ m. m.1) c.wait.ensures.turn.1 in
    (search rules, (Some y, now ∙ ap (λ xs. (0, Some y) ∷ rest xs) (sym now)))
