use Rattle.std.proofs.Common.{◌≡◌, List, Bool, true, sym, subst}
use Rattle.omega_feed.specs.Marks.{is_marked}
use Rattle.omega_feed.proofs.Marking.{marked_longer}
use Rattle.omega_feed.proofs.marks.Marks.make.Goals as goal

pub returns-in_ok-resize-clause-others : goal.returns-in_ok-resize-clause-others
returns-in_ok-resize-clause-others c other is =
    subst (λ (marks : List Bool). is_marked marks other ≡ true) (sym c.in_ok-resize.ensures.items)
    (marked_longer c.self.inside.marks.items _ other (subst (λ (marks : List Bool). is_marked marks other ≡ true) (sym c.self.view_is) is))
