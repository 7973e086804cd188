use Rattle.std.proofs.Common.{arith, ◌≤◌, ◌∙◌, sym, length, drop}
use Rattle.std.proofs.lemmas.List.{take_rest}
use Rattle.omega_io.proofs.Pieces.{handed}
use Rattle.omega_io.proofs.unread.Unread.hand_over.Goals as goal

pub returns-clause-hands : goal.returns-clause-hands
returns-clause-hands c =
    let whole = take_rest c.self.inside.bytes c.self.inside.taken in
    let copied = rw (c.as_slice.ensures, whole) at c.copy_from_slice.ensures.after in
    let least = rw (c.as_slice.ensures, whole) at c.min.ensures in
    let fits : c.min-count.result ≤ length (drop c.self.inside.taken c.self.inside.bytes) = omega (arith, least) in
    sym c.self.view_is ∙ handed c.self.inside.bytes c.args.piece.now c.copy_from_slice.new.self c.self.inside.taken c.min-count.result copied fits
