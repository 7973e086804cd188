use Rattle.std.proofs.Common.{◌≡◌, List, take, refl, sym, ap, ap₂, ◌∙◌, subst}
use Rattle.omega_model.specs.Cell.{keys_of, use_on, without}
use Rattle.omega_model.specs.Need.{Fits}
use Rattle.omega_model.specs.State.{ranked_on}
use Rattle.omega_model.specs.declared.cells.Need.{Need}
use Rattle.omega_model.specs.declared.cells.Task.{Task}
use Rattle.omega_model.specs.declared.cells.TaskKey.{TaskKey}
use Rattle.omega_board.specs.Board.{BoardState}
use Rattle.omega_board.proofs.Boards.{at_now}
use Rattle.omega_board.proofs.Claims.{without_none}
use Rattle.omega_board.proofs.Ranks.{excess_fits, excess_no_keys, excess_keys}
use Rattle.omega_board.proofs.board.Board.excess.Goals as goal

pub returns-then-fits-clause-names : goal.returns-then-fits-clause-names
returns-then-fits-clause-names c =
    c.new.ensures ∙ excess_no_keys c.args.self.now.tasks c.args.machine c.args.cap c.use_on-used.result c.use_on-used.ensures (c.if-fits.ensures.0 refl)

pub returns-then-fits-clause-fits : goal.returns-then-fits-clause-fits
returns-then-fits-clause-fits c =
    let tasks = c.args.self.now.tasks in
    let all : without c.new.result tasks ≡ tasks = ap (λ keys. without keys tasks) c.new.ensures ∙ without_none tasks in
    subst (λ (ts : List Task). Fits (use_on ts c.args.machine) c.args.cap) (sym all)
    (subst (λ (used : Need). Fits used c.args.cap) c.use_on-used.ensures (c.if-fits.ensures.0 refl))

pub excess_len-count-requires-clause-ordered : goal.excess_len-count-requires-clause-ordered
excess_len-count-requires-clause-ordered c = (at_now _ _ c.self.view_is c.self.invariant).ordered

pub returns-clause-names : goal.returns-clause-names
returns-clause-names c =
    let names = c.in_ok-ranked.ensures ∙ ap (λ (b : BoardState). keys_of (ranked_on c.args.machine b.tasks)) c.self.view_is in
    c.of.ensures ∙ c.in_ok-from_slice.ensures.items
    ∙ ap₂ (λ n (keys : List TaskKey). take n keys) c.excess_len-count.ensures.count (c.as_slice-2.ensures ∙ names)
    ∙ excess_keys c.args.cap (ranked_on c.args.machine c.args.self.now.tasks)

pub returns-clause-fits : goal.returns-clause-fits
returns-clause-fits c =
    subst (λ (keys : List TaskKey). Fits (use_on (without keys c.args.self.now.tasks) c.args.machine) c.args.cap) (sym (returns-clause-names c))
    (excess_fits c.args.self.now.tasks c.args.machine c.args.cap (at_now _ _ c.self.view_is c.self.invariant).ordered)
