use Rattle.std.proofs.Common.{◌≡◌, ℕ, ◌++◌, sym, ap, ◌∙◌, append-nil}
use Rattle.std.specs.BTreeSet.{BTreeSet}
use Rattle.std.specs.List.{filter_map}
use Rattle.omega_board.specs.Board.{cell_of}
use Rattle.omega_model.specs.Cell.{Cell}
use Rattle.omega_feed.specs.Asked.{Asked, asked_requests}
use Rattle.omega_feed.specs.Index.{place_request}
use Rattle.omega_feed.proofs.AskedAfter.{asked_open}
use Rattle.omega_feed.proofs.Picked.{picked_requests}
use Rattle.omega_feed.proofs.wanted.Wanted.requests.Goals as goal

pub returns-clause-requests : goal.returns-clause-requests
returns-clause-requests c settings trace rows asked =
    let cell : Cell = cell_of c.args.board.now in
    let scheduler = c.args.scheduler in
    let places : BTreeSet ℕ = c.places.result.now in
    let walked : c.into_iter-place-iterator.result ≡ places.keys =
    c.into_iter-place-iterator.ensures.into_iter_gives ∙ c.iter-place-items.ensures.rest in
    sym (append-nil c.loop-place.requests)
    ∙ ap (λ z. c.loop-place.requests ++ filter_map (place_request c.args.self.now cell scheduler) z) (sym c.in-None.ensures.steps.0)
    ∙ c.loop-place.invariant
    ∙ ap (filter_map (place_request c.args.self.now cell scheduler)) walked
    ∙ picked_requests c.args.open_jobs.now c.args.self.now cell scheduler places c.requires.quiet c.places.ensures c.iter-place-items.ensures.ordered
    ∙ ap (λ (asks : Asked). asked_requests asks cell scheduler) asked
    ∙ asked_open settings trace rows cell scheduler
