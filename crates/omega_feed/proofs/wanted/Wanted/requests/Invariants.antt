use Rattle.std.proofs.Common.{◌≡◌, ◌++◌}
use Rattle.std.specs.List.{filter_map}
use Rattle.omega_board.specs.Board.{cell_of}
use Rattle.omega_feed.specs.Index.{place_request}
use Rattle.omega_feed.proofs.wanted.Wanted.requests.Given as goal

abbrev pub invariant-loop-place : goal.invariant-loop-place
invariant-loop-place l =
    l.requests ++ filter_map (place_request l.self (cell_of l.board) l.scheduler) l.place-iterator
    ≡ filter_map (place_request l.self (cell_of l.board) l.scheduler) l.initial.place-iterator
