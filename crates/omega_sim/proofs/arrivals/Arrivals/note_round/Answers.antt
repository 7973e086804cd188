use Rattle.std.proofs.Common.{add-one, ◌≡◌, ◌+◌, ◌<◌, ◌^◌, ◌++◌, ◌∷◌, [], List, ap, subst, sym, take, ◌∙◌}
use Rattle.std.specs.Prelude.{All}
use Rattle.std.proofs.lemmas.List.Elements.{All-append}
use Rattle.omega_model.specs.Feed.{time_of}
use Rattle.omega_model.specs.Lawful.{rows_of}
use Rattle.omega_model.specs.declared.rows.Round.{Round}
use Rattle.omega_model.specs.declared.rows.Row.{Row}
use Rattle.omega_laws.specs.Simulated.{greatest_time}
use Rattle.omega_sim.specs.Arriving.{Arrive, row_times, with_row_time}
use Rattle.omega_laws.proofs.Places.{take_next}
use Rattle.omega_sim.proofs.Arrived.{row_times_push, rows_of_push}
use Rattle.omega_sim.proofs.arrivals.Arrivals.note_round.Goals as goal

pub returns-clause-arrivals : goal.returns-clause-arrivals
returns-clause-arrivals c =
    let round : Round = c.in-Some.round in
    let before : List Round = take c.args.place c.args.rounds.now in
    let next : take (c.args.place + 1) c.args.rounds.now ≡ before ++ round ∷ [] =
    ap (λ n. take n c.args.rounds.now) (add-one c.args.place) ∙ take_next c.args.rounds.now c.args.place round (sym c.in_ok-round.ensures ∙ c.in-Some.is) in
    let rows : rows_of before ++ c.as_slice.result.now ≡ rows_of (take (c.args.place + 1) c.args.rounds.now) =
    ap (λ (rows : List Row). rows_of before ++ rows) c.as_slice.ensures ∙ sym (rows_of_push before round) ∙ ap rows_of (sym next) in
    record {
      came = subst (λ (rows : List Row). Arrive rows c.note_rows.new.first_times) rows
          (c.in_ok-note_rows.ensures.arrive (rows_of before) c.requires.arrivals.came);
      timed = c.with_row_time-self.ensures
          ∙ ap (with_row_time c.args.self.now.row_times) (c.greatest_time.ensures ∙ ap greatest_time c.as_slice-2.ensures)
          ∙ ap (λ b. with_row_time b (greatest_time round.rows)) c.requires.arrivals.timed
          ∙ sym (row_times_push before round)
          ∙ ap row_times (sym next);
    }

pub returns-clause-early : goal.returns-clause-early
returns-clause-early c =
    let round : Round = c.in-Some.round in
    let before : List Round = take c.args.place c.args.rounds.now in
    let next : take (c.args.place + 1) c.args.rounds.now ≡ before ++ round ∷ [] =
    ap (λ n. take n c.args.rounds.now) (add-one c.args.place) ∙ take_next c.args.rounds.now c.args.place round (sym c.in_ok-round.ensures ∙ c.in-Some.is) in
    let rows : rows_of before ++ c.as_slice.result.now ≡ rows_of (take (c.args.place + 1) c.args.rounds.now) =
    ap (λ (rows : List Row). rows_of before ++ rows) c.as_slice.ensures ∙ sym (rows_of_push before round) ∙ ap rows_of (sym next) in
    subst (All (λ row. time_of row < 2 ^ 64)) rows
    (All-append (λ row. time_of row < 2 ^ 64) (rows_of before) c.as_slice.result.now c.requires.early c.in_ok-note_rows.ensures.early)
