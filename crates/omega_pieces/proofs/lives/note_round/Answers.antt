use Rattle.std.proofs.Common.{◌≡◌, ◌+◌, ◌++◌, ◌∷◌, [], List, add-one, ap, subst, sym, take, ◌∙◌}
use Rattle.omega_free_laws.proofs.Stretches.{rows_of_push}
use Rattle.omega_laws.proofs.Places.{take_next}
use Rattle.omega_model.specs.Lawful.{rows_of}
use Rattle.omega_model.specs.declared.rows.Round.{Round}
use Rattle.omega_model.specs.declared.rows.Row.{Row}
use Rattle.omega_pieces.specs.HowFar.{KeepsLives}
use Rattle.omega_pieces.proofs.lives.note_round.Goals as goal

pub returns : goal.returns
returns c keeps =
    let round : Round = c.in-Some.round in
    let before : List Round = take c.args.place c.args.rounds.now in
    let next : take (c.args.place + 1) c.args.rounds.now ≡ before ++ round ∷ [] =
    ap (λ n. take n c.args.rounds.now) (add-one c.args.place) ∙ take_next c.args.rounds.now c.args.place round (sym c.in_ok-round.ensures ∙ c.in-Some.is) in
    let rows : rows_of before ++ c.as_slice.result.now ≡ rows_of (take (c.args.place + 1) c.args.rounds.now) =
    ap (λ (rows : List Row). rows_of before ++ rows) c.as_slice.ensures ∙ sym (rows_of_push before round) ∙ ap rows_of (sym next) in
    subst (λ (rows : List Row). KeepsLives rows c.note_rows.new.by_task c.note_rows.new.lives) rows (c.in_ok-note_rows.ensures (rows_of before) keeps)
