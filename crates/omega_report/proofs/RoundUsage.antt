-- The usage of what is ahead, where a round ends.
use Rattle.std.proofs.Common.{◌≡◌, List, [], ◌∷◌, slice_get, Option, refl, sym, ap, ◌∙◌, unwrap_or}
use Rattle.std.specs.Prelude.{IsTrue}
use Rattle.std.proofs.lemmas.Bool.{both_ways}
use Rattle.omega_cell.specs.Effects.{usage_in}
use Rattle.omega_cell.specs.declared.effects.Usage.{Usage}
use Rattle.omega_model.specs.Cell.{Cell}
use Rattle.omega_model.specs.ReportLines.{is_round_end}
use Rattle.omega_model.specs.declared.entries.Entry.{Entry}
use Rattle.omega_model.specs.declared.entries.Entry.TheVariants.{Round, MachineAdd, MachineUpdate, MachineRemove, AttrSet, AttrDelete, End, Commit}
use Rattle.omega_report.specs.Noted.{IsAhead}
use Rattle.omega_report.specs.declared.ahead.Ahead.{Ahead}

-- where a round ends there is a usage ahead, or no entry
first_usage : (cell : Cell) (later : List Entry) (ahead : Ahead) → IsAhead cell later ahead → IsTrue (is_round_end (slice_get later 0))
    → unwrap_or (slice_get ahead.usages.now 0) ahead.last ≡ usage_in cell
first_usage cell [] ahead known ends = ap (λ (us : List Usage). unwrap_or (slice_get us 0) ahead.last) known.usages ∙ known.last
first_usage cell (Round number ∷ later) ahead known ends = ap (λ (us : List Usage). unwrap_or (slice_get us 0) ahead.last) known.usages
first_usage cell (MachineAdd machine cap ∷ later) ahead known ends = absurd (both_ways _ refl ends)
first_usage cell (MachineUpdate machine cap ∷ later) ahead known ends = absurd (both_ways _ refl ends)
first_usage cell (MachineRemove machine ∷ later) ahead known ends = absurd (both_ways _ refl ends)
first_usage cell (AttrSet machine name value ∷ later) ahead known ends = absurd (both_ways _ refl ends)
first_usage cell (AttrDelete machine name ∷ later) ahead known ends = absurd (both_ways _ refl ends)
first_usage cell (End key machine ∷ later) ahead known ends = absurd (both_ways _ refl ends)
first_usage cell (Commit scheduler seen txn reply ∷ later) ahead known ends = absurd (both_ways _ refl ends)

-- the first usage that is noted, or the last one where none is
pub usage_ahead : (first : Option Usage) (given : Usage) (ahead : Ahead) → first ≡ slice_get ahead.usages.now 0 → unwrap_or first ahead.last ≡ given
    → (cell : Cell) (later : List Entry) → IsAhead cell later ahead → IsTrue (is_round_end (slice_get later 0)) → given ≡ usage_in cell
usage_ahead first given ahead is same cell later known ends =
    sym same ∙ ap (λ (o : Option Usage). unwrap_or o ahead.last) is ∙ first_usage cell later ahead known ends
