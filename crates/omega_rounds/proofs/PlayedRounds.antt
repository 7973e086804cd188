-- Rounds that are played one after the other.
use Rattle.std.proofs.Common.{◌≡◌, ◌<◌, ℕ, zero, suc, List, ◌++◌, length, take, refl, sym, ap, subst, arith, ◌∙◌, add-one}
use Rattle.std.proofs.lemmas.Option.{none-some}
use Rattle.omega_model.specs.Lawful.{RoundOf, rows_of}
use Rattle.omega_model.specs.Stepping.{BeginsRound}
use Rattle.omega_model.specs.Turns.{InTurns}
use Rattle.omega_model.specs.declared.entries.Entry.{Entry}
use Rattle.omega_model.specs.declared.rows.Round.{Round}
use Rattle.omega_model.specs.declared.rows.TraceTables.{TraceTables}
use Rattle.omega_rounds.specs.Going.{IsRoundOver, OpensRound, ReachesRound}
use Rattle.omega_rounds.specs.Playing.{BeginsTurn, IsAtStart, IsInSomeRun, IsRoundNow, PlaysRound}
use Rattle.omega_rounds.specs.Stages.{IsInRunOf, Stage, WorldState, next_stage, rows_begun, world_of}
use Rattle.omega_rounds.specs.Taking.{Taking}
use Rattle.omega_rounds.proofs.EndedRounds.{HasEnded, ended_more, ended_none}
use Rattle.omega_laws.proofs.Places.{take_next}
use Rattle.omega_rounds.proofs.Taking.{taking_first}
use Rattle.omega_sim.proofs.Arrived.{rows_of_push}

-- the rounds that have begun are over, and the schedulers took turns
pub record HasPlayed (start now : WorldState) : Type 0 where
  pub ended : HasEnded start now
  pub turns : 0 < now.stage.begun → InTurns now.history

-- none has begun
pub played_none : (world : WorldState) → world.stage.begun ≡ 0 → HasPlayed world world
played_none world none = record { ended = ended_none world none; turns = λ some. absurd (omega (arith, none, some)) }

-- the schedulers took turns, also where none has begun
pub turns_now : (start now : WorldState) → HasPlayed start now → (now.stage.begun ≡ 0 → IsAtStart now) → InTurns now.history
turns_now start now has begins = by now.stage.begun refl
  where
    by : (n : ℕ) → now.stage.begun ≡ n → InTurns now.history
    by zero none = subst InTurns (sym (begins none).empty) (λ place entry is. absurd (none-some entry is))
    by (suc n) some = has.turns (omega (arith, some))

-- the first turn of the next round begins
pub begins_turn : (now next : WorldState) (number : ℕ) → InTurns now.history → (reaches : ReachesRound now next number)
    → (trace : TraceTables) → IsInRunOf now.stage trace → OpensRound trace now next
    → BeginsTurn trace (rows_begun now.stage) now.history reaches.round next 0
begins_turn now next number turns reaches trace made opens =
    let round : Round = reaches.round in
    let begins : BeginsRound trace (rows_begun now.stage) round (world_of now) (world_of next) = opens.begins round reaches.next in
    let rows : rows_begun (next_stage now.stage (length next.history)) ≡ rows_begun now.stage ++ round.rows =
    ap (λ (n : ℕ). rows_of (take n now.stage.source.rounds)) (add-one now.stage.begun)
    ∙ ap rows_of (take_next now.stage.source.rounds now.stage.begun round reaches.next)
    ∙ rows_of_push (take now.stage.begun now.stage.source.rounds) round in
    record {
      now = subst (IsRoundNow trace (rows_begun now.stage) now.history round) (sym reaches.stage) (record {
        made = made;
        rows = rows;
        opened = ap (λ (h : List Entry). length h) begins.entries;
      });
      taking = subst (λ (s : Stage). Taking s.settings trace (rows_begun now.stage) now.history round next.history 0 0) (sym reaches.stage)
          (subst (λ (h : List Entry). Taking now.stage.settings trace (rows_begun now.stage) now.history round h 0 0) (sym begins.entries)
          (taking_first now.stage.settings trace (rows_begun now.stage) now.history round turns));
      nobody = begins.nobody;
    }

-- one more round is played
pub played_more : (start now next after : WorldState) (number : ℕ) → HasPlayed start now → (now.stage.begun ≡ 0 → IsAtStart now) → IsInSomeRun now.stage → ReachesRound now next number
    → ((trace : TraceTables) → IsInRunOf now.stage trace → OpensRound trace now next)
    → after.stage ≡ next.stage → PlaysRound next after
    → HasPlayed start after
played_more start now next after number has begins made reaches opens stage plays =
    let there : after.stage ≡ next_stage now.stage (length next.history) = stage ∙ reaches.stage in
    let played : (trace : TraceTables) → IsInRunOf now.stage trace
    → InTurns after.history × (IsRoundOver trace after × RoundOf after.stage.settings trace (rows_begun now.stage) now.history reaches.round after.history) =
    λ trace made. plays trace (rows_begun now.stage) now.history reaches.round (begins_turn now next number (turns_now start now has begins) reaches trace made (opens trace made)) in
    record {
      ended = ended_more start now next after number has.ended reaches stage
          (λ trace made. (played trace (subst (λ (s : Stage). IsInRunOf s trace) there made)).1.0);
      turns = λ some. (played made.0 made.1).0;
    }
