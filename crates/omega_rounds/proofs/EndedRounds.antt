-- Rounds that are worked to their end one after the other.
use Rattle.std.proofs.Common.{◌≡◌, ◌<◌, ◌-◌, ℕ, zero, suc, length, refl, sym, ap, subst, arith, ◌∙◌}
use Rattle.std.proofs.lemmas.Option.{slice_get_within}
use Rattle.omega_model.specs.World.{NobodySynced}
use Rattle.omega_model.specs.declared.rows.TraceTables.{TraceTables}
use Rattle.omega_model.specs.declared.settings.Settings.{Settings}
use Rattle.omega_rounds.specs.Closed.{IsDone}
use Rattle.omega_rounds.specs.Going.{IsFirstAtWork, OpensRound, ReachesRound}
use Rattle.omega_rounds.specs.Playing.{IsAtStart, IsInSomeRun}
use Rattle.omega_rounds.specs.Stages.{IsInRunOf, Stage, WorldState, next_stage, rows_begun, source_of, world_of}
use Rattle.omega_laws.proofs.Agreeing.{works_or_idle}

-- the rounds that have begun are over, in the run in which the world was at the start
pub record HasEnded (start now : WorldState) : Type 0 where
  pub settings : now.stage.settings ≡ start.stage.settings
  pub source : now.stage.source ≡ start.stage.source
  pub done : 0 < now.stage.begun → IsDone now

-- none has begun
pub ended_none : (world : WorldState) → world.stage.begun ≡ 0 → HasEnded world world
ended_none world none = record { settings = refl; source = refl; done = λ some. absurd (omega (arith, none, some)) }

-- nobody has work once they are over, nor before the first of them
pub is_done : (start now : WorldState) → HasEnded start now → (now.stage.begun ≡ 0 → IsAtStart now) → IsDone now
is_done start now has begins = by now.stage.begun refl
  where
    by : (n : ℕ) → now.stage.begun ≡ n → IsDone now
    by zero none = (begins none).idle
    by (suc n) some = has.done (omega (arith, some))

-- one more round is over
pub ended_more : (start now next after : WorldState) (number : ℕ) → HasEnded start now → ReachesRound now next number
    → after.stage ≡ next.stage → IsDone after → HasEnded start after
ended_more start now next after number has reaches stage done =
    let there : after.stage ≡ next_stage now.stage (length next.history) = stage ∙ reaches.stage in
    record {
      settings = ap (λ (s : Stage). s.settings) there ∙ has.settings;
      source = ap (λ (s : Stage). s.source) there ∙ has.source;
      done = λ some. done;
    }

-- some round has begun
pub begun_some : (now next : WorldState) (number : ℕ) → ReachesRound now next number → 0 < next.stage.begun
begun_some now next number reaches = subst (λ (s : Stage). 0 < s.begun) (sym reaches.stage) (omega arith)

-- and nobody has synced in it
pub nobody_begun : (now next : WorldState) (number : ℕ) → IsInSomeRun now.stage → ReachesRound now next number
    → ((trace : TraceTables) → IsInRunOf now.stage trace → OpensRound trace now next) → NobodySynced (world_of next)
nobody_begun now next number made reaches opens = ((opens made.0 made.1).begins reaches.round reaches.next).nobody

-- fewer rounds remain
pub fewer_rounds : (now next after : WorldState) (number : ℕ) → ReachesRound now next number → after.stage ≡ next.stage
    → length after.stage.source.rounds - after.stage.begun < length now.stage.source.rounds - now.stage.begun
fewer_rounds now next after number reaches stage =
    let there : after.stage ≡ next_stage now.stage (length next.history) = stage ∙ reaches.stage in
    let below : now.stage.begun < length now.stage.source.rounds = slice_get_within now.stage.source.rounds now.stage.begun reaches.round reaches.next in
    subst (λ (s : Stage). length s.source.rounds - s.begun < length now.stage.source.rounds - now.stage.begun) (sym there) (omega (arith, below))

-- nobody has work then
pub ended_idle : (start now : WorldState) (scheduler : ℕ) → HasEnded start now → (now.stage.begun ≡ 0 → IsAtStart now) → IsInSomeRun now.stage
    → ((trace : TraceTables) → IsInRunOf now.stage trace → IsFirstAtWork trace now scheduler) → ⊥
ended_idle start now scheduler has begins made works =
    let trace : TraceTables = made.0 in
    let first = works trace made.1 in
    works_or_idle now.stage.settings trace (rows_begun now.stage) now.stage.opened_at now.history scheduler first.request first.works
    (is_done start now has begins trace made.1 scheduler first.known)

-- a stage is in the run of the traces in whose run it was at the start
pub same_run : (start now : WorldState) → HasEnded start now → (trace : TraceTables) → IsInRunOf start.stage trace → IsInRunOf now.stage trace
same_run start now has trace made =
    has.source ∙ made ∙ ap (λ (s : Settings). source_of s trace) (sym has.settings)
