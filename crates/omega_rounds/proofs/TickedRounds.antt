-- Rounds that are played by the clock one after the other.
use Rattle.std.proofs.Math.Seq.{take-length}
use Rattle.std.proofs.Common.{◌≡◌, ◌<◌, ◌-◌, ◌+◌, ℕ, zero, suc, false, List, [], ◌∷◌, ◌++◌, length, take, Some, refl, sym, ap, subst, arith, ◌∙◌, add-one}
use Rattle.std.specs.Prelude.{slice_get, ◌==◌}
use Rattle.std.proofs.lemmas.Bool.{ne_eqb}
use Rattle.omega_model.specs.Feed.{rounds}
use Rattle.omega_model.specs.Lawful.{rows_of}
use Rattle.omega_model.specs.Stepping.{BeginsRound}
use Rattle.omega_model.specs.declared.entries.Entry.{Entry}
use Rattle.omega_model.specs.declared.rows.Row.{Row}
use Rattle.omega_model.specs.declared.rows.Round.{Round}
use Rattle.omega_model.specs.declared.rows.TraceTables.{TraceTables}
use Rattle.omega_model.specs.declared.settings.Settings.{Settings}
use Rattle.omega_laws.specs.Orders.{OrderedRound}
use Rattle.omega_laws.specs.Simulated.{SimulatedWith, TimedRounds, base_of, round_times, rows_place, until_after}
use Rattle.omega_laws.specs.VirtualTime.{KeepsTime, Timed, timed_commits}
use Rattle.omega_laws.proofs.TimedOn.{timed_push_round}
use Rattle.omega_laws.proofs.Places.{take_next}
use Rattle.omega_rounds.specs.Clocked.{TimedRound}
use Rattle.omega_rounds.specs.Going.{OpensRound, ReachesRound}
use Rattle.omega_rounds.specs.InTime.{BeginsInTime, EndsInTime, PlaysInTime, last_begun}
use Rattle.omega_rounds.specs.Playing.{IsAtStart, IsRoundNow}
use Rattle.omega_rounds.specs.Stages.{AllHaveBegun, IsInRunOf, Source, Stage, WorldState, next_stage, rows_begun, world_of}
use Rattle.omega_rounds.proofs.EndedRounds.{HasEnded, ended_more, ended_none, same_run}
use Rattle.omega_sim.proofs.Arrived.{rows_of_push}

-- the rounds that have begun in a world have been played by the clock, with these times
abbrev pub IsTicked : TraceTables → WorldState → List Timed → Type 0
IsTicked trace world times =
    TimedRounds world.stage.settings trace (KeepsTime world.stage.settings trace) [] [] 0 (take world.stage.begun world.stage.source.rounds) world.history times

pub record HasTicked (start now : WorldState) (times : List Timed) : Type 0 where
  pub ended : HasEnded start now
  pub none : now.stage.begun ≡ 0 → times ≡ []
  pub timed : 0 < now.stage.begun → (trace : TraceTables) → IsInRunOf now.stage trace → IsTicked trace now times

-- none has begun
pub ticked_none : (world : WorldState) → world.stage.begun ≡ 0 → HasTicked world world []
ticked_none world none = record {
  ended = ended_none world none;
  none = λ first. refl;
  timed = λ some. absurd (omega (arith, none, some));
}

-- also where none has begun
pub ticked_now : (start now : WorldState) (times : List Timed) → HasTicked start now times → (now.stage.begun ≡ 0 → IsAtStart now)
    → (trace : TraceTables) → IsInRunOf now.stage trace → IsTicked trace now times
ticked_now start now times has begins trace made = by now.stage.begun refl where
  by : (n : ℕ) → now.stage.begun ≡ n → IsTicked trace now times
  by zero none =
      subst (λ (n : ℕ). TimedRounds now.stage.settings trace (KeepsTime now.stage.settings trace) [] [] 0 (take n now.stage.source.rounds) now.history times) (sym none)
      ((begins none).empty, has.none none)
  by (suc n) some = has.timed (omega (arith, some)) trace made

-- the round that begins, with these times before it
abbrev pub round_at : TraceTables → WorldState → List Timed → Round → TimedRound
round_at trace now times round = record {
  trace = trace;
  rows = rows_begun now.stage;
  start = now.history;
  round = round;
  base = base_of (until_after 0 times) round;
  earlier = times;
}

-- the last round that has begun
last_is : (stage : Stage) (round : Round) (opened_at : ℕ) → slice_get stage.source.rounds stage.begun ≡ Some round
    → last_begun (next_stage stage opened_at) ≡ Some round
last_is stage round opened_at next =
    let test : (stage.begun + 1 == 0) ≡ false = ne_eqb (stage.begun + 1) 0 (λ same. let e : stage.begun + 1 ≡ 0 = same in absurd (omega (arith, e))) in
    let back : stage.begun + 1 - 1 ≡ stage.begun = omega arith in
    rw test (ap (λ (n : ℕ). slice_get stage.source.rounds n) back ∙ next)

-- the next round begins
pub begins_in_time : (now next : WorldState) (number : ℕ) (times : List Timed) → (reaches : ReachesRound now next number)
    → (trace : TraceTables) → IsInRunOf now.stage trace → OpensRound trace now next
    → BeginsInTime (round_at trace now times reaches.round) next times
begins_in_time now next number times reaches trace made opens =
    let round : Round = reaches.round in
    let begins : BeginsRound trace (rows_begun now.stage) round (world_of now) (world_of next) = opens.begins round reaches.next in
    let rows : rows_begun (next_stage now.stage (length next.history)) ≡ rows_begun now.stage ++ round.rows =
    ap (λ (n : ℕ). rows_of (take n now.stage.source.rounds)) (add-one now.stage.begun)
    ∙ ap rows_of (take_next now.stage.source.rounds now.stage.begun round reaches.next)
    ∙ rows_of_push (take now.stage.begun now.stage.source.rounds) round in
    record {
      here = subst (IsRoundNow trace (rows_begun now.stage) now.history round) (sym reaches.stage) (record {
        made = made;
        rows = rows;
        opened = ap (λ (h : List Entry). length h) begins.entries;
      });
      last = subst (λ (s : Stage). last_begun s ≡ Some round) (sym reaches.stage) (last_is now.stage round (length next.history) reaches.next);
      entries = begins.entries;
      nobody = begins.nobody;
      earlier = refl;
      base = refl;
    }

-- one more round is played
pub ticked_more : (start now next after : WorldState) (times later : List Timed) (number : ℕ) → HasTicked start now times
    → (now.stage.begun ≡ 0 → IsAtStart now) → ReachesRound now next number
    → ((trace : TraceTables) → IsInRunOf now.stage trace → OpensRound trace now next)
    → after.stage ≡ next.stage → PlaysInTime next times after later
    → HasTicked start after later
ticked_more start now next after times later number has begins reaches opens stage plays =
    let there : after.stage ≡ next_stage now.stage (length next.history) = stage ∙ reaches.stage in
    let round : Round = reaches.round in
    let settings : Settings = now.stage.settings in
    let played : (trace : TraceTables) → IsInRunOf now.stage trace → EndsInTime (round_at trace now times round) after later =
    λ trace made. plays (round_at trace now times round) (begins_in_time now next number times reaches trace made (opens trace made)) in
    record {
      ended = ended_more start now next after number has.ended reaches stage
          (λ trace made. (played trace (subst (λ (s : Stage). IsInRunOf s trace) there made)).over);
      none = λ first.
          let begun : after.stage.begun ≡ now.stage.begun + 1 = ap (λ (s : Stage). s.begun) there in absurd (omega (arith, first, begun));
      timed = λ some trace made.
          let made_then : IsInRunOf now.stage trace = subst (λ (s : Stage). IsInRunOf s trace) there made in
          let ends = played trace made_then in
          let timed : TimedRound = round_at trace now times round in
          let rows : List Row = rows_begun now.stage in
          let same : after.stage.settings ≡ settings = ap (λ (s : Stage). s.settings) there in
          let ordered : OrderedRound settings trace rows now.history round
          (KeepsTime settings trace (rows ++ round.rows) (rows_place trace rows now.history round) timed.base) after.history =
          subst (λ (s : Settings). OrderedRound s trace rows now.history round
          (KeepsTime s trace (rows ++ round.rows) (rows_place trace rows now.history round) timed.base) after.history) same ends.ordered in
          let more = timed_push_round settings trace (KeepsTime settings trace) [] [] 0 (take now.stage.begun now.stage.source.rounds) now.history times
          (ticked_now start now times has begins trace made_then) round after.history ordered in
          let times_are : later ≡ times ++ round_times settings trace rows now.history (until_after 0 times) round after.history =
          ends.times_are
          ∙ ap (λ (s : Settings). times ++ timed_commits s trace (rows ++ round.rows) (rows_place trace rows now.history round) timed.base after.history) same in
          let taken : take (now.stage.begun + 1) now.stage.source.rounds ≡ take now.stage.begun now.stage.source.rounds ++ round ∷ [] =
          ap (λ (n : ℕ). take n now.stage.source.rounds) (add-one now.stage.begun) ∙ take_next now.stage.source.rounds now.stage.begun round reaches.next in
          subst (λ (s : Stage). TimedRounds s.settings trace (KeepsTime s.settings trace) [] [] 0 (take s.begun s.source.rounds) after.history later) (sym there)
          (subst (λ (some : List Round). TimedRounds settings trace (KeepsTime settings trace) [] [] 0 some after.history later) (sym taken)
          (subst (λ (ts : List Timed). TimedRounds settings trace (KeepsTime settings trace) [] [] 0 (take now.stage.begun now.stage.source.rounds ++ round ∷ []) after.history ts)
          (sym times_are) more));
    }

-- once all rounds have begun the history is the simulated run
ticked_all : (start now : WorldState) (times : List Timed) → HasTicked start now times → (now.stage.begun ≡ 0 → IsAtStart now)
    → AllHaveBegun now.stage → (trace : TraceTables) → IsInRunOf start.stage trace → IsInRunOf now.stage trace
    → SimulatedWith start.stage.settings trace now.history times
ticked_all start now times has begins all trace made here =
    let settings : Settings = now.stage.settings in
    let whole : take now.stage.begun now.stage.source.rounds ≡ rounds trace settings.window =
    ap (λ (n : ℕ). take n now.stage.source.rounds) all
    ∙ take-length now.stage.source.rounds
    ∙ ap (λ (s : Source). s.rounds) here in
    subst (λ (s : Settings). SimulatedWith s trace now.history times) has.ended.settings
    (subst (λ (some : List Round). TimedRounds settings trace (KeepsTime settings trace) [] [] 0 some now.history times) whole
    (ticked_now start now times has begins trace here))

-- so it is where no round is left
pub ticked_over : (start now next : WorldState) (times : List Timed) → HasTicked start now times → (now.stage.begun ≡ 0 → IsAtStart now)
    → next ≡ now → AllHaveBegun next.stage → (trace : TraceTables) → IsInRunOf start.stage trace
    → SimulatedWith start.stage.settings trace next.history times
ticked_over start now next times has begins same all trace made =
    subst (λ (w : WorldState). SimulatedWith start.stage.settings trace w.history times) (sym same)
    (ticked_all start now times has begins (subst (λ (w : WorldState). AllHaveBegun w.stage) same all) trace made (same_run start now has.ended trace made))
