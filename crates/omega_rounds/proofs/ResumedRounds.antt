-- Rounds that are played one after the other and compared with kept lines, or kept.
use Rattle.std.proofs.Math.Seq.{drop-nil, take-append_seam, take-length}
use Rattle.std.proofs.lemmas.List.{append-nil, length-append, length-map, length-take-le, take-append-drop}
use Rattle.std.proofs.lemmas.Option.{slice_get_within}
use Rattle.std.proofs.Common.{◌≡◌, ◌≤◌, ◌<◌, ◌+◌, ℕ, zero, suc, false, List, [], ◌∷◌, ◌++◌, length, take, Option, Some, None, refl, sym, ap, subst, arith, ◌∙◌, add-one, inl, inr}
use Rattle.std.specs.Prelude.{min}
use Rattle.omega_model.specs.Feed.{rounds}
use Rattle.omega_model.specs.Lawful.{RoundOf, Rounds, begins_round}
use Rattle.omega_model.specs.Turns.{InTurns}
use Rattle.omega_model.specs.declared.entries.Entry.{Entry}
use Rattle.omega_model.specs.declared.entries.Entry.TheVariants.{Round as RoundEntry}
use Rattle.omega_model.specs.declared.rows.Round.{Round}
use Rattle.omega_model.specs.declared.rows.TraceTables.{TraceTables}
use Rattle.omega_model.specs.declared.settings.Settings.{Settings}
use Rattle.omega_model.proofs.RoundsInOrder.{rounds_push}
use Rattle.omega_keep.specs.Keeping.{Adds}
use Rattle.omega_keep.specs.KeptLines.{entry_text}
use Rattle.omega_keep.specs.Resumed.{ends_round, in_common, lines_of, refused_for}
use Rattle.omega_laws.specs.FirstRounds.{AreFirstInTurns}
use Rattle.omega_laws.proofs.Places.{take_next}
use Rattle.omega_laws.proofs.RoundsAdd.{round_begins}
use Rattle.omega_rounds.specs.Going.{OpensRound, ReachesRound}
use Rattle.omega_rounds.specs.Playing.{IsAtStart, IsInSomeRun, PlaysRound}
use Rattle.omega_rounds.specs.Resuming.{Agree, AppendsRounds, AreRoundsInTurns, AreRoundsOfStage, BeginsAgreed, DepartAt, IsPastEnd, LeavesKept, RefusesKept, RefusesRound, StopsRound, TakesRound, lines_behind}
use Rattle.omega_rounds.specs.Stages.{AllHaveBegun, IsInRunOf, Source, Stage, WorldState, next_stage, rows_begun}
use Rattle.omega_rounds.specs.declared.kept.ResumeRefusal.{ResumeRefusal}
use Rattle.omega_rounds.specs.declared.kept.ResumeRefusal.TheVariants.{BadKept, KeepFault, NoMemory}
use Rattle.omega_rounds.proofs.Departing.{accepted_rounds, no_lines}
use Rattle.omega_rounds.proofs.EndedRounds.{HasEnded, same_run}
use Rattle.omega_rounds.proofs.KeptRounds.{cases_le, common_told, common_within, ends_middle, item_within, none_behind, refused_at, refused_middle}
use Rattle.omega_rounds.proofs.PlayedRounds.{HasPlayed, begins_turn, played_more, turns_now}
use Rattle.omega_rounds.proofs.RoundStarts.{none_in_round}

-- ---- what is kept

-- once the rounds that have begun in a world are over: they are the first ones of the run; the kept lines agree with
-- the history so far; behind them its lines were appended; and where they are no more than its entries they are
-- those of first rounds
pub record StandsKept (kept : List (List ℕ)) (first : Option (List (List ℕ))) (now : WorldState) (keeps : Option (List (List ℕ))) : Type 0 where
  pub within : now.stage.begun ≤ length now.stage.source.rounds
  pub rounds : (trace : TraceTables) → IsInRunOf now.stage trace
      → Rounds now.stage.settings trace [] [] (take now.stage.begun now.stage.source.rounds) now.history
  pub agree : Agree kept now.history
  pub adds : Adds (lines_behind kept now.history) first keeps
  pub ended : length kept ≤ length now.history → AreRoundsOfStage now.stage kept

-- so it is once some round has begun, and the rounds that have were played
pub record HasResumed (kept : List (List ℕ)) (first : Option (List (List ℕ))) (start now : WorldState) (keeps : Option (List (List ℕ))) : Type 0 where
  pub played : HasPlayed start now
  pub none : now.stage.begun ≡ 0 → keeps ≡ first
  pub some : 0 < now.stage.begun → StandsKept kept first now keeps

agree_none : (kept : List (List ℕ)) → Agree kept []
agree_none [] = refl
agree_none (line ∷ lines) = let none : 0 ≡ min (suc (length lines)) 0 = omega arith in none

-- none at all are added
adds_none : (first : Option (List (List ℕ))) → Adds [] first first
adds_none None = refl
adds_none (Some list) = ap (λ (l : List (List ℕ)). Some l) (sym (append-nil list))

-- and then the list stays
adds_stay : (first keeps : Option (List (List ℕ))) → Adds [] first keeps → keeps ≡ first
adds_stay None keeps adds = adds
adds_stay (Some list) keeps adds = adds ∙ ap (λ (l : List (List ℕ)). Some l) (append-nil list)

-- no lines are those of no rounds
nothing_kept : (stage : Stage) (kept : List (List ℕ)) → length kept ≤ 0 → AreRoundsOfStage stage kept
nothing_kept stage [] short = λ trace made. no_lines stage.settings trace
nothing_kept stage (line ∷ lines) short = absurd (omega (arith, short))

-- it stands so also before the first round
stands_first : (kept : List (List ℕ)) (first : Option (List (List ℕ))) (now : WorldState) (keeps : Option (List (List ℕ)))
    → now.stage.begun ≡ 0 → now.history ≡ [] → keeps ≡ first → StandsKept kept first now keeps
stands_first kept first now keeps none empty same = record {
  within = omega (arith, none);
  rounds = λ trace made.
      subst (λ (n : ℕ). Rounds now.stage.settings trace [] [] (take n now.stage.source.rounds) now.history) (sym none) empty;
  agree = subst (Agree kept) (sym empty) (agree_none kept);
  adds = subst (λ (k : Option (List (List ℕ))). Adds (lines_behind kept now.history) first k) (sym same)
      (subst (λ (h : List Entry). Adds (lines_behind kept h) first first) (sym empty)
      (subst (λ (l : List (List ℕ)). Adds l first first) (sym (drop-nil (length kept))) (adds_none first)));
  ended = λ short. nothing_kept now.stage kept (subst (λ (h : List Entry). length kept ≤ length h) empty short);
}

stands_now : (kept : List (List ℕ)) (first : Option (List (List ℕ))) (start now : WorldState) (keeps : Option (List (List ℕ)))
    → HasResumed kept first start now keeps → (now.stage.begun ≡ 0 → IsAtStart now) → StandsKept kept first now keeps
stands_now kept first start now keeps has begins = by now.stage.begun refl
  where
    by : (n : ℕ) → now.stage.begun ≡ n → StandsKept kept first now keeps
    by zero none = stands_first kept first now keeps none (begins none).empty (has.none none)
    by (suc n) some = has.some (omega (arith, some))

-- lines of the run now are lines of the run at its start
rounds_of_start : (start now : WorldState) → HasEnded start now → (lines : List (List ℕ)) → AreRoundsOfStage now.stage lines → AreRoundsOfStage start.stage lines
rounds_of_start start now has lines are = λ trace made.
    subst (λ (s : Settings). AreRoundsInTurns s trace lines) has.settings (are trace (same_run start now has trace made))

-- where a list has no fewer items than another, it has as many as both have
min_left : (kept : List (List ℕ)) (history : List Entry) → Agree kept history → length kept ≤ length history → in_common kept history ≡ length kept
min_left kept history agree short = omega (arith, agree, short)

min_right : (kept : List (List ℕ)) (history : List Entry) → Agree kept history → length history ≤ length kept → in_common kept history ≡ length history
min_right kept history agree short = omega (arith, agree, short)

-- rounds of a stage are those of a trace in whose run it is
first_of_stage : (stage : Stage) (trace : TraceTables) (history : List Entry) → IsInRunOf stage trace → stage.begun ≤ length stage.source.rounds
    → Rounds stage.settings trace [] [] (take stage.begun stage.source.rounds) history → InTurns history
    → AreFirstInTurns stage.settings trace stage.begun history
first_of_stage stage trace history made within whole turns =
    let all : stage.source.rounds ≡ rounds trace stage.settings.window = ap (λ (s : Source). s.rounds) made in
    record {
      within = subst (λ (some : List Round). stage.begun ≤ length some) all within;
      made = subst (λ (some : List Round). Rounds stage.settings trace [] [] (take stage.begun some) history) all whole;
      turns = turns;
    }

-- what was added are the lines of whole rounds
pub leaves_rounds : (kept : List (List ℕ)) (first : Option (List (List ℕ))) (start now : WorldState) (keeps : Option (List (List ℕ)))
    → HasResumed kept first start now keeps → (now.stage.begun ≡ 0 → IsAtStart now) → AppendsRounds start.stage kept first keeps
leaves_rounds kept first start now keeps has begins =
    let stands = stands_now kept first start now keeps has begins in
    record {
      added = lines_behind kept now.history;
      adds = stands.adds;
      whole = elim (cases_le (length now.history) (length kept)) [
        | inl short ↦ inl (none_behind kept now.history short)
        | inr past ↦
            let all : in_common kept now.history ≡ length kept = min_left kept now.history stands.agree (omega (arith, past)) in
            let whole : kept ++ lines_behind kept now.history ≡ lines_of now.history =
            ap (λ (front : List (List ℕ)). front ++ lines_behind kept now.history) (common_told kept now.history all)
            ∙ take-append-drop (length kept) (lines_of now.history) in
            inr (rounds_of_start start now has.played.ended (kept ++ lines_behind kept now.history) (λ trace made. record {
              count = now.stage.begun;
              history = now.history;
              played = first_of_stage now.stage trace now.history made stands.within (stands.rounds trace made) (turns_now start now has.played begins);
              told = whole;
            }))
      ];
    }

-- ---- one more round

-- a round that is played goes on from the history before it
module _ (kept : List (List ℕ)) (from : ℕ) (world after : WorldState) (begins : BeginsAgreed kept from world) (plays : PlaysRound world after) where
  goes_on : (later : List Entry) × (after.history ≡ begins.start ++ RoundEntry begins.round.number ∷ later)
  goes_on =
      let played = plays begins.trace begins.before begins.start begins.round begins.begins in
      round_begins after.stage.settings begins.trace begins.before begins.start begins.round after.history played.1.1

  pub within_played : from ≤ length after.history
  within_played =
      let all : length after.history ≡ length begins.start + length (RoundEntry begins.round.number ∷ goes_on.0) =
      ap (λ (h : List Entry). length h) goes_on.1 ∙ length-append begins.start (RoundEntry begins.round.number ∷ goes_on.0) in
      let is = begins.length_is in
      omega (arith, all, is)

  pub agree_played : Agree kept (take from after.history)
  agree_played =
      let front : take from after.history ≡ begins.start =
      ap (λ (n : ℕ). take n after.history) begins.length_is
      ∙ ap (take (length begins.start)) goes_on.1
      ∙ take-append_seam begins.start (RoundEntry begins.round.number ∷ goes_on.0) in
      subst (Agree kept) (sym front) begins.agree

  pub stops_played : after.stage ≡ world.stage → (refusal : ResumeRefusal) → RefusesRound kept from after.history refusal → StopsRound world kept from refusal
  stops_played stage (BadKept place) refuses = (after, (stage, (plays, refuses)))
  stops_played stage KeepFault past = past
  stops_played stage NoMemory refuses = tt

module _ (kept : List (List ℕ)) (first : Option (List (List ℕ))) (start now next : WorldState) (number : ℕ) (keeps : Option (List (List ℕ)))
    (has : HasResumed kept first start now keeps) (begins : now.stage.begun ≡ 0 → IsAtStart now) (made : IsInSomeRun now.stage)
    (reaches : ReachesRound now next number) (opens : (trace : TraceTables) → IsInRunOf now.stage trace → OpensRound trace now next) where
  stands : StandsKept kept first now keeps
  stands = stands_now kept first start now keeps has begins

  turns_so_far : InTurns now.history
  turns_so_far = turns_now start now has.played begins

  -- the next round begins behind a history with which the kept lines agree
  pub begins_agreed : (from : ℕ) → from ≡ length now.history → BeginsAgreed kept from next
  begins_agreed from is = record {
    trace = made.0;
    before = rows_begun now.stage;
    start = now.history;
    round = reaches.round;
    begins = begins_turn now next number turns_so_far reaches made.0 made.1 (opens made.0 made.1);
    length_is = is;
    agree = stands.agree;
  }

  module _ (after : WorldState) (stage : after.stage ≡ next.stage) (plays : PlaysRound next after) where
    there : after.stage ≡ next_stage now.stage (length next.history)
    there = stage ∙ reaches.stage

    made_now : (trace : TraceTables) → IsInRunOf after.stage trace → IsInRunOf now.stage trace
    made_now trace made_then = subst (λ (s : Stage). IsInRunOf s trace) there made_then

    turns_then : InTurns after.history
    turns_then =
        let played = plays made.0 (rows_begun now.stage) now.history reaches.round
        (begins_turn now next number turns_so_far reaches made.0 made.1 (opens made.0 made.1)) in
        played.0

    -- it is the whole next round
    round_now : (trace : TraceTables) → IsInRunOf now.stage trace → RoundOf now.stage.settings trace (rows_begun now.stage) now.history reaches.round after.history
    round_now trace made_so =
        let played = plays trace (rows_begun now.stage) now.history reaches.round
        (begins_turn now next number turns_so_far reaches trace made_so (opens trace made_so)) in
        subst (λ (s : Stage). RoundOf s.settings trace (rows_begun now.stage) now.history reaches.round after.history) there played.1.1

    rounds_then : (trace : TraceTables) → IsInRunOf now.stage trace
        → Rounds after.stage.settings trace [] [] (take after.stage.begun after.stage.source.rounds) after.history
    rounds_then trace made_so =
        let some : List Round = now.stage.source.rounds in
        let taken : take (now.stage.begun + 1) some ≡ take now.stage.begun some ++ reaches.round ∷ [] =
        ap (λ (n : ℕ). take n some) (add-one now.stage.begun) ∙ take_next some now.stage.begun reaches.round reaches.next in
        subst (λ (s : Stage). Rounds s.settings trace [] [] (take s.begun s.source.rounds) after.history) (sym there)
        (subst (λ (first : List Round). Rounds now.stage.settings trace [] [] first after.history) (sym taken)
        (rounds_push now.stage.settings trace [] [] (take now.stage.begun some) reaches.round now.history after.history
        (stands.rounds trace made_so) (round_now trace made_so)))

    -- the history so far is its front
    front_taken : take (length now.history) after.history ≡ now.history
    front_taken =
        let more = round_begins now.stage.settings made.0 (rows_begun now.stage) now.history reaches.round after.history (round_now made.0 made.1) in
        ap (take (length now.history)) more.1 ∙ take-append_seam now.history _

    begun_then : after.stage.begun ≡ now.stage.begun + 1
    begun_then = ap (λ (s : Stage). s.begun) there

    within_then : after.stage.begun ≤ length after.stage.source.rounds
    within_then =
        let below : now.stage.begun < length now.stage.source.rounds = slice_get_within now.stage.source.rounds now.stage.begun reaches.round reaches.next in
        subst (λ (s : Stage). s.begun ≤ length s.source.rounds) (sym there) (omega (arith, below))

    -- the history is that of the rounds that have begun
    first_then : (trace : TraceTables) → IsInRunOf after.stage trace → AreFirstInTurns after.stage.settings trace after.stage.begun after.history
    first_then trace made_then =
        first_of_stage after.stage trace after.history made_then within_then (rounds_then trace (made_now trace made_then)) turns_then

    -- where the kept lines end with the round they are its lines and those before it
    ends_with : length kept ≡ length after.history → Agree kept after.history → AreRoundsOfStage after.stage kept
    ends_with all agree = λ trace made_then. record {
      count = after.stage.begun;
      history = after.history;
      played = first_then trace made_then;
      told = common_told kept after.history (min_left kept after.history agree (omega (arith, all)))
          ∙ ap (λ (n : ℕ). take n (lines_of after.history)) (all ∙ sym (length-map after.history entry_text))
          ∙ take-length (lines_of after.history);
    }

    -- one more round is played, and compared or kept
    pub resumed_more : (keeps_then : Option (List (List ℕ))) → (from : ℕ) → from ≡ length now.history → TakesRound kept from after.history keeps keeps_then
        → HasResumed kept first start after keeps_then
    resumed_more keeps_then from is takes = record {
      played = played_more start now next after number has.played begins made reaches opens stage plays;
      none = λ none. let begun = begun_then in absurd (omega (arith, none, begun));
      some = λ some. record {
        within = within_then;
        rounds = λ trace made_then. rounds_then trace (made_now trace made_then);
        agree = takes.agree;
        adds = takes.adds first
            (subst (λ (n : ℕ). Adds (lines_behind kept (take n after.history)) first keeps) (sym is)
            (subst (λ (h : List Entry). Adds (lines_behind kept h) first keeps) (sym front_taken) stands.adds));
        ended = λ short. elim (cases_le (length kept) (length now.history)) [
          | inl before ↦ subst (λ (s : Stage). AreRoundsOfStage s kept) (sym there) (stands.ended before)
          | inr past ↦
              let ends : length after.history ≤ length kept = takes.ends (omega (arith, past, is)) in
              ends_with (omega (arith, short, ends)) takes.agree
        ];
      };
    }

    -- a line of the round that isn't kept, or that is the first one that isn't, is where the kept ones depart
    refused_round : (from : ℕ) → from ≡ length now.history → (place : ℕ) → from < length kept → place ≡ in_common kept after.history → place < length after.history
        → refused_for after.history kept ≡ Some place
    refused_round from is place more place_is within =
        let most : in_common kept after.history ≤ length kept = common_within kept after.history in
        elim (cases_le (length kept) place) [
          | inl all ↦
              let ended : place ≡ length kept = omega (arith, all, most, place_is) in
              let found = item_within after.history place within in
              let count : length (take place after.history) ≡ place = length-take-le place after.history (omega (arith, within)) in
              let none : begins_round found.0 ≡ false =
              none_in_round now.stage.settings made.0 (rows_begun now.stage) now.history reaches.round after.history (round_now made.0 made.1).begun
              place found.0 found.1 (omega (arith, count, is, more, ended)) in
              subst (λ (n : ℕ). refused_for after.history kept ≡ Some n) (sym ended)
              (refused_middle after.history kept (sym place_is ∙ ended)
              (subst (λ (n : ℕ). ends_round after.history n ≡ false) ended
              (ends_middle after.history place found.0 (omega (arith, ended, more)) within found.1 none)))
          | inr short ↦ refused_at after.history kept place (sym place_is) short
        ]

    departs_there : (from : ℕ) → from ≡ length now.history → (place : ℕ) → from < length kept → place ≡ in_common kept after.history → place < length after.history
        → (trace : TraceTables) → IsInRunOf now.stage trace → DepartAt now.stage.settings trace kept place
    departs_there from is place more place_is within trace made_so =
        subst (λ (s : Stage). DepartAt s.settings trace kept place) there (record {
          count = after.stage.begun;
          history = after.history;
          played = first_then trace (subst (λ (s : Stage). IsInRunOf s trace) (sym there) made_so);
          refused = refused_round from is place more place_is within;
          reached = inl within;
        })

  -- why a round isn't taken is why the kept lines are refused
  pub stops_refused : (from : ℕ) → from ≡ length now.history → (refusal : ResumeRefusal) → StopsRound next kept from refusal → RefusesKept start.stage kept refusal
  stops_refused from is (BadKept place) stops = λ trace of_start.
      subst (λ (s : Settings). DepartAt s trace kept place) has.played.ended.settings
      (departs_there stops.0 stops.1.0 stops.1.1.0 from is place stops.1.1.1.0 stops.1.1.1.1.0 stops.1.1.1.1.1 trace (same_run start now has.played.ended trace of_start))
  stops_refused from is KeepFault past = rounds_of_start start now has.played.ended kept (stands.ended (omega (arith, past, is)))
  stops_refused from is NoMemory stops = tt

  -- and then nothing was added before
  pub stops_leaves : (from : ℕ) → from ≡ length now.history → (refusal : ResumeRefusal) → StopsRound next kept from refusal
      → LeavesKept start.stage kept first keeps refusal
  stops_leaves from is (BadKept place) stops =
      let short : length now.history ≤ length kept = omega (arith, is, stops.1.1.1.0) in
      adds_stay first keeps (subst (λ (l : List (List ℕ)). Adds l first keeps) (none_behind kept now.history short) stands.adds)
  stops_leaves from is KeepFault past = leaves_rounds kept first start now keeps has begins
  stops_leaves from is NoMemory stops = leaves_rounds kept first start now keeps has begins

-- ---- the end

module _ (kept : List (List ℕ)) (first : Option (List (List ℕ))) (start now next : WorldState) (keeps : Option (List (List ℕ)))
    (has : HasResumed kept first start now keeps) (begins : now.stage.begun ≡ 0 → IsAtStart now)
    (same : next ≡ now) (all : AllHaveBegun next.stage) where
  stands_at_end : StandsKept kept first now keeps
  stands_at_end = stands_now kept first start now keeps has begins

  begun_at_end : now.stage.begun ≡ length now.stage.source.rounds
  begun_at_end = subst (λ (w : WorldState). AllHaveBegun w.stage) same all

  -- all rounds have been played
  first_at_end : (trace : TraceTables) → IsInRunOf now.stage trace → AreFirstInTurns now.stage.settings trace now.stage.begun now.history
  first_at_end trace made =
      first_of_stage now.stage trace now.history made stands_at_end.within (stands_at_end.rounds trace made) (turns_now start now has.played begins)

  all_at_end : (trace : TraceTables) → IsInRunOf now.stage trace → now.stage.begun ≡ length (rounds trace now.stage.settings.window)
  all_at_end trace made = begun_at_end ∙ ap (λ (s : Source). length s.rounds) made

  -- a kept line past the end is the one that is refused
  pub end_refused : (refusal : ResumeRefusal) → IsPastEnd next kept refusal → RefusesKept start.stage kept refusal
  end_refused (BadKept place) past = λ trace of_start.
      let made = same_run start now has.played.ended trace of_start in
      let count : length next.history ≡ length now.history = ap (λ (w : WorldState). length w.history) same in
      let most : length now.history ≤ length kept = omega (arith, count, past.more, past.place_is) in
      subst (λ (s : Settings). DepartAt s trace kept place) has.played.ended.settings (record {
        count = now.stage.begun;
        history = now.history;
        played = first_at_end trace made;
        refused = refused_at now.history kept place (min_right kept now.history stands_at_end.agree most ∙ sym count ∙ sym past.place_is) past.more;
        reached = inr (all_at_end trace made);
      })
  end_refused KeepFault past = absurd past
  end_refused NoMemory past = absurd past

  pub end_leaves : (refusal : ResumeRefusal) → IsPastEnd next kept refusal → LeavesKept start.stage kept first keeps refusal
  end_leaves (BadKept place) past =
      let count : length next.history ≡ length now.history = ap (λ (w : WorldState). length w.history) same in
      let most : length now.history ≤ length kept = omega (arith, count, past.more, past.place_is) in
      adds_stay first keeps (subst (λ (l : List (List ℕ)). Adds l first keeps) (none_behind kept now.history most) stands_at_end.adds)
  end_leaves KeepFault past = absurd past
  end_leaves NoMemory past = absurd past

  -- else all that is kept is the history
  pub end_agreed : length kept ≤ length next.history → IsInSomeRun now.stage → refused_for next.history kept ≡ None
  end_agreed short made =
      subst (λ (w : WorldState). refused_for w.history kept ≡ None) (sym same)
      (accepted_rounds now.stage.settings made.0 kept now.history
      (stands_at_end.ended (subst (λ (w : WorldState). length kept ≤ length w.history) same short) made.0 made.1)
      (subst (λ (n : ℕ). AreFirstInTurns now.stage.settings made.0 n now.history) (all_at_end made.0 made.1) (first_at_end made.0 made.1)))

  pub end_kept : Adds (lines_behind kept next.history) first keeps
  end_kept = subst (λ (w : WorldState). Adds (lines_behind kept w.history) first keeps) (sym same) stands_at_end.adds
