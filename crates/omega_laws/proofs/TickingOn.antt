-- A round that goes by virtual time, one commit after the other.
use Rattle.std.proofs.Common.{◌≡◌, ◌≤◌, ◌<◌, ◌+◌, ℕ, true, List, [], ◌∷◌, ◌++◌, length, take, refl, sym, ap, subst, arith, ◌∙◌, inl, inr}
use Rattle.std.specs.Prelude.{All, ◌==◌, ◌⊎◌}
use Rattle.std.specs.List.{fold}
use Rattle.std.proofs.lemmas.Bool.{eq-eqb}
use Rattle.std.proofs.lemmas.Bool.Decides.{eqb_tells}
use Rattle.std.proofs.lemmas.List.Elements.{All-push, All-weaker}
use Rattle.std.proofs.Math.ListN.{drop_of_length-le}
use Rattle.omega_model.specs.Lawful.{MayCommit, after_last, opened}
use Rattle.omega_model.specs.State.{reply_of}
use Rattle.omega_model.specs.Work.{AgreesWithFirst, standing_of}
use Rattle.omega_model.specs.declared.claims.Judgement.{Judgement}
use Rattle.omega_model.specs.declared.claims.Txn.{Txn}
use Rattle.omega_model.specs.declared.entries.Entry.{Entry}
use Rattle.omega_model.specs.declared.entries.Entry.TheVariants.{Commit}
use Rattle.omega_model.specs.declared.rows.Row.{Row}
use Rattle.omega_model.specs.declared.rows.Round.{Round}
use Rattle.omega_model.specs.declared.rows.TraceTables.{TraceTables}
use Rattle.omega_model.specs.declared.settings.Settings.{Settings}
use Rattle.omega_model.proofs.Growing.{by_place_push_where}
use Rattle.omega_laws.specs.NextCommit.{GoesNext, NobodyHasWork, WorksOn, attempt, attempt_txn}
use Rattle.omega_laws.specs.Orders.{OrderedRound}
use Rattle.omega_laws.specs.VirtualTime.{Timed, Clock, KeepsTime, GoesSooner, StandsNoLater, clock_of, decision, next_time, next_wishes, sees_in_time, tick, timed_commits}
use Rattle.omega_laws.specs.Ticking.{Ticking}
use Rattle.omega_laws.proofs.Agreeing.{agrees_first, left_push-other}
use Rattle.omega_laws.proofs.LastCommits.{after_last-within}
use Rattle.omega_laws.proofs.Places.{nothing_past, longer}
use Rattle.omega_laws.proofs.RoundGrows.{round_ends, round_first, round_push}
use Rattle.omega_laws.proofs.TimeOrder.{clock_push, next_time-is, next_time_push-other, timed_push}

-- where the rows end no commit of the round is read, and all have synced at its base
pub clock_none : (settings : Settings) (trace : TraceTables) (rows : List Row) (base : ℕ) (history : List Entry)
    → clock_of settings trace rows (length history) base history
    ≡ record { before = take (length history) history; synced = λ (scheduler : ℕ). base; commits = [] }
clock_none settings trace rows base history =
    ap (λ (later : List Entry). fold (tick settings trace rows (length history))
    (record { before = take (length history) history; synced = λ (scheduler : ℕ). base; commits = [] }) later)
    (drop_of_length-le history {i = length history} (omega arith))

-- what stands no later than one commit stands no later than one that isn't before that
no_later-further : (time time_later scheduler : ℕ) (timed : Timed) → time ≤ time_later → StandsNoLater time scheduler timed → StandsNoLater time_later scheduler timed
no_later-further time time_later scheduler timed within no_later = by_cases timed.time timed.scheduler no_later where
  by_cases : (at by : ℕ) → ((at < time) ⊎ ((at ≡ time) × (by ≤ scheduler))) → ((at < time_later) ⊎ ((at ≡ time_later) × (by ≤ scheduler)))
  by_cases at by no_later = grind (arith)

no_later-itself : (time time_later by : ℕ) → time ≤ time_later → ((time < time_later) ⊎ ((time ≡ time_later) × (by ≤ by)))
no_later-itself time time_later by within = grind (arith)

no_later-sooner : (time time_other by other : ℕ) → ((time < time_other) ⊎ ((time ≡ time_other) × (by < other)))
    → ((time < time_other) ⊎ ((time ≡ time_other) × (by ≤ other)))
no_later-sooner time time_other by other sooner = grind (arith)

module _ (settings : Settings) (trace : TraceTables) (rows : List Row) (start : List Entry) (round : Round) (base : ℕ) where
  abbrev pub all : List Row
  all = rows ++ round.rows

  abbrev pub at : ℕ
  at = length (opened trace rows start round).history

  -- where the rows are applied, no commit stands
  pub ticking_first : Ticking settings trace rows start round base (opened trace rows start round).history
  ticking_first =
      let history : List Entry = (opened trace rows start round).history in
      record {
        so_far = round_first settings trace rows start round;
        within = omega arith;
        keeps = λ place entry is here. absurd (nothing_past history place entry is here);
        ahead = λ scheduler known request works.
            subst (All (StandsNoLater (next_time settings trace all at base history scheduler) scheduler))
            (sym (ap (λ (clock : Clock). clock.commits) (clock_none settings trace all base history))) (λ k other below. absurd (omega arith));
      }

  -- a scheduler that commits syncs then
  pub synced_push-own : (before : List Entry) (by seen : ℕ) (txn : Txn) (reply : List Judgement) → at ≤ length before
      → (clock_of settings trace all at base (before ++ Commit by seen txn reply ∷ [])).synced by ≡ next_time settings trace all at base before by
  synced_push-own before by seen txn reply within =
      let itself : (by == by) ≡ true = eq-eqb by by refl in
      ap (λ (clock : Clock). clock.synced by) (clock_push settings trace all at base before (Commit by seen txn reply) within) ∙ rw itself refl

  -- a scheduler's next time after its own commit isn't before that commit
  own_later : (before : List Entry) (by seen : ℕ) (txn : Txn) (reply : List Judgement) → at ≤ length before
      → next_time settings trace all at base before by ≤ next_time settings trace all at base (before ++ Commit by seen txn reply ∷ []) by
  own_later before by seen txn reply within =
      let after : List Entry = before ++ Commit by seen txn reply ∷ [] in
      let is : next_time settings trace all at base after by
      ≡ (clock_of settings trace all at base after).synced by + decision settings by (next_wishes settings trace all at after by) =
      next_time-is settings trace all at base after by in
      later (next_time settings trace all at base before by) _ _ _ (synced_push-own before by seen txn reply within) is where
        later : (time time_later sync wait : ℕ) → sync ≡ time → time_later ≡ sync + wait → time ≤ time_later
        later time time_later sync wait synced is = omega (arith, synced, is)

  -- the scheduler that goes next commits
  pub ticking_commit : (before : List Entry) (by : ℕ)
      → Ticking settings trace rows start round base before
      → (next : GoesNext settings trace all at (GoesSooner settings trace all at base) before by)
      → Ticking settings trace rows start round base (before ++ attempt settings before by (sees_in_time at before by) next.request ∷ [])
  ticking_commit before by ticking next =
      let seen : ℕ = sees_in_time at before by in
      let txn : Txn = attempt_txn settings before by seen next.request in
      let reply : List Judgement = reply_of before seen txn in
      let entry : Entry = Commit by seen txn reply in
      let within : at ≤ length before = ticking.within in
      let last : after_last by before ≤ length before = after_last-within by before in
      let may : MayCommit settings at before by seen txn reply = record {
        known = next.known;
        there = omega (arith, within, last);
        rows = omega arith;
        own = omega arith;
        answered = refl;
      } in
      let new : Timed = record {
        place = length (clock_of settings trace all at base before).before;
        scheduler = by;
        sync = (clock_of settings trace all at base before).synced by;
        time = next_time settings trace all at base before by;
      } in
      let commits : List Timed = timed_commits settings trace all at base before ++ new ∷ [] in
      let agrees : AgreesWithFirst settings by before seen txn (standing_of settings trace all at by before) =
      agrees_first settings by before seen txn (standing_of settings trace all at by before) next.request next.has_work.0 next.has_work.1
      (record { job = refl; rule = refl; mode = refl; claims = refl }) in
      record {
        so_far = round_push settings trace rows start round before by seen txn reply ticking.so_far within may agrees;
        within = longer at before entry within;
        keeps = by_place_push_where (λ place. at ≤ place) (KeepsTime settings trace all at base) before entry ticking.keeps
            (record { order = ticking.ahead by next.known next.request next.has_work; seen_last = refl });
        ahead = λ scheduler known request works.
            subst (All (StandsNoLater (next_time settings trace all at base (before ++ entry ∷ []) scheduler) scheduler))
            (sym (timed_push settings trace all at base before by seen txn reply within))
            (elim (eqb_tells by scheduler) [
              | inl same ↦ subst (λ (s : ℕ). All (StandsNoLater (next_time settings trace all at base (before ++ entry ∷ []) s) s) commits) same.1
                  (own_ahead before by seen txn reply within (ticking.ahead by next.known next.request next.has_work))
              | inr apart ↦
                  let worked : WorksOn settings trace all at before scheduler request =
                  (works.0, sym (left_push-other settings trace all at before entry scheduler within apart.0) ∙ works.1) in
                  subst (λ (time : ℕ). All (StandsNoLater time scheduler) commits)
                  (sym (next_time_push-other settings trace all at base before by seen txn reply scheduler within apart.1))
                  (All-push (StandsNoLater (next_time settings trace all at base before scheduler) scheduler) (timed_commits settings trace all at base before) new
                  (ticking.ahead scheduler known request worked)
                  (no_later-sooner _ _ by scheduler (next.first scheduler known (λ same. apart.1 (sym same)) request worked)))
            ]);
      } where
        own_ahead : (before : List Entry) (by seen : ℕ) (txn : Txn) (reply : List Judgement) → at ≤ length before
            → All (StandsNoLater (next_time settings trace all at base before by) by) (timed_commits settings trace all at base before)
            → All (StandsNoLater (next_time settings trace all at base (before ++ Commit by seen txn reply ∷ []) by) by)
            (timed_commits settings trace all at base before ++ record {
              place = length (clock_of settings trace all at base before).before;
              scheduler = by;
              sync = (clock_of settings trace all at base before).synced by;
              time = next_time settings trace all at base before by;
            } ∷ [])
        own_ahead before by seen txn reply within ahead =
            let later = own_later before by seen txn reply within in
            let after : ℕ = next_time settings trace all at base (before ++ Commit by seen txn reply ∷ []) by in
            All-push (StandsNoLater after by) (timed_commits settings trace all at base before) _
            (All-weaker (StandsNoLater (next_time settings trace all at base before by) by) (StandsNoLater after by)
            (λ timed. no_later-further (next_time settings trace all at base before by) after by timed later) _ ahead)
            (no_later-itself (next_time settings trace all at base before by) after by later)

  -- where nobody has work the round is whole, and in order of time
  pub ticking_ends : (before : List Entry)
      → Ticking settings trace rows start round base before
      → NobodyHasWork settings trace all at before
      → OrderedRound settings trace rows start round (KeepsTime settings trace all at base) before
  ticking_ends before ticking nobody = record {
    whole = round_ends settings trace rows start round before ticking.so_far nobody;
    keeps = ticking.keeps;
  }
