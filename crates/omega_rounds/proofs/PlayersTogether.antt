-- Players that have played in two parts have played as a whole; those without work have played.
use Rattle.std.proofs.Common.{◌≡◌, ℕ, zero, suc, false, List, [], ◌∷◌, ◌++◌, get_or, length, refl, ap, subst, ◌∙◌, arith, Some, length-append}
use Rattle.std.specs.Prelude.{All, slice_get, unwrap_or}
use Rattle.std.specs.List.{list_any}
use Rattle.std.proofs.Math.ListN.{set}
use Rattle.std.proofs.lemmas.Bool.{both_ways}
use Rattle.std.proofs.lemmas.List.Folds.{list_any_at}
use Rattle.std.proofs.lemmas.Option.{get_or_from_slice_get, slice_get_within}
use Rattle.atomic_table.specs.Seated.{TableId}
use Rattle.omega_model.proofs.Lists.{by_answer}
use Rattle.omega_rounds.specs.declared.threads.player.Player.{Player}
use Rattle.omega_workers.specs.Workers.{has_work}
use Rattle.omega_rounds.specs.Players.{HasPlayed, HavePlayed, MayPlay}
use Rattle.omega_rounds.proofs.WorldGoes.{not_first}

-- a player of two parts is in the first or in the second
each_of_both : (old new others now : List Player) → length new ≡ length old
    → ((place : ℕ) (player : Player) → slice_get old place ≡ Some player → (after : Player) × ((slice_get new place ≡ Some after) × HasPlayed player after))
    → ((place : ℕ) (player : Player) → slice_get others place ≡ Some player → (after : Player) × ((slice_get now place ≡ Some after) × HasPlayed player after))
    → (place : ℕ) (player : Player) → slice_get (old ++ others) place ≡ Some player
    → (after : Player) × ((slice_get (new ++ now) place ≡ Some after) × HasPlayed player after)
each_of_both [] [] others now count first second place player at = second place player at
each_of_both [] (new ∷ news) others now count first second place player at = absurd (omega (arith, count))
each_of_both (old ∷ olds) [] others now count first second place player at = absurd (omega (arith, count))
each_of_both (old ∷ olds) (new ∷ news) others now count first second zero player at = first zero player at
each_of_both (old ∷ olds) (new ∷ news) others now count first second (suc place) player at =
    each_of_both olds news others now (omega (arith, count)) (λ n. first (suc n)) second place player at

-- two parts that have played
played_both : (old new others now : List Player) → HavePlayed old new → HavePlayed others now
    → HavePlayed (old ++ others) (new ++ now)
played_both old new others now first second = record {
  count = length-append new now ∙ omega (arith, first.count, second.count, length-append old others);
  each = each_of_both old new others now first.count first.each second.each;
}

-- they are all of a list
pub played_whole : (all old others new now : List Player) → old ++ others ≡ all → HavePlayed old new → HavePlayed others now
    → HavePlayed all (new ++ now)
played_whole all old others new now whole first second =
    subst (λ (players : List Player). HavePlayed players (new ++ now)) whole (played_both old new others now first second)

-- a player alone
played_alone : (old new : Player) → HasPlayed old new → HavePlayed (old ∷ []) (new ∷ [])
played_alone old new played = record { count = refl; each = at }
  where
    at : (place : ℕ) (player : Player) → slice_get (old ∷ []) place ≡ Some player
        → (after : Player) × ((slice_get (new ∷ []) place ≡ Some after) × HasPlayed player after)
    at zero player is =
        let same : old ≡ player = ap (λ found. unwrap_or found old) is in
        (new, (refl, subst (λ p. HasPlayed p new) same played))
    at (suc place) player is = absurd (cc is)

-- the only one of a list
pub played_only : (players : List Player) (missing new : Player) → length players ≡ 1 → HasPlayed (get_or players 0 missing) new
    → HavePlayed players (set players 0 new)
played_only [] missing new one played = absurd (omega (arith, one))
played_only (player ∷ []) missing new one played = played_alone player new played
played_only (player ∷ other ∷ rest) missing new one played = absurd (omega (arith, one))

-- no player
pub played_empty : (players : List Player) → length players ≡ 0 → HavePlayed players players
played_empty [] none = record { count = refl; each = λ place player is. absurd (cc is) }
played_empty (player ∷ rest) none = absurd (omega (arith, none))

-- a player without work has played
idle_played : (shared : TableId) (player : Player) → MayPlay shared player → has_work player.worker ≡ false → HasPlayed player player
idle_played shared player may idle = record {
  of = refl;
  number = refl;
  first_length = refl;
  within = omega arith;
  worker = may.worker;
  indexes = may.indexes;
  desk = λ trace rows opened_at within own. own;
  commits = λ opened_at within stand. stand;
  no_work = λ ok. not_first player.worker.desk.requests idle;
  spent = λ ok before none. none;
}

-- so have players of whom none has work
pub idle_all : (shared : TableId) (players : List Player) → All (MayPlay shared) players → list_any (λ player. has_work player.worker) players ≡ false
    → HavePlayed players players
idle_all shared players may idle = record { count = refl; each = each }
  where
    each : (place : ℕ) (player : Player) → slice_get players place ≡ Some player → (after : Player) × ((slice_get players place ≡ Some after) × HasPlayed player after)
    each place player here =
        let inside = slice_get_within players place player here in
        let there = get_or_from_slice_get players place player player here in
        let out : has_work player.worker ≡ false =
        by_answer (has_work player.worker)
        (λ yes. absurd (both_ways _ idle (list_any_at (λ (p : Player). has_work p.worker) players place player inside (ap (λ (p : Player). has_work p.worker) there ∙ yes))))
        (λ no. no) in
        (player, (here, idle_played shared player (subst (MayPlay shared) there (may place player inside)) out))
