-- Where the root of a tree stands.
use Rattle.std.proofs.Common.{◌≡◌, ◌+◌, ◌*◌, ◌^◌, ◌<◌, ◌≤◌, ℕ, zero, suc, true, false, sym, ◌∙◌, subst, refl, arith, rules}
use Rattle.std.specs.Prelude.{nat_lt}
use Rattle.std.proofs.Math.Nat.{pow-suc}
use Rattle.std.proofs.lemmas.Nat.{pow_pos}
use Rattle.omega_fit.specs.Tree.{middle}

less : (a b : ℕ) → a < b → nat_lt a b ≡ true
less a b lt = search rules

no_less : (a b : ℕ) → b ≤ a → nat_lt a b ≡ false
no_less a b le = search rules

-- a number is below another or it isn't
pub below_or_not : {R : Type 0} (a b : ℕ) → (a < b → R) → (b ≤ a → R) → R
below_or_not zero zero l r = r (omega arith)
below_or_not zero (suc b) l r = l (omega arith)
below_or_not (suc a) zero l r = r (omega arith)
below_or_not (suc a) (suc b) l r = below_or_not a b (λ p. l (omega arith)) (λ p. r (omega arith))

-- the root stays while the right part is shorter than the left one
pub middle_stays : (n : ℕ) → n < middle n + middle n + 1 → middle (suc n) ≡ middle n
unfolding middle
middle_stays n lt = let t : nat_lt n (middle n + middle n + 1) ≡ true = less _ _ lt in rw t refl

pub middle_moves : (n : ℕ) → middle n + middle n + 1 ≤ n → middle (suc n) ≡ n
unfolding middle
middle_moves n le = let t : nat_lt n (middle n + middle n + 1) ≡ false = no_less _ _ le in rw t refl

pub middle_none : middle 0 ≡ 0
unfolding middle
middle_none = refl

-- the root of n + 1 is the one of n, or the new item
pub middle_cases : {R : Type 0} (n : ℕ) → (middle (suc n) ≡ middle n → R) → (middle (suc n) ≡ n → R) → R
middle_cases n stays moves = below_or_not n (middle n + middle n + 1) (λ p. stays (middle_stays n p)) (λ p. moves (middle_moves n p))

pub middle_below : (n : ℕ) → middle n ≤ n
middle_below zero = omega (arith, middle_none)
middle_below (suc n) =
    let b : middle n ≤ n = middle_below n in
    middle_cases n (λ e. omega (arith, e, b)) (λ e. omega (arith, e))

pub middle_within : (n : ℕ) → 0 < n → middle n < n
middle_within zero lt = absurd (omega arith)
middle_within (suc n) lt =
    let b : middle n ≤ n = middle_below n in
    middle_cases n (λ e. omega (arith, e, b)) (λ e. omega (arith, e))

-- a root that isn't the last item is where it was before the last item came
pub below_last : (n root : ℕ) → root ≡ middle (suc n) → root < n → middle n ≡ root
below_last n root is lt = middle_cases n (λ e. sym (is ∙ e)) (λ e. absurd (omega (arith, is, e)))

power_step : (power n : ℕ) → ((k : ℕ) → 2 ^ k ≤ n → n < 2 * 2 ^ k → suc (middle n) ≡ 2 ^ k)
    → n < 2 ^ power → 2 ^ power ≤ suc n → suc (middle (suc n)) ≡ 2 ^ power
power_step zero n before above below =
    let none : n ≡ 0 = omega arith in
    let stays : middle (suc n) ≡ middle n = middle_stays n (omega (arith, none)) in
    let first : middle n ≡ 0 = subst (λ m. middle m ≡ 0) (sym none) middle_none in
    omega (arith, stays, first)
power_step (suc power) n before above below =
    let p : 2 ^ suc power ≡ 2 ^ power * 2 = pow-suc 2 power in
    let pos : 0 < 2 ^ power = pow_pos power in
    let m : suc (middle n) ≡ 2 ^ power = before power (omega (arith, p, pos)) (omega (arith, p)) in
    let moved : middle (suc n) ≡ n = middle_moves n (omega (arith, p, m)) in
    omega (arith, p, moved)

-- the root stands one below the greatest power of two that isn't above n
pub middle_of_power : (n power : ℕ) → 2 ^ power ≤ n → n < 2 * 2 ^ power → suc (middle n) ≡ 2 ^ power
middle_of_power zero power below above = absurd (omega (arith, pow_pos power))
middle_of_power (suc n) power below above = below_or_not n (2 ^ power)
    (λ lt. power_step power n (middle_of_power n) lt below)
    (λ le.
    let m : suc (middle n) ≡ 2 ^ power = middle_of_power n power le (omega arith) in
    let stays : middle (suc n) ≡ middle n = middle_stays n (omega (arith, m)) in
    omega (arith, m, stays))
