-- The settings that texts give are in their ranges.
use Rattle.std.proofs.Common.{◌≡◌, ◌≤◌, ◌&&◌, ℕ, Bool, true, false, List, Option, Some, None, nat_le, refl, leb-true, lit≤, arith, codes, if◌then◌else◌}
use Rattle.std.specs.Prelude.{unwrap_or}
use Rattle.std.specs.Option.{option_and_then}
use Rattle.omega_model.specs.Numbers.{whole}
use Rattle.omega_model.specs.Options.{number_from}
use Rattle.omega_model.specs.Ranges.{IsFrom, IsInRange, IsPercentage}
use Rattle.omega_model.specs.declared.settings.Extra.TheVariants.{Max, Cap, Relative}
use Rattle.omega_model.specs.WordSettings.{extra_of, is_text, settings_by}

kept : (low high default number : ℕ) → IsFrom low high default
    → IsFrom low high (unwrap_or (if nat_le low number && nat_le number high then Some number else None) default)
kept low high default number fits = go (nat_le low number) refl (nat_le number high) refl
  where
    go : (a : Bool) → nat_le low number ≡ a → (b : Bool) → nat_le number high ≡ b
        → IsFrom low high (unwrap_or (if a && b then Some number else None) default)
    go true p true q = (leb-true low number p, leb-true number high q)
    go true p false q = fits
    go false p b q = fits

-- a number that a text gives, or the default, is in the range of the numbers that are taken
pub given_in_range : (low high default : ℕ) → IsFrom low high default → (text : Option (List ℕ))
    → IsFrom low high (unwrap_or (option_and_then (number_from low high) text) default)
given_in_range low high default fits None = fits
given_in_range low high default fits (Some text) = go (whole text)
  where
    go : (read : Option ℕ) → IsFrom low high (unwrap_or (option_and_then (λ number. if nat_le low number && nat_le number high then Some number else None) read) default)
    go None = fits
    go (Some number) = kept low high default number fits

percentage : (percent : ℕ) → percent ≤ 100 → (text : Option (List ℕ)) → IsPercentage (extra_of percent text)
percentage percent fits text = go (is_text (codes "max") text) (is_text (codes "cap") text)
  where
    go : (a b : Bool) → IsPercentage (if a then Max else (if b then Cap percent else Relative))
    go true b = tt
    go false true = fits
    go false false = tt

-- a decision time that a text gives, or the default
decision_time : (default : ℕ) → default ≤ 1000000000 → (text : Option (List ℕ))
    → IsFrom 0 1000000000 (unwrap_or (option_and_then (number_from 0 1000000000) text) default)
decision_time default fits = let least : 0 ≤ default = omega arith in given_in_range 0 1000000000 default (least, fits)

-- whatever the texts are
pub settings_in_range : (texts : List ℕ → Option (List ℕ)) → IsInRange (settings_by texts)
settings_in_range texts = record {
  batch = given_in_range 1 30 1 (lit≤ tt, lit≤ tt) (texts (codes "batch"));
  extra = percentage _ (given_in_range 0 100 60 (lit≤ tt, lit≤ tt) (texts (codes "cap"))).1 (texts (codes "extra"));
  tries = given_in_range 1 100 5 (lit≤ tt, lit≤ tt) (texts (codes "tries"));
  give_up = given_in_range 1 1000 1000 (lit≤ tt, lit≤ tt) (texts (codes "give-up"));
  window = given_in_range 1 1099511627776 300000000 (lit≤ tt, lit≤ tt) (texts (codes "window"));
  machines = (given_in_range 0 4096 64 (lit≤ tt, lit≤ tt) (texts (codes "machines"))).1;
  jobs = (given_in_range 0 20000 500 (lit≤ tt, lit≤ tt) (texts (codes "jobs"))).1;
  t_job = (decision_time 100000 (lit≤ tt) (texts (codes "t-job"))).1;
  t_task = (decision_time 5000 (lit≤ tt) (texts (codes "t-task"))).1;
  service_t_job = (decision_time _ (decision_time 100000 (lit≤ tt) (texts (codes "t-job"))).1 (texts (codes "service-t-job"))).1;
  service_t_task = (decision_time _ (decision_time 5000 (lit≤ tt) (texts (codes "t-task"))).1 (texts (codes "service-t-task"))).1;
}
