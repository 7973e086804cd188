-- The two orders of tasks are strict, and what they say of keys, machines and jobs.
use Rattle.std.proofs.Common.{◌≡◌, ◌≤◌, Bool, true, false, ◌||◌, ◌&&◌, not, cond, eqb, ltb, List, [], ◌∷◌, Option, Some, refl, ap, ap₂, ◌∙◌}
use Rattle.omega_model.specs.Keys.{key_lt, same_key}
use Rattle.omega_model.specs.Cell.{goes_before, task_at}
use Rattle.omega_model.specs.declared.cells.TaskKey.{TaskKey}
use Rattle.omega_model.specs.declared.cells.Task.{Task}
use Rattle.omega_running.specs.declared.orders.Order.{Order}
use Rattle.omega_running.specs.declared.orders.Order.TheVariants.{ByKey, ByMachine}
use Rattle.omega_running.specs.Order.{at_place, precedes, is_apart, lead}
use Rattle.omega_running.proofs.Strict.{IsStrict}
use Rattle.omega_running.proofs.Lex.{lex_asym, lex_link, lex_apart, lt_link, lt_apart, lex_rises}
use Rattle.omega_model.proofs.InOrder.{key_asym}

pub key_link : (a b c : TaskKey) → key_lt a b ≡ true → (key_lt a c || key_lt c b) ≡ true
key_link a b c p =
    lex_link a.job b.job c.job (ltb a.index b.index) (ltb a.index c.index) (ltb c.index b.index) (lt_link a.index b.index c.index) p

pub key_apart : (a b : TaskKey) → (key_lt a b || key_lt b a) ≡ not (same_key a b)
key_apart a b = lex_apart a.job b.job (ltb a.index b.index) (ltb b.index a.index) (eqb a.index b.index) (lt_apart a.index b.index)

pub key_strict : IsStrict key_lt
key_strict = record { asym = key_asym; link = key_link }

pub strict : (order : Order) → IsStrict (precedes order)
strict ByKey = record { asym = λ a b. key_asym a.key b.key; link = λ a b c. key_link a.key b.key c.key }
strict ByMachine = record {
  asym = λ a b. lex_asym a.machine b.machine (key_lt a.key b.key) (key_lt b.key a.key) (key_asym a.key b.key);
  link = λ a b c. lex_link a.machine b.machine c.machine (key_lt a.key b.key) (key_lt a.key c.key) (key_lt c.key b.key) (key_link a.key b.key c.key);
}

pub rank_strict : IsStrict goes_before
rank_strict = record {
  asym = λ a b. lex_asym a.spec.prec b.spec.prec (key_lt a.key b.key) (key_lt b.key a.key) (key_asym a.key b.key);
  link = λ a b c. lex_link a.spec.prec b.spec.prec c.spec.prec (key_lt a.key b.key) (key_lt a.key c.key) (key_lt c.key b.key) (key_link a.key b.key c.key);
}

pub apart_by_key : (a b : Task) → is_apart ByKey a b ≡ not (same_key a.key b.key)
apart_by_key a b = key_apart a.key b.key

pub apart_by_machine : (a b : Task) → is_apart ByMachine a b ≡ not (eqb a.machine b.machine && same_key a.key b.key)
apart_by_machine a b =
    lex_apart a.machine b.machine (key_lt a.key b.key) (key_lt b.key a.key) (same_key a.key b.key) (key_apart a.key b.key)

or_comm : (a b : Bool) → (a || b) ≡ (b || a)
or_comm true true = refl
or_comm true false = refl
or_comm false true = refl
or_comm false false = refl

pub apart-sym : (order : Order) (a b : Task) → is_apart order a b ≡ is_apart order b a
apart-sym order a b = or_comm (precedes order a b) (precedes order b a)

-- by key a task's place is that of its key
pub place_of_key : (t : Task) (tasks : List Task) → at_place ByKey t tasks ≡ task_at tasks t.key
place_of_key t [] = refl
place_of_key t (x ∷ xs) =
    let same : not (is_apart ByKey t x) ≡ same_key x.key t.key = ap not (apart-sym ByKey t x ∙ apart_by_key x t) ∙ not_not (same_key x.key t.key) in
    ap₂ (λ (b : Bool) (found : Option Task). cond b (Some x) found) same (place_of_key t xs)
  where
    not_not : (b : Bool) → not (not b) ≡ b
    not_not true = refl
    not_not false = refl

-- the number that an order sorts by first does not fall
pub lead_rises : (order : Order) (a b : Task) → precedes order a b ≡ true → lead order a ≤ lead order b
lead_rises ByKey a b p = lex_rises a.key.job b.key.job (ltb a.key.index b.key.index) p
lead_rises ByMachine a b p = lex_rises a.machine b.machine (key_lt a.key b.key) p
