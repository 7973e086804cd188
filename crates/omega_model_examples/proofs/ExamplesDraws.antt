-- Worked answers: the words of the generators, where plans begin, and plans with constraints.
use Rattle.std.proofs.Common.{◌≡◌, ℕ, Bool, true, false, List, [], ◌∷◌, refl}
use Rattle.std.specs.Prelude.{codes}
use Rattle.rand_pcg.specs.Lcg.{state_after}
use Rattle.omega_model.specs.Cell.{Cell}
use Rattle.omega_model.specs.Draws.{new_generator, word_at, drawn_start}
use Rattle.omega_model.specs.Planning.{suits, plan_for}
use Rattle.omega_model.specs.State.{state}
use Rattle.omega_model.specs.declared.cells.Need.{Need}
use Rattle.omega_model.specs.declared.cells.TaskKey.{TaskKey}
use Rattle.omega_model.specs.declared.claims.Claim.{Claim}
use Rattle.omega_model.specs.declared.claims.Judgement.{Judgement}
use Rattle.omega_model.specs.declared.claims.Mode.{Mode}
use Rattle.omega_model.specs.declared.claims.Mode.TheVariants.{Incremental, Gang}
use Rattle.omega_model.specs.declared.claims.Policy.{Policy}
use Rattle.omega_model.specs.declared.claims.Rule.TheVariants.{Fine}
use Rattle.omega_model.specs.declared.claims.Verdict.TheVariants.{Placed}
use Rattle.omega_model.specs.declared.entries.Entry.TheVariants.{MachineAdd, AttrSet, Commit}
use Rattle.omega_model.specs.declared.settings.Clock.TheVariants as clock
use Rattle.omega_model.specs.declared.settings.Command.TheVariants.{Replay}
use Rattle.omega_model.specs.declared.settings.Ends.TheVariants as ends
use Rattle.omega_model.specs.declared.settings.Extra.TheVariants.{Relative}
use Rattle.omega_model.specs.declared.settings.Format.TheVariants.{Text}
use Rattle.omega_model.specs.declared.settings.Preempt.TheVariants.{Nobody}
use Rattle.omega_model.specs.declared.settings.Settings.{Settings}
use Rattle.omega_model.specs.declared.wishes.Constraint.{Constraint}
use Rattle.omega_model.specs.declared.wishes.Op.TheVariants.{Equal, Greater}
use Rattle.omega_model.specs.declared.wishes.Wish.{Wish}

-- the new generators of seed 0
first_state_0 : (new_generator 0 0).state ≡ 0x5851F42D4C957F2E
first_state_0 = refl

first_state_1 : (new_generator 0 1).state ≡ 0x08F5DC87E5C07D8A
first_state_1 = refl

first_state_2 : (new_generator 0 2).state ≡ 0xB999C4E27EEB7BE6
first_state_2 = refl

-- their first words
first_word_0 : word_at (new_generator 0 0) 0 ≡ 0xE4C14788
unfolding state_after
first_word_0 = refl

first_word_1 : word_at (new_generator 0 1) 0 ≡ 0x0F5DEBA9
unfolding state_after
first_word_1 = refl

first_word_2 : word_at (new_generator 0 2) 0 ≡ 0x7AA10266
unfolding state_after
first_word_2 = refl

-- later words
second_word_0 : word_at (new_generator 0 0) 1 ≡ 0x379C6516
unfolding state_after
second_word_0 = refl

fourth_word_1 : word_at (new_generator 0 1) 3 ≡ 0xF8E84C31
unfolding state_after
fourth_word_1 = refl

third_word_2 : word_at (new_generator 0 2) 2 ≡ 0xA37C7F0C
unfolding state_after
third_word_2 = refl

-- a first word of the greatest seed
greatest_seed : word_at (new_generator 18446744073709551615 31) 0 ≡ 0x1D87B274
unfolding state_after
greatest_seed = refl

-- settings with this seed
unfoldable settings : ℕ → Settings
settings seed = record {
  command = Replay;
  seed = seed;
  batch = 2;
  rule = Fine;
  mode = Incremental;
  preempt = Nobody;
  extra = Relative;
  tries = 5;
  give_up = 1000;
  window = 300000000;
  format = Text;
  machines = 0;
  jobs = 0;
  t_job = 100000;
  t_task = 5000;
  service_t_job = 100000;
  service_t_task = 5000;
  clock = clock.Rounds;
  times = false;
  ends = ends.Trace;
}

-- with two machines schedulers 0 and 2 begin at the first, and scheduler 1 at the second
two_machines_0 : drawn_start (settings 0) 0 0 2 ≡ 0
unfolding settings state_after
two_machines_0 = refl

two_machines_1 : drawn_start (settings 0) 1 0 2 ≡ 1
unfolding settings state_after
two_machines_1 = refl

two_machines_2 : drawn_start (settings 0) 2 0 2 ≡ 0
unfolding settings state_after
two_machines_2 = refl

-- with three machines scheduler 0 begins at the second, and scheduler 1 at the third
three_machines_0 : drawn_start (settings 0) 0 0 3 ≡ 1
unfolding settings state_after
three_machines_0 = refl

three_machines_1 : drawn_start (settings 0) 1 0 3 ≡ 2
unfolding settings state_after
three_machines_1 = refl

-- with four machines scheduler 0 begins at the first, and scheduler 1 at the second
four_machines_0 : drawn_start (settings 0) 0 0 4 ≡ 0
unfolding settings state_after
four_machines_0 = refl

four_machines_1 : drawn_start (settings 0) 1 0 4 ≡ 1
unfolding settings state_after
four_machines_1 = refl

-- the next attempt takes the next word: 407017181 leaves 1 of 5, 257813417 left 2
second_attempt : drawn_start (settings 0) 1 1 5 ≡ 1
unfolding settings state_after
second_attempt = refl

first_attempt : drawn_start (settings 0) 1 0 5 ≡ 2
unfolding settings state_after
first_attempt = refl

-- without a machine the place is 0
no_machines : drawn_start (settings 7) 1 3 0 ≡ 0
unfolding settings
no_machines = refl

unfoldable amount : ℕ → Need
amount n = record { cpu = n; mem = n; disk = 0 }

unfoldable task_key : ℕ → ℕ → TaskKey
task_key job index = record { job = job; index = index }

unfoldable wish : ℕ → ℕ → ℕ → List Constraint → Wish
wish job n prec constraints =
    record { key = task_key job 0; spec = record { need = amount n; prec = prec; differ = false }; constraints = constraints }

unfoldable claim : ℕ → ℕ → ℕ → ℕ → List TaskKey → Claim
claim machine job n prec victims =
    record { key = task_key job 0; machine = machine; spec = record { need = amount n; prec = prec; differ = false }; victims = victims }

-- the constraint that attribute k is above 4
unfoldable above_four : Constraint
above_four = record { op = Greater; name = codes "k"; value = codes "4" }

unfoldable unset : Constraint
unset = record { op = Equal; name = codes "k"; value = [] }

unfoldable policy : Mode → Bool → Policy
policy mode preempt = record { rule = Fine; mode = mode; preempt = preempt }

-- two machines of capacity 10, of which the second has attribute k at 5
unfoldable cell : Cell
cell = state (MachineAdd 1 (amount 10) ∷ MachineAdd 2 (amount 10) ∷ AttrSet 2 (codes "k") (codes "5") ∷ [])

-- a wish with a constraint goes where the attribute meets it
constrained : plan_for cell (wish 10 1 1 (above_four ∷ []) ∷ []) 0 (policy Incremental false) ≡ claim 2 10 1 1 [] ∷ []
unfolding amount task_key wish claim above_four policy cell
constrained = refl

-- one without goes on the first machine from the start on
unconstrained : plan_for cell (wish 10 1 1 [] ∷ []) 0 (policy Incremental false) ≡ claim 1 10 1 1 [] ∷ []
unfolding amount task_key wish claim policy cell
unconstrained = refl

-- two constraints that no machine meets both leave the wish out, and a gang with it is none
unmet : plan_for cell (wish 10 1 1 (above_four ∷ unset ∷ []) ∷ wish 11 1 1 [] ∷ []) 1 (policy Incremental false) ≡ claim 2 11 1 1 [] ∷ []
unfolding amount task_key wish claim above_four unset policy cell
unmet = refl

unmet_gang : plan_for cell (wish 10 1 1 (above_four ∷ unset ∷ []) ∷ wish 11 1 1 [] ∷ []) 1 (policy Gang false) ≡ []
unfolding amount task_key wish above_four unset policy cell
unmet_gang = refl

-- an attribute that isn't set is equal to the empty text
unset_suits : suits (wish 10 1 1 (unset ∷ [])) [] ≡ true
unfolding amount task_key wish unset
unset_suits = refl

set_suits_not : suits (wish 10 1 1 (unset ∷ [])) (record { name = codes "k"; value = codes "5" } ∷ []) ≡ false
unfolding amount task_key wish unset
set_suits_not = refl

unfoldable placed : Judgement
placed = record { verdict = Placed; evicted = [] }

-- both machines are full, and evictions are looked for on the machine alone that suits
unfoldable full_cell : Cell
full_cell = state (
    MachineAdd 1 (amount 10) ∷ MachineAdd 2 (amount 10) ∷ AttrSet 2 (codes "k") (codes "5")
    ∷ Commit 1 3 (record { job = 1; rule = Fine; mode = Incremental; claims = claim 1 1 10 1 [] ∷ claim 2 2 10 1 [] ∷ [] }) (placed ∷ placed ∷ [])
    ∷ [])

evicts_where_it_suits : plan_for full_cell (wish 10 1 2 (above_four ∷ []) ∷ []) 0 (policy Incremental true) ≡ claim 2 10 1 2 (task_key 2 0 ∷ []) ∷ []
unfolding amount task_key wish claim above_four policy placed full_cell
evicts_where_it_suits = refl

evicts_on_the_first : plan_for full_cell (wish 10 1 2 [] ∷ []) 0 (policy Incremental true) ≡ claim 1 10 1 2 (task_key 1 0 ∷ []) ∷ []
unfolding amount task_key wish claim policy placed full_cell
evicts_on_the_first = refl
