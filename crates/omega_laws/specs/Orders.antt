-- Rules by which the commits of a round stand in one order.
use Rattle.std.specs.Prelude.{◌≡◌, ◌≢◌, ℕ, Bool, IsTrue, List, [], ◌∷◌, ◌++◌, Some, ◌≤◌, ◌⊎◌, length, take, slice_get}
use Rattle.omega_model.specs.Lawful.{RoundOf, opened}
use Rattle.omega_model.specs.declared.claims.Judgement.{Judgement}
use Rattle.omega_model.specs.declared.claims.Txn.{Txn}
use Rattle.omega_model.specs.declared.entries.Entry.{Entry}
use Rattle.omega_model.specs.declared.entries.Entry.TheVariants.{Commit}
use Rattle.omega_model.specs.declared.rows.Row.{Row}
use Rattle.omega_model.specs.declared.rows.Round.{Round}
use Rattle.omega_model.specs.declared.rows.TraceTables.{TraceTables}
use Rattle.omega_model.specs.declared.settings.Settings.{Settings}
use Rattle.omega_model.specs.declared.wishes.Request.{Request}
use Rattle.omega_laws.specs.NextCommit.{ComesNext, WorksOn}

-- the entries of a history from a place on keep to a rule that is said of an entry and those before it
abbrev pub KeepsFrom : (List Entry → Entry → Type 0) → ℕ → List Entry → Type 0
KeepsFrom Keeps from history =
    (place : ℕ) (entry : Entry) → slice_get history place ≡ Some entry → from ≤ place → Keeps (take place history) entry

-- a rule `Keeps`, which is said of an entry and those before it, puts the commits of a round in one order.
-- `GoesBefore` says which of two schedulers goes before the other, `IsPassed` that a scheduler has missed its
-- place, and `sees` how many entries the next commit of a scheduler has seen. Of two schedulers just one goes
-- before the other; one that has work and goes before another is passed once that other has committed; it
-- stays so; and no commit of a scheduler that is passed keeps to the rule
pub record Orders (settings : Settings) (trace : TraceTables) (rows : List Row) (opened_at : ℕ)
    (Keeps : List Entry → Entry → Type 0) (GoesBefore : List Entry → ℕ → ℕ → Type 0) (IsPassed : List Entry → ℕ → Type 0)
    (sees : List Entry → ℕ → ℕ) : Type 0 where
  pub has_seen : (before : List Entry) (scheduler seen : ℕ) (txn : Txn) (reply : List Judgement)
      → Keeps before (Commit scheduler seen txn reply) → seen ≡ sees before scheduler
  pub either : (before : List Entry) (one other : ℕ) → other ≢ one → GoesBefore before one other ⊎ GoesBefore before other one
  pub not_both : (before : List Entry) (one other : ℕ) → GoesBefore before one other → GoesBefore before other one → ⊥
  pub passes : (before : List Entry) (by seen : ℕ) (txn : Txn) (reply : List Judgement) (scheduler : ℕ) (request : Request)
      → opened_at ≤ length before → by ≢ scheduler → WorksOn settings trace rows opened_at before scheduler request
      → GoesBefore before scheduler by → IsPassed (before ++ Commit by seen txn reply ∷ []) scheduler
  pub stays : (before : List Entry) (by seen : ℕ) (txn : Txn) (reply : List Judgement) (scheduler : ℕ) (request : Request)
      → opened_at ≤ length before → by ≢ scheduler → WorksOn settings trace rows opened_at before scheduler request
      → IsPassed before scheduler → IsPassed (before ++ Commit by seen txn reply ∷ []) scheduler
  pub stops : (before : List Entry) (scheduler seen : ℕ) (txn : Txn) (reply : List Judgement)
      → IsPassed before scheduler → Keeps before (Commit scheduler seen txn reply) → ⊥

-- a rule that is given by tests
pub record Rule : Type 0 where
  pub keeps : List Entry → Entry → Bool
  pub goes_before : List Entry → ℕ → ℕ → Bool
  pub is_passed : List Entry → ℕ → Bool
  pub sees : List Entry → ℕ → ℕ

-- an entry keeps to the rule
abbrev pub RuleKeeps : Rule → List Entry → Entry → Type 0
RuleKeeps rule before entry = IsTrue (rule.keeps before entry)

-- of two schedulers one goes before the other by the rule
abbrev pub RuleBefore : Rule → List Entry → ℕ → ℕ → Type 0
RuleBefore rule before one other = IsTrue (rule.goes_before before one other)

-- a scheduler is passed by the rule
abbrev pub IsPassedBy : Rule → List Entry → ℕ → Type 0
IsPassedBy rule before scheduler = IsTrue (rule.is_passed before scheduler)

-- a rule that is given by tests puts the commits of a round in one order
abbrev pub RuleOrders : Settings → TraceTables → List Row → ℕ → Rule → Type 0
RuleOrders settings trace rows opened_at rule =
    Orders settings trace rows opened_at (RuleKeeps rule) (RuleBefore rule) (IsPassedBy rule) rule.sees

-- a history is, after these rows and this history, a whole round whose commits keep to a rule
pub record OrderedRound (settings : Settings) (trace : TraceTables) (rows : List Row) (start : List Entry) (round : Round) (Keeps : List Entry → Entry → Type 0) (history : List Entry) : Type 0 where
  pub whole : RoundOf settings trace rows start round history
  pub keeps : KeepsFrom Keeps (length (opened trace rows start round).history) history

-- a history is made of these rounds in order, after these rows and this history, and each round's commits
-- keep to the rule of that round
abbrev pub OrderedRounds : Settings → TraceTables → (List Row → List Entry → Round → List Entry → Entry → Type 0) → List Row → List Entry → List Round → List Entry → Type 0
OrderedRounds settings trace Keeps rows start [] history = history ≡ start
OrderedRounds settings trace Keeps rows start (round ∷ rest) history =
    (middle : List Entry) × (OrderedRound settings trace rows start round (Keeps rows start round) middle
    × OrderedRounds settings trace Keeps (rows ++ round.rows) middle rest history)

-- at each place of a round, from its rows to its end, stands what comes next after the entries before it
abbrev pub EachComesNext : Settings → TraceTables → List Row → List Entry → Round → (List Entry → ℕ → ℕ → Type 0) → (List Entry → ℕ → ℕ) → List Entry → Type 0
EachComesNext settings trace rows start round GoesBefore sees history =
    (place : ℕ) → length (opened trace rows start round).history ≤ place → place ≤ length history
    → ComesNext settings trace (rows ++ round.rows) (length (opened trace rows start round).history) GoesBefore sees
    (take place history) (slice_get history place)

-- a rule puts the commits of this round in one order
abbrev pub RuleOrdersRound : Settings → TraceTables → List Row → List Entry → Round → Rule → Type 0
RuleOrdersRound settings trace rows start round rule =
    RuleOrders settings trace (rows ++ round.rows) (length (opened trace rows start round).history) rule

-- a history is a whole round whose commits keep to a rule
abbrev pub RuledRound : Settings → TraceTables → List Row → List Entry → Round → Rule → List Entry → Type 0
RuledRound settings trace rows start round rule history = OrderedRound settings trace rows start round (RuleKeeps rule) history

-- a history is made of these rounds, each of which keeps to its rule
abbrev pub RuledRounds : Settings → TraceTables → (List Row → List Entry → Round → Rule) → List Row → List Entry → List Round → List Entry → Type 0
RuledRounds settings trace rule rows start some history =
    OrderedRounds settings trace (λ rows start round. RuleKeeps (rule rows start round)) rows start some history
