-- Attempts on the first request that a scheduler has left.
use Rattle.std.proofs.Common.{◌≡◌, ◌≤◌, ℕ, false, List, [], ◌∷◌, ◌++◌, length, Option, Some, None, sym, ap, ◌∙◌}
use Rattle.std.specs.Prelude.{option_map}
use Rattle.omega_model.specs.Work.{Agrees, AgreesWithFirst, Standing, is_commit_of, standing_of}
use Rattle.omega_model.specs.declared.claims.Claim.{Claim}
use Rattle.omega_model.specs.declared.claims.Mode.{Mode}
use Rattle.omega_model.specs.declared.claims.Rule.{Rule}
use Rattle.omega_model.specs.declared.claims.Txn.{Txn}
use Rattle.omega_model.specs.declared.entries.Entry.{Entry}
use Rattle.omega_model.specs.declared.rows.Row.{Row}
use Rattle.omega_model.specs.declared.rows.TraceTables.{TraceTables}
use Rattle.omega_model.specs.declared.settings.Settings.{Settings}
use Rattle.omega_model.specs.declared.wishes.Request.{Request}
use Rattle.omega_model.proofs.Standing.{after_entry-other, standing_push}
use Rattle.omega_laws.specs.NextCommit.{HasNoWork, WorksOn, attempt_txn, left_of}

-- what remains after one more entry that is no commit of a scheduler is what remained
pub left_push-other : (settings : Settings) (trace : TraceTables) (rows : List Row) (opened_at : ℕ) (before : List Entry) (entry : Entry) (scheduler : ℕ)
    → opened_at ≤ length before → is_commit_of scheduler entry ≡ false
    → left_of settings trace rows opened_at (before ++ entry ∷ []) scheduler ≡ left_of settings trace rows opened_at before scheduler
left_push-other settings trace rows opened_at before entry scheduler within other =
    ap (option_map (λ (standing : Standing). standing.requests))
    (standing_push settings trace rows opened_at scheduler before entry within
    ∙ after_entry-other settings scheduler (standing_of settings trace rows opened_at scheduler before) entry other)

-- nobody both has work and has none
pub works_or_idle : (settings : Settings) (trace : TraceTables) (rows : List Row) (opened_at : ℕ) (before : List Entry) (scheduler : ℕ) (request : Request)
    → WorksOn settings trace rows opened_at before scheduler request → HasNoWork settings trace rows opened_at before scheduler → ⊥
works_or_idle settings trace rows opened_at before scheduler request works idle =
    let clash : Some [] ≡ Some (request ∷ works.0) = sym idle ∙ works.1 in absurd (cc)

-- the first request that remains is the one that a transaction agrees with
pub first_agrees : (settings : Settings) (scheduler : ℕ) (before : List Entry) (seen : ℕ) (txn : Txn) (standing : Option Standing)
    → AgreesWithFirst settings scheduler before seen txn standing
    → (request : Request) × ((rest : List Request) × ((option_map (λ (standing : Standing). standing.requests) standing ≡ Some (request ∷ rest))
    × Agrees settings scheduler before seen txn request))
first_agrees settings scheduler before seen txn None agrees = absurd agrees
first_agrees settings scheduler before seen txn (Some standing) agrees =
    (agrees.0, (agrees.1.0, (ap (λ (requests : List Request). Some requests) agrees.1.1.0, agrees.1.1.1)))

-- a transaction that agrees with the first request that remains
pub agrees_first : (settings : Settings) (scheduler : ℕ) (before : List Entry) (seen : ℕ) (txn : Txn) (standing : Option Standing) (request : Request) (rest : List Request)
    → option_map (λ (standing : Standing). standing.requests) standing ≡ Some (request ∷ rest)
    → Agrees settings scheduler before seen txn request
    → AgreesWithFirst settings scheduler before seen txn standing
agrees_first settings scheduler before seen txn None request rest is agrees = absurd (cc)
agrees_first settings scheduler before seen txn (Some standing) request rest is agrees =
    let same : standing.requests ≡ request ∷ rest = cc in (request, (rest, (same, agrees)))

-- transactions with the same parts are the same
same_txn : (one other : Txn) → one.job ≡ other.job → one.rule ≡ other.rule → one.mode ≡ other.mode → one.claims ≡ other.claims → one ≡ other
same_txn one other a b c d =
    let with_claims : List Claim → Txn = λ claims. record { job = other.job; rule = other.rule; mode = other.mode; claims = claims } in
    let with_mode : Mode → Txn = λ mode. record { job = other.job; rule = other.rule; mode = mode; claims = one.claims } in
    let with_rule : Rule → Txn = λ rule. record { job = other.job; rule = rule; mode = one.mode; claims = one.claims } in
    let with_job : ℕ → Txn = λ job. record { job = job; rule = one.rule; mode = one.mode; claims = one.claims } in
    ap with_job a ∙ ap with_rule b ∙ ap with_mode c ∙ ap with_claims d

-- a transaction that agrees with a request is that of the attempt on it
pub is_attempt : (settings : Settings) (before : List Entry) (scheduler seen : ℕ) (txn : Txn) (request : Request)
    → Agrees settings scheduler before seen txn request → txn ≡ attempt_txn settings before scheduler seen request
is_attempt settings before scheduler seen txn request agrees =
    same_txn txn (attempt_txn settings before scheduler seen request) agrees.job agrees.rule agrees.mode agrees.claims
