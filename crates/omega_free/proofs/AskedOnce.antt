-- No request wishes for a task twice, also where jobs that are given up count.
use Rattle.std.proofs.Common.{◌≡◌, ◌≤◌, ◌+◌, ℕ, Bool, true, not, List, [], ◌∷◌, length, refl, sym, ap, subst, ◌∙◌, arith}
use Rattle.std.specs.Prelude.{◌==◌}
use Rattle.std.specs.List.{All, filter, fold, list_any}
use Rattle.std.proofs.lemmas.Bool.{lt-leb}
use Rattle.omega_feed.specs.Asked.{Asked, asked_after}
use Rattle.omega_model.proofs.Lists.{by_answer}
use Rattle.omega_model.proofs.OpenRequests.{requests_from_open}
use Rattle.omega_model.specs.Cell.{Cell}
use Rattle.omega_model.specs.ExtraTasks.{HasLowIndex}
use Rattle.omega_model.specs.OpenRequests.{is_worked_on, open_requests}
use Rattle.omega_model.specs.Reply.{admits}
use Rattle.omega_model.specs.Requests.{failed, failed_after}
use Rattle.omega_model.specs.State.{state}
use Rattle.omega_model.specs.Wanted.{wanted}
use Rattle.omega_model.specs.declared.entries.Entry.{Entry}
use Rattle.omega_model.specs.declared.entries.Entry.TheVariants.{Round, MachineAdd, MachineUpdate, MachineRemove, AttrSet, AttrDelete, End, Commit}
use Rattle.omega_model.specs.declared.rows.Row.{Row}
use Rattle.omega_model.specs.declared.rows.TraceTables.{TraceTables}
use Rattle.omega_model.specs.declared.settings.Settings.{Settings}
use Rattle.omega_model.specs.declared.wishes.Request.{Request}
use Rattle.omega_desk.proofs.Asked.{requests_distinct}
use Rattle.omega_desk.specs.Walks.{HasDistinctWishes}
use Rattle.omega_free.specs.PassDesks.{IsAsked, IsOfSome}

failed_grows : (job count : ℕ) (entry : Entry) → failed_after job count entry ≤ count + 1
failed_grows job count (Round number) = omega arith
failed_grows job count (MachineAdd machine cap) = omega arith
failed_grows job count (MachineUpdate machine cap) = omega arith
failed_grows job count (MachineRemove machine) = omega arith
failed_grows job count (AttrSet machine name value) = omega arith
failed_grows job count (AttrDelete machine name) = omega arith
failed_grows job count (End key machine) = omega arith
failed_grows job count (Commit scheduler seen txn reply) =
    by_answer (txn.job == job)
    (λ t. by_answer (list_any admits reply) (λ a. rw (t, a) (omega arith)) (λ b. rw (t, b) (omega arith)))
    (λ f. rw f (omega arith))

failed_within : (job count : ℕ) (history : List Entry) → fold (failed_after job) count history ≤ count + length history
failed_within job count [] = omega arith
failed_within job count (entry ∷ history) =
    let rest : fold (failed_after job) (failed_after job count entry) history ≤ failed_after job count entry + length history =
    failed_within job (failed_after job count entry) history in
    let one : failed_after job count entry ≤ count + 1 = failed_grows job count entry in
    omega (arith, rest, one)

all_kept : {X : Type 0} (test : X → Bool) → ((x : X) → test x ≡ true) → (xs : List X) → filter test xs ≡ xs
all_kept test passes [] = refl
all_kept test passes (x ∷ xs) = rw (passes x) (ap (λ rest. x ∷ rest) (all_kept test passes xs))

open_distinct : (settings : Settings) (trace : TraceTables) (rows : List Row) (history : List Entry) (scheduler : ℕ)
    → All HasLowIndex (wanted rows) → All HasDistinctWishes (open_requests settings trace rows (state history) scheduler)
open_distinct settings trace rows history scheduler low =
    let patient : Settings = record settings { give_up = length history + 1 } in
    let all : List Request = open_requests settings trace rows (state history) scheduler in
    let tried : (request : Request) → is_worked_on patient history request ≡ true =
    λ request. let few : failed history request.job ≤ 0 + length history = failed_within request.job 0 history in
    ap not (lt-leb (length history + 1) (failed history request.job) (omega (arith, few))) in
    subst (All HasDistinctWishes) (requests_from_open patient trace rows history scheduler ∙ all_kept (is_worked_on patient history) tried all)
    (requests_distinct patient trace rows history scheduler low)

-- what is asked of a scheduler wishes for no task twice
pub asked_distinct : (asked : Asked) (cell : Cell) (number : ℕ) (all : List Request) → IsAsked asked → IsOfSome cell → All HasLowIndex asked.tasks
    → ((settings : Settings) (trace : TraceTables) (rows : List Row) → asked ≡ asked_after settings trace rows → all ≡ open_requests settings trace rows cell number)
    → All HasDistinctWishes all
asked_distinct asked cell number all is of low are =
    subst (All HasDistinctWishes)
    (sym (are is.settings is.trace is.rows is.asks ∙ ap (λ (c : Cell). open_requests is.settings is.trace is.rows c number) of.1))
    (open_distinct is.settings is.trace is.rows of.0 number (subst (All HasLowIndex) (ap (λ (a : Asked). a.tasks) is.asks) low))
