-- The last commit of a scheduler.
use Rattle.std.proofs.Common.{◌≡◌, ◌≤◌, ◌+◌, ℕ, true, false, List, [], ◌∷◌, ◌++◌, length, refl, ap, arith, ◌∙◌, if◌then◌else◌}
use Rattle.std.specs.Prelude.{◌==◌}
use Rattle.std.specs.List.{fold}
use Rattle.std.proofs.lemmas.Bool.{eq-eqb}
use Rattle.std.proofs.lemmas.List.Sums.{fold-append}
use Rattle.omega_model.specs.Lawful.{LastCommit, after_last, note_commit}
use Rattle.omega_model.specs.Work.{is_commit_of}
use Rattle.omega_model.specs.declared.claims.Judgement.{Judgement}
use Rattle.omega_model.specs.declared.claims.Txn.{Txn}
use Rattle.omega_model.specs.declared.entries.Entry.{Entry}
use Rattle.omega_model.specs.declared.entries.Entry.TheVariants.{Round, MachineAdd, MachineUpdate, MachineRemove, AttrSet, AttrDelete, End, Commit}

note_commit-place : (scheduler : ℕ) (last : LastCommit) (entry : Entry) → (note_commit scheduler last entry).place ≡ last.place + 1
note_commit-place scheduler last (Round number) = refl
note_commit-place scheduler last (MachineAdd machine cap) = refl
note_commit-place scheduler last (MachineUpdate machine cap) = refl
note_commit-place scheduler last (MachineRemove machine) = refl
note_commit-place scheduler last (AttrSet machine name value) = refl
note_commit-place scheduler last (AttrDelete machine name) = refl
note_commit-place scheduler last (End key machine) = refl
note_commit-place scheduler last (Commit by seen txn reply) = refl

-- reading one more entry never puts the last commit past the entries read
note_commit-within : (scheduler : ℕ) (last : LastCommit) (entry : Entry) → last.after ≤ last.place
    → (note_commit scheduler last entry).after ≤ (note_commit scheduler last entry).place
note_commit-within scheduler last (Round number) within = omega arith
note_commit-within scheduler last (MachineAdd machine cap) within = omega arith
note_commit-within scheduler last (MachineUpdate machine cap) within = omega arith
note_commit-within scheduler last (MachineRemove machine) within = omega arith
note_commit-within scheduler last (AttrSet machine name value) within = omega arith
note_commit-within scheduler last (AttrDelete machine name) within = omega arith
note_commit-within scheduler last (End key machine) within = omega arith
note_commit-within scheduler last (Commit by seen txn reply) within =
    elim (by == scheduler) as (λ test. (if test then last.place + 1 else last.after) ≤ last.place + 1)
    [ true ↦ omega arith | false ↦ omega arith ]

last_within : (scheduler : ℕ) (last : LastCommit) (history : List Entry) → last.after ≤ last.place
    → (fold (note_commit scheduler) last history).after ≤ last.place + length history
last_within scheduler last [] within = omega arith
last_within scheduler last (entry ∷ history) within =
    let rest : (fold (note_commit scheduler) (note_commit scheduler last entry) history).after ≤ (note_commit scheduler last entry).place + length history =
    last_within scheduler (note_commit scheduler last entry) history (note_commit-within scheduler last entry within) in
    let next : (note_commit scheduler last entry).place ≡ last.place + 1 = note_commit-place scheduler last entry in
    omega arith

-- the last commit of a scheduler stands within the history
pub after_last-within : (scheduler : ℕ) (history : List Entry) → after_last scheduler history ≤ length history
after_last-within scheduler history =
    let all : (fold (note_commit scheduler) (record { place = 0; after = 0 }) history).after ≤ 0 + length history =
    last_within scheduler (record { place = 0; after = 0 }) history (omega arith) in
    omega arith

-- an entry that is no commit of a scheduler leaves the place after its last one
note_commit-none : (scheduler : ℕ) (last : LastCommit) (entry : Entry) → is_commit_of scheduler entry ≡ false
    → (note_commit scheduler last entry).after ≡ last.after
note_commit-none scheduler last (Round number) none = refl
note_commit-none scheduler last (MachineAdd machine cap) none = refl
note_commit-none scheduler last (MachineUpdate machine cap) none = refl
note_commit-none scheduler last (MachineRemove machine) none = refl
note_commit-none scheduler last (AttrSet machine name value) none = refl
note_commit-none scheduler last (AttrDelete machine name) none = refl
note_commit-none scheduler last (End key machine) none = refl
note_commit-none scheduler last (Commit by seen txn reply) none = rw none refl

pub after_last-none : (scheduler : ℕ) (before : List Entry) (entry : Entry) → is_commit_of scheduler entry ≡ false
    → after_last scheduler (before ++ entry ∷ []) ≡ after_last scheduler before
after_last-none scheduler before entry none =
    ap (λ (last : LastCommit). last.after) (fold-append (note_commit scheduler) (record { place = 0; after = 0 }) before (entry ∷ []))
    ∙ note_commit-none scheduler (fold (note_commit scheduler) (record { place = 0; after = 0 }) before) entry none

-- a commit of another scheduler is none
pub after_last-other : (before : List Entry) (by seen : ℕ) (txn : Txn) (reply : List Judgement) (scheduler : ℕ) → (by == scheduler) ≡ false
    → after_last scheduler (before ++ Commit by seen txn reply ∷ []) ≡ after_last scheduler before
after_last-other before by seen txn reply scheduler other = after_last-none scheduler before (Commit by seen txn reply) other

fold-place : (scheduler : ℕ) (last : LastCommit) (history : List Entry) → (fold (note_commit scheduler) last history).place ≡ last.place + length history
fold-place scheduler last [] = omega arith
fold-place scheduler last (entry ∷ history) =
    let rest = fold-place scheduler (note_commit scheduler last entry) history in
    let next : (note_commit scheduler last entry).place ≡ last.place + 1 = note_commit-place scheduler last entry in
    omega (arith, rest, next)

-- after a commit of a scheduler its last one is that
pub after_last-own : (before : List Entry) (by seen : ℕ) (txn : Txn) (reply : List Judgement)
    → after_last by (before ++ Commit by seen txn reply ∷ []) ≡ length before + 1
after_last-own before by seen txn reply =
    let itself : (by == by) ≡ true = eq-eqb by by refl in
    let start : LastCommit = record { place = 0; after = 0 } in
    let all = fold-place by start before in
    let place : (fold (note_commit by) start before).place ≡ length before = omega (arith, all) in
    ap (λ (last : LastCommit). last.after) (fold-append (note_commit by) start before (Commit by seen txn reply ∷ []))
    ∙ rw itself (ap (λ (n : ℕ). n + 1) place)
