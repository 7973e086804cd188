-- What is written of a commit is read again.
use Rattle.std.proofs.Common.{◌≡◌, ℕ, zero, suc, ◌+◌, ◌^◌, ◌<◌, ◌≤◌, Bool, true, false, not, ◌==◌, List, [], ◌∷◌, ◌++◌, Option, Some, map, length, refl, ap, ◌∙◌, arith, codes, append_assoc}
use Rattle.std.specs.List.{AllByRecursion, flat_map, list_all, zip}
use Rattle.std.proofs.lemmas.Bool.{lt-ltb}
use Rattle.std.proofs.lemmas.List.{length-append}
use Rattle.omega_model.specs.Report.{Line, Word, Name, Number, word_text}
use Rattle.omega_model.specs.declared.cells.TaskKey.{TaskKey}
use Rattle.omega_model.specs.declared.claims.Claim.{Claim}
use Rattle.omega_model.specs.declared.claims.Judgement.{Judgement}
use Rattle.omega_model.specs.declared.claims.Mode.{Mode}
use Rattle.omega_model.specs.declared.claims.Mode.TheVariants.{Incremental, Gang}
use Rattle.omega_model.specs.declared.claims.Rule.{Rule}
use Rattle.omega_model.specs.declared.claims.Rule.TheVariants.{Fine, Coarse}
use Rattle.omega_model.specs.declared.claims.Txn.{Txn}
use Rattle.omega_model.specs.declared.claims.Verdict.{Verdict}
use Rattle.omega_model.specs.declared.claims.Verdict.TheVariants.{Placed, NoMachine, AlreadyRunning, Changed, VictimRank, SameJob, Full, Withdrawn}
use Rattle.omega_model.specs.declared.entries.Entry.TheVariants.{Commit}
use Rattle.omega_keep.specs.KeptLines.{need_words, key_words, keys_words, rule_text, mode_text, flag, verdict_words, head_words, claim_words, parted, IsKey, AreKeys, IsVerdict, IsClaim, IsJudgement}
use Rattle.omega_keep.specs.Reading.{◌>>=◌, is_space, word_at, rest_at, tiny_at, keys_from, keys_at, rule_of, mode_of, running_at, changed_at, rank_at, same_at, full_at, withdrawn_at, verdict_named, verdict_at, claim_at, judgement_at, claims_from, claims_at, commit_at}
use Rattle.omega_keep.proofs.Again.{AreLetters, letters_if, word_again, rest_again, number_again, short_again, need_again, key_again}
use Rattle.omega_keep.proofs.Loops.{at_end, one_claim}

tiny_again : (n : ℕ) (words : Line) → n < 2 ^ 8 → tiny_at (parted (Number n ∷ words)) ≡ Some (n, parted words)
unfolding tiny_at
tiny_again n words h =
    let small = lt-ltb n (2 ^ 8) h in
    rw (number_again n words (omega (arith, h)), small) refl

skipped : (name : List ℕ) (words : Line) → AreLetters name → rest_at (parted (Name name ∷ words)) ≡ parted words
skipped name words letters = rest_again name (map word_text words) letters

named : (name : List ℕ) (words : Line) → AreLetters name → word_at (parted (Name name ∷ words)) ≡ name
named name words letters = word_again name (map word_text words) letters

-- ---- names of tasks

keys_again : (keys : List TaskKey) (words : Line) → AllByRecursion IsKey keys → keys_from (length keys) (parted (flat_map key_words keys ++ words)) ≡ Some (keys, parted words)
unfolding keys_from
keys_again [] words h = refl
keys_again (key ∷ keys) words h =
    rw (key_again key (flat_map key_words keys ++ words) h.0, keys_again keys words h.1) refl

list_again : (keys : List TaskKey) (words : Line) → AreKeys keys → keys_at (parted (keys_words keys ++ words)) ≡ Some (keys, parted words)
unfolding keys_at
list_again keys words h =
    rw (number_again (length keys) (flat_map key_words keys ++ words) h.0, keys_again keys words h.1) refl

-- ---- verdicts

verdict_from : (name : List ℕ) (words : Line) (read : Option (Verdict × List ℕ)) → list_all (λ byte. not (is_space byte)) name ≡ true
    → verdict_named name (parted words) ≡ read → verdict_at (parted (Name name ∷ words)) ≡ read
unfolding verdict_at
verdict_from name words read test h =
    let letters = letters_if name test in
    rw (named name words letters, skipped name words letters) h

verdict_again : (verdict : Verdict) (words : Line) → IsVerdict verdict → verdict_at (parted (verdict_words verdict ++ words)) ≡ Some (verdict, parted words)
unfolding verdict_named running_at changed_at rank_at same_at full_at withdrawn_at
verdict_again Placed words h = verdict_from (codes "placed") words _ refl refl
verdict_again NoMachine words h = verdict_from (codes "no-machine") words _ refl refl
verdict_again (AlreadyRunning machine) words h = verdict_from (codes "running") (Number machine ∷ words) _ refl (rw (number_again machine words h) refl)
verdict_again (Changed now copy) words h =
    verdict_from (codes "changed") (Number now ∷ Number copy ∷ words) _ refl (rw (number_again now (Number copy ∷ words) h.0, number_again copy words h.1) refl)
verdict_again (VictimRank key) words h = verdict_from (codes "victim-rank") (key_words key ++ words) _ refl (rw (key_again key words h) refl)
verdict_again (SameJob key) words h = verdict_from (codes "same-job") (key_words key ++ words) _ refl (rw (key_again key words h) refl)
verdict_again (Full free) words h = verdict_from (codes "full") (need_words free ++ words) _ refl (rw (need_again free words h) refl)
verdict_again (Withdrawn place) words h = verdict_from (codes "withdrawn") (Number place ∷ words) _ refl (rw (short_again place words h) refl)

-- ---- claims

flag_again : (b : Bool) → (flag b == 1) ≡ b
flag_again true = refl
flag_again false = refl

flag_small : (b : Bool) → flag b < 2 ^ 64
flag_small true = omega arith
flag_small false = omega arith

claim_with : (first second : List ℕ) (claim : Claim) (words : Line) → AreLetters first → AreLetters second → IsClaim claim
    → claim_at (parted (Name first ∷ Number claim.key.job ∷ Number claim.key.index ∷ Number claim.machine
    ∷ Number claim.spec.need.cpu ∷ Number claim.spec.need.mem ∷ Number claim.spec.need.disk
    ∷ Number claim.spec.prec ∷ Number (flag claim.spec.differ) ∷ Name second ∷ (keys_words claim.victims ++ words)))
    ≡ Some (claim, parted words)
unfolding claim_at
claim_with first second claim words lf ls h =
    let w8 : Line = Name second ∷ (keys_words claim.victims ++ words) in
    let w7 : Line = Number (flag claim.spec.differ) ∷ w8 in
    let w6 : Line = Number claim.spec.prec ∷ w7 in
    let w5 : Line = need_words claim.spec.need ++ w6 in
    let w4 : Line = Number claim.machine ∷ w5 in
    rw (
      skipped first (key_words claim.key ++ w4) lf,
      key_again claim.key w4 h.key,
      number_again claim.machine w5 h.machine,
      need_again claim.spec.need w6 h.need,
      tiny_again claim.spec.prec w7 h.prec,
      number_again (flag claim.spec.differ) w8 (flag_small claim.spec.differ),
      skipped second (keys_words claim.victims ++ words) ls,
      list_again claim.victims words h.victims,
      flag_again claim.spec.differ,
    ) refl

judgement_with : (name : List ℕ) (judgement : Judgement) (words : Line) → AreLetters name → IsJudgement judgement
    → judgement_at (parted (verdict_words judgement.verdict ++ Name name ∷ (keys_words judgement.evicted ++ words))) ≡ Some (judgement, parted words)
unfolding judgement_at
judgement_with name judgement words letters h =
    rw (
      verdict_again judgement.verdict (Name name ∷ (keys_words judgement.evicted ++ words)) h.verdict,
      skipped name (keys_words judgement.evicted ++ words) letters,
      list_again judgement.evicted words h.evicted,
    ) refl

-- the words of a judgement, before others
abbrev judged : Judgement → Line → Line
judged judgement words = verdict_words judgement.verdict ++ Name (codes "evicted") ∷ (keys_words judgement.evicted ++ words)

-- the words of a claim, before others
abbrev claimed : Claim → Line → Line
claimed claim words = head_words claim ++ Name (codes "victims") ∷ (keys_words claim.victims ++ words)

regroup : (claim : Claim) (judgement : Judgement) (words : Line) → claim_words (claim, judgement) ++ words ≡ claimed claim (judged judgement words)
regroup claim judgement words =
    let evicted : Line = Name (codes "evicted") ∷ keys_words judgement.evicted in
    ap (λ (t : Line). head_words claim ++ Name (codes "victims") ∷ Number (length claim.victims) ∷ t)
    (append_assoc (flat_map key_words claim.victims ++ verdict_words judgement.verdict) evicted words
    ∙ append_assoc (flat_map key_words claim.victims) (verdict_words judgement.verdict) (evicted ++ words))

longer : (word : Word) (words : Line) → length (word_text word) + length (parted words) ≤ length (parted (word ∷ words))
longer word [] = omega arith
longer word (next ∷ words) = omega (arith, length-append (word_text word) (32 ∷ parted (next ∷ words)))

longer_all : (front words : Line) → length (parted words) ≤ length (parted (front ++ words))
longer_all [] words = omega arith
longer_all (word ∷ front) words = omega (arith, longer word (front ++ words), longer_all front words)

-- the words of a claim behind the first
abbrev behind_first : Claim × Judgement → Line
behind_first (claim, judgement) =
    (Number claim.key.job ∷ Number claim.key.index ∷ Number claim.machine
    ∷ Number claim.spec.need.cpu ∷ Number claim.spec.need.mem ∷ Number claim.spec.need.disk
    ∷ Number claim.spec.prec ∷ Number (flag claim.spec.differ) ∷ [])
    ++ (Name (codes "victims") ∷ keys_words claim.victims) ++ verdict_words judgement.verdict ++ (Name (codes "evicted") ∷ keys_words judgement.evicted)

longer_claim : (claim : Claim) (judgement : Judgement) (words : Line) → 5 + length (parted words) ≤ length (parted (claim_words (claim, judgement) ++ words))
longer_claim claim judgement words =
    omega (arith, longer (Name (codes "claim")) (behind_first (claim, judgement) ++ words), longer_all (behind_first (claim, judgement)) words)

enough : (claims : List Claim) (reply : List Judgement) → length reply ≡ length claims → length claims ≤ length (parted (flat_map claim_words (zip claims reply)))
enough [] reply same = omega arith
enough (claim ∷ claims) [] same = absurd (omega arith)
enough (claim ∷ claims) (judgement ∷ reply) same =
    omega (arith, longer_claim claim judgement (flat_map claim_words (zip claims reply)), enough claims reply (omega arith))

claims_again : (fuel : ℕ) (claims : List Claim) (reply : List Judgement) → length reply ≡ length claims → AllByRecursion IsClaim claims → AllByRecursion IsJudgement reply → length claims ≤ fuel
    → claims_from fuel (parted (flat_map claim_words (zip claims reply))) ≡ Some (claims, reply)
claims_again fuel [] [] same cs js le = at_end fuel [] refl
claims_again fuel [] (judgement ∷ reply) same cs js le = absurd (omega arith)
claims_again fuel (claim ∷ claims) [] same cs js le = absurd (omega arith)
claims_again zero (claim ∷ claims) (judgement ∷ reply) same cs js le = absurd (omega arith)
claims_again (suc fuel) (claim ∷ claims) (judgement ∷ reply) same cs js le =
    let more : Line = flat_map claim_words (zip claims reply) in
    let victims = letters_if (codes "victims") refl in
    let evicted = letters_if (codes "evicted") refl in
    let first = letters_if (codes "claim") refl in
    let is = ap parted (regroup claim judgement more) in
    let c : claim_at (parted (claim_words (claim, judgement) ++ more)) ≡ Some (claim, parted (judged judgement more)) =
    ap claim_at is ∙ claim_with (codes "claim") (codes "victims") claim (judged judgement more) first victims cs.0 in
    let j = judgement_with (codes "evicted") judgement more evicted js.0 in
    one_claim fuel (parted (claim_words (claim, judgement) ++ more)) (parted (judged judgement more)) (parted more) claim judgement (omega (arith, longer_claim claim judgement more)) c j
    ∙ ap (λ (r : Option (List Claim × List Judgement)). r >>= λ x. Some (claim ∷ x.0, judgement ∷ x.1)) (claims_again fuel claims reply (omega arith) cs.1 js.1 (omega arith))

-- ---- commits

rule_again : (rule : Rule) → rule_of (rule_text rule) ≡ rule
unfolding rule_of
rule_again Fine = refl
rule_again Coarse = refl

rule_letters : (rule : Rule) → AreLetters (rule_text rule)
rule_letters Fine = letters_if (codes "fine") refl
rule_letters Coarse = letters_if (codes "coarse") refl

mode_again : (mode : Mode) → mode_of (mode_text mode) ≡ mode
unfolding mode_of
mode_again Incremental = refl
mode_again Gang = refl

mode_letters : (mode : Mode) → AreLetters (mode_text mode)
mode_letters Incremental = letters_if (codes "incremental") refl
mode_letters Gang = letters_if (codes "gang") refl

pub commit_again : (scheduler seen : ℕ) (txn : Txn) (reply : List Judgement) → scheduler < 2 ^ 32 → seen < 2 ^ 64 → txn.job < 2 ^ 64 → AllByRecursion IsClaim txn.claims → AllByRecursion IsJudgement reply
    → length reply ≡ length txn.claims
    → commit_at (parted (Number scheduler ∷ Number seen ∷ Number txn.job ∷ Name (rule_text txn.rule) ∷ Name (mode_text txn.mode) ∷ flat_map claim_words (zip txn.claims reply)))
    ≡ Some (Commit scheduler seen txn reply)
unfolding commit_at claims_at
commit_again scheduler seen txn reply s e j cs js same =
    let w5 : Line = flat_map claim_words (zip txn.claims reply) in
    let w4 : Line = Name (mode_text txn.mode) ∷ w5 in
    let w3 : Line = Name (rule_text txn.rule) ∷ w4 in
    rw (
      short_again scheduler (Number seen ∷ Number txn.job ∷ w3) s,
      number_again seen (Number txn.job ∷ w3) e,
      number_again txn.job w3 j,
      skipped (rule_text txn.rule) w4 (rule_letters txn.rule),
      named (rule_text txn.rule) w4 (rule_letters txn.rule),
      skipped (mode_text txn.mode) w5 (mode_letters txn.mode),
      named (mode_text txn.mode) w5 (mode_letters txn.mode),
      claims_again (length (parted w5)) txn.claims reply same cs js (enough txn.claims reply same),
      rule_again txn.rule,
      mode_again txn.mode,
    ) refl
