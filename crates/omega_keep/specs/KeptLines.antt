-- The line of an entry: words parted by one space, without a line feed.
use Rattle.std.specs.Prelude.{◌≡◌, ℕ, ◌<◌, ◌^◌, ⊤, Bool, true, false, if◌then◌else◌, List, [], ◌∷◌, ◌++◌, map, codes, length}
use Rattle.std.specs.List.{flat_map, join_with_byte, zip, AllByRecursion}
use Rattle.hex.specs.Hex.{encode_lower, IsBytes}
use Rattle.omega_model.specs.Report.{Line, Word, Name, Number, word_text, refusal_words}
use Rattle.omega_model.specs.Touches.{is_placed}
use Rattle.omega_model.specs.declared.claims.Claim.{Claim}
use Rattle.omega_model.specs.declared.claims.Judgement.{Judgement}
use Rattle.omega_model.specs.declared.claims.Mode.{Mode}
use Rattle.omega_model.specs.declared.claims.Mode.TheVariants.{Incremental, Gang}
use Rattle.omega_model.specs.declared.claims.Rule.{Rule}
use Rattle.omega_model.specs.declared.claims.Rule.TheVariants.{Fine, Coarse}
use Rattle.omega_model.specs.declared.claims.Verdict.{Verdict}
use Rattle.omega_model.specs.declared.claims.Verdict.TheVariants.{Placed, NoMachine, AlreadyRunning, Changed, VictimRank, SameJob, Full, Withdrawn}
use Rattle.omega_model.specs.declared.cells.Need.{Need}
use Rattle.omega_model.specs.declared.cells.TaskKey.{TaskKey}
use Rattle.omega_model.specs.declared.entries.Entry.{Entry}
use Rattle.omega_model.specs.declared.entries.Entry.TheVariants.{Round, MachineAdd, MachineUpdate, MachineRemove, AttrSet, AttrDelete, End, Commit}

-- the words of an amount
abbrev pub need_words : Need → Line
need_words need = Number need.cpu ∷ Number need.mem ∷ Number need.disk ∷ []

-- the words of the name of a task
abbrev pub key_words : TaskKey → Line
key_words key = Number key.job ∷ Number key.index ∷ []

-- bytes in lower-case hexadecimal, two digits for each; a dash where there are none
abbrev pub bytes_text : List ℕ → List ℕ
bytes_text [] = codes "-"
bytes_text (byte ∷ bytes) = encode_lower (byte ∷ bytes)

-- the word of a name or a value
abbrev pub bytes_word : List ℕ → Word
bytes_word bytes = Name (bytes_text bytes)

-- how many tasks there are, and their names
abbrev pub keys_words : List TaskKey → Line
keys_words keys = Number (length keys) ∷ flat_map key_words keys

-- the keyword of a rule
abbrev pub rule_text : Rule → List ℕ
rule_text Fine = codes "fine"
rule_text Coarse = codes "coarse"

-- the keyword of a mode
abbrev pub mode_text : Mode → List ℕ
mode_text Incremental = codes "incremental"
mode_text Gang = codes "gang"

-- the number of a flag
abbrev pub flag : Bool → ℕ
flag false = 0
flag true = 1

-- the words of a verdict: those of a refused claim in the report, or one for a claim that is placed
abbrev pub verdict_words : Verdict → Line
verdict_words verdict = if is_placed verdict then Name (codes "placed") ∷ [] else refusal_words verdict

-- the words of a claim up to its victims
abbrev pub head_words : Claim → Line
head_words claim =
    Name (codes "claim") ∷ Number claim.key.job ∷ Number claim.key.index ∷ Number claim.machine
    ∷ Number claim.spec.need.cpu ∷ Number claim.spec.need.mem ∷ Number claim.spec.need.disk
    ∷ Number claim.spec.prec ∷ Number (flag claim.spec.differ) ∷ []

-- the words of a claim and of what was answered to it: its victims, the verdict, and whom it evicts
abbrev pub claim_words : Claim × Judgement → Line
claim_words (claim, judgement) =
    head_words claim
    ++ (Name (codes "victims") ∷ keys_words claim.victims)
    ++ verdict_words judgement.verdict
    ++ (Name (codes "evicted") ∷ keys_words judgement.evicted)

-- the words of an entry: what it is, and its numbers and names in order
abbrev pub entry_words : Entry → Line
entry_words (Round number) = Name (codes "round") ∷ Number number ∷ []
entry_words (MachineAdd machine cap) = Name (codes "add") ∷ Number machine ∷ need_words cap
entry_words (MachineUpdate machine cap) = Name (codes "update") ∷ Number machine ∷ need_words cap
entry_words (MachineRemove machine) = Name (codes "remove") ∷ Number machine ∷ []
entry_words (AttrSet machine name value) = Name (codes "set") ∷ Number machine ∷ bytes_word name ∷ bytes_word value ∷ []
entry_words (AttrDelete machine name) = Name (codes "unset") ∷ Number machine ∷ bytes_word name ∷ []
entry_words (End key machine) = Name (codes "end") ∷ Number key.job ∷ Number key.index ∷ Number machine ∷ []
entry_words (Commit scheduler seen txn reply) =
    Name (codes "commit") ∷ Number scheduler ∷ Number seen ∷ Number txn.job ∷ Name (rule_text txn.rule) ∷ Name (mode_text txn.mode)
    ∷ flat_map claim_words (zip txn.claims reply)

-- words parted by one space
abbrev pub parted : Line → List ℕ
parted words = join_with_byte 32 (map word_text words)

-- the line of an entry
abbrev pub entry_text : Entry → List ℕ
entry_text entry = parted (entry_words entry)

-- the numbers of an amount are in range
pub record IsNeed (need : Need) : Type 0 where
  pub cpu : need.cpu < 2 ^ 64
  pub mem : need.mem < 2 ^ 64
  pub disk : need.disk < 2 ^ 64

-- the numbers of a task's name are in range
pub record IsKey (key : TaskKey) : Type 0 where
  pub job : key.job < 2 ^ 64
  pub index : key.index < 2 ^ 32

-- the names of some tasks are in range, and their number
abbrev pub AreKeys : List TaskKey → Type 0
AreKeys keys = (length keys < 2 ^ 64) × AllByRecursion IsKey keys

-- the numbers of a verdict are in range
abbrev pub IsVerdict : Verdict → Type 0
IsVerdict Placed = ⊤
IsVerdict NoMachine = ⊤
IsVerdict (AlreadyRunning machine) = machine < 2 ^ 64
IsVerdict (Changed now copy) = (now < 2 ^ 64) × (copy < 2 ^ 64)
IsVerdict (VictimRank key) = IsKey key
IsVerdict (SameJob key) = IsKey key
IsVerdict (Full free) = IsNeed free
IsVerdict (Withdrawn place) = place < 2 ^ 32

-- the numbers of a claim are in range
pub record IsClaim (claim : Claim) : Type 0 where
  pub key : IsKey claim.key
  pub machine : claim.machine < 2 ^ 64
  pub need : IsNeed claim.spec.need
  pub prec : claim.spec.prec < 2 ^ 8
  pub victims : AreKeys claim.victims

-- the numbers of what is answered to a claim are in range
pub record IsJudgement (judgement : Judgement) : Type 0 where
  pub verdict : IsVerdict judgement.verdict
  pub evicted : AreKeys judgement.evicted

-- the numbers and bytes of an entry are in range, as those of every entry that a program holds
abbrev pub IsInRange : Entry → Type 0
IsInRange (Round number) = number < 2 ^ 64
IsInRange (MachineAdd machine cap) = (machine < 2 ^ 64) × IsNeed cap
IsInRange (MachineUpdate machine cap) = (machine < 2 ^ 64) × IsNeed cap
IsInRange (MachineRemove machine) = machine < 2 ^ 64
IsInRange (AttrSet machine name value) = (machine < 2 ^ 64) × IsBytes name × IsBytes value
IsInRange (AttrDelete machine name) = (machine < 2 ^ 64) × IsBytes name
IsInRange (End key machine) = IsKey key × (machine < 2 ^ 64)
IsInRange (Commit scheduler seen txn reply) =
    (scheduler < 2 ^ 32) × (seen < 2 ^ 64) × (txn.job < 2 ^ 64) × AllByRecursion IsClaim txn.claims × AllByRecursion IsJudgement reply

-- a commit's reply is as long as its claims
abbrev pub IsAnswered : Entry → Type 0
IsAnswered (Commit scheduler seen txn reply) = length reply ≡ length txn.claims
IsAnswered _ = ⊤

-- a line is the line of this entry
pub record IsLineOf (line : List ℕ) (entry : Entry) : Type 0 where
  pub range : IsInRange entry
  pub answered : IsAnswered entry
  pub text : line ≡ entry_text entry
