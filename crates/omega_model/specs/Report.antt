-- Lines that are printed of rounds and commits, and the bytes of a line.
use Rattle.std.specs.Prelude.{ℕ, List, [], ◌∷◌, ◌++◌, map, codes, decimal, if◌then◌else◌}
use Rattle.std.specs.List.{flat_map, join_with_byte, zip}
use Rattle.omega_model.specs.declared.cells.TaskKey.{TaskKey}
use Rattle.omega_model.specs.declared.claims.Claim.{Claim}
use Rattle.omega_model.specs.Touches.{is_placed}
use Rattle.omega_model.specs.declared.claims.Judgement.{Judgement}
use Rattle.omega_model.specs.declared.claims.Verdict.{Verdict}
use Rattle.omega_model.specs.declared.claims.Verdict.TheVariants.{Placed, NoMachine, AlreadyRunning, Changed, VictimRank, SameJob, Full, Withdrawn}
use Rattle.omega_model.specs.declared.entries.Entry.{Entry}
use Rattle.omega_model.specs.declared.entries.Entry.TheVariants.{Round, Commit}

-- a word of a line
pub data Word : Type 0 where
  Name : List ℕ → Word
  Number : ℕ → Word

-- a line of the report
abbrev pub Line : Type 0
Line = List Word

-- a task and the machine that a line speaks of
abbrev pub task_words : TaskKey → ℕ → Line
task_words key machine = Number key.job ∷ Number key.index ∷ Number machine ∷ []

-- the words of a refusal that follow the task and the machine
abbrev pub refusal_words : Verdict → Line
refusal_words Placed = []
refusal_words NoMachine = Name (codes "no-machine") ∷ []
refusal_words (AlreadyRunning machine) = Name (codes "running") ∷ Number machine ∷ []
refusal_words (Changed now copy) = Name (codes "changed") ∷ Number now ∷ Number copy ∷ []
refusal_words (VictimRank key) = Name (codes "victim-rank") ∷ Number key.job ∷ Number key.index ∷ []
refusal_words (SameJob key) = Name (codes "same-job") ∷ Number key.job ∷ Number key.index ∷ []
refusal_words (Full free) = Name (codes "full") ∷ Number free.cpu ∷ Number free.mem ∷ Number free.disk ∷ []
refusal_words (Withdrawn place) = Name (codes "withdrawn") ∷ Number place ∷ []

-- the line of a task that stops to make room for a placed claim
abbrev pub evict_line : Claim → TaskKey → Line
evict_line claim key = Name (codes "evict") ∷ task_words key claim.machine

-- the line of a claim that was refused
abbrev pub refuse_line : Claim → Verdict → Line
refuse_line claim verdict = Name (codes "refuse") ∷ task_words claim.key claim.machine ++ refusal_words verdict

-- the line of a claim that was placed
abbrev pub place_line : Claim → Line
place_line claim = Name (codes "place") ∷ task_words claim.key claim.machine

-- the lines of a claim and what was answered to it: those it evicts and where it is placed, or why it
-- is refused
abbrev pub claim_lines : Claim × Judgement → List Line
claim_lines (claim, judgement) =
    if is_placed judgement.verdict
    then map (evict_line claim) judgement.evicted ++ place_line claim ∷ []
    else refuse_line claim judgement.verdict ∷ []

-- the lines that an entry has on every cell: those of a round or of a commit
abbrev pub entry_lines : Entry → List Line
entry_lines (Round number) = (Name (codes "round") ∷ Number number ∷ []) ∷ []
entry_lines (Commit scheduler seen txn reply) =
    (Name (codes "commit") ∷ Number scheduler ∷ Number seen ∷ Number txn.job ∷ [])
    ∷ flat_map claim_lines (zip txn.claims reply)
entry_lines _ = []

-- the bytes of a word
abbrev pub word_text : Word → List ℕ
word_text (Name name) = name
word_text (Number number) = decimal number

-- the bytes of a line: its words parted by one space, and a line feed
abbrev pub line_text : Line → List ℕ
line_text line = join_with_byte 32 (map word_text line) ++ 10 ∷ []
