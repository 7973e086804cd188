-- Reading a line word by word. It may take more than the lines of entries: what is read is written again
-- and compared.
use Rattle.std.specs.Prelude.{◌≡◌, ℕ, zero, suc, length, ◌^◌, ◌==◌, nat_lt, Bool, List, [], ◌∷◌, codes, Option, Some, None, Result, Ok, Err, option_map, if◌then◌else◌}
use Rattle.std.specs.List.{before_first, after_first}
use Rattle.std.specs.Result.{result_ok}
use Rattle.std.specs.Str.{bytes_eq}
use Rattle.hex.specs.Hex.{decode_of}
use Rattle.omega_model.specs.Numbers.{whole}
use Rattle.omega_model.specs.declared.cells.Need.{Need}
use Rattle.omega_model.specs.declared.cells.TaskKey.{TaskKey}
use Rattle.omega_model.specs.declared.claims.Claim.{Claim}
use Rattle.omega_model.specs.declared.claims.Judgement.{Judgement}
use Rattle.omega_model.specs.declared.claims.Mode.{Mode}
use Rattle.omega_model.specs.declared.claims.Mode.TheVariants.{Incremental, Gang}
use Rattle.omega_model.specs.declared.claims.Rule.{Rule}
use Rattle.omega_model.specs.declared.claims.Rule.TheVariants.{Fine, Coarse}
use Rattle.omega_model.specs.declared.claims.Verdict.{Verdict}
use Rattle.omega_model.specs.declared.claims.Verdict.TheVariants.{Placed, NoMachine, AlreadyRunning, Changed, VictimRank, SameJob, Full, Withdrawn}
use Rattle.omega_model.specs.declared.entries.Entry.{Entry}
use Rattle.omega_model.specs.declared.entries.Entry.TheVariants.{Round, MachineAdd, MachineUpdate, MachineRemove, AttrSet, AttrDelete, End, Commit}
use Rattle.omega_keep.specs.declared.read_stop.ReadStop.{ReadStop}
use Rattle.omega_keep.specs.declared.read_stop.ReadStop.TheVariants as read_stop

infixl 10 ◌>>=◌
abbrev pub ◌>>=◌ : {A B : Type 0} → Option A → (A → Option B) → Option B
(Some x) >>= f = f x
None >>= f = None

-- nothing was read, since reading gives nothing or memory ran out
abbrev pub Fails : {Y : Type 0} → ReadStop → Option Y → Type 0
Fails read_stop.OutOfMemory read = Unit {0}
Fails read_stop.NoLine read = read ≡ None

-- what a function returned, seen by `view`, is what reading gives, unless memory ran out
abbrev pub Gives : {X Y : Type 0} → (X → Y) → Result X ReadStop → Option Y → Type 0
Gives view (Ok x) read = read ≡ Some (view x)
Gives view (Err e) read = Fails e read

abbrev pub is_space : ℕ → Bool
is_space byte = byte == 32

-- the first word, and what stands behind it and its space
unfoldable pub word_at : List ℕ → List ℕ
word_at text = before_first is_space text

unfoldable pub rest_at : List ℕ → List ℕ
rest_at text = after_first is_space text

unfoldable pub number_at : List ℕ → Option (ℕ × List ℕ)
number_at text = option_map (λ number. (number, rest_at text)) (whole (word_at text))

unfoldable pub short_at : List ℕ → Option (ℕ × List ℕ)
short_at text = do
  number ← number_at text
  if nat_lt number.0 (2 ^ 32) then Some number else None

unfoldable pub need_at : List ℕ → Option (Need × List ℕ)
need_at text = do
  cpu ← number_at text
  mem ← number_at cpu.1
  disk ← number_at mem.1
  Some (record { cpu = cpu.0; mem = mem.0; disk = disk.0 }, disk.1)

unfoldable pub key_at : List ℕ → Option (TaskKey × List ℕ)
key_at text = do
  job ← number_at text
  index ← short_at job.1
  Some (record { job = job.0; index = index.0 }, index.1)

unfoldable pub bytes_of : List ℕ → Option (List ℕ)
bytes_of word = if bytes_eq word (codes "-") then Some [] else result_ok (decode_of word)

unfoldable pub bytes_at : List ℕ → Option (List ℕ × List ℕ)
bytes_at text = option_map (λ bytes. (bytes, rest_at text)) (bytes_of (word_at text))

unfoldable pub round_at : List ℕ → Option Entry
round_at text = do
  number ← number_at text
  Some (Round number.0)

unfoldable pub add_at : List ℕ → Option Entry
add_at text = do
  machine ← number_at text
  cap ← need_at machine.1
  Some (MachineAdd machine.0 cap.0)

unfoldable pub update_at : List ℕ → Option Entry
update_at text = do
  machine ← number_at text
  cap ← need_at machine.1
  Some (MachineUpdate machine.0 cap.0)

unfoldable pub remove_at : List ℕ → Option Entry
remove_at text = do
  machine ← number_at text
  Some (MachineRemove machine.0)

unfoldable pub set_at : List ℕ → Option Entry
set_at text = do
  machine ← number_at text
  name ← bytes_at machine.1
  value ← bytes_at name.1
  Some (AttrSet machine.0 name.0 value.0)

unfoldable pub unset_at : List ℕ → Option Entry
unset_at text = do
  machine ← number_at text
  name ← bytes_at machine.1
  Some (AttrDelete machine.0 name.0)

unfoldable pub end_at : List ℕ → Option Entry
end_at text = do
  key ← key_at text
  machine ← number_at key.1
  Some (End key.0 machine.0)

unfoldable pub tiny_at : List ℕ → Option (ℕ × List ℕ)
tiny_at text = do
  number ← number_at text
  if nat_lt number.0 (2 ^ 8) then Some number else None

-- so many names of tasks
unfoldable pub keys_from : ℕ → List ℕ → Option (List TaskKey × List ℕ)
keys_from zero text = Some ([], text)
keys_from (suc count) text = do
  key ← key_at text
  more ← keys_from count key.1
  Some (key.0 ∷ more.0, more.1)

unfoldable pub keys_at : List ℕ → Option (List TaskKey × List ℕ)
keys_at text = do
  count ← number_at text
  keys_from count.0 count.1

unfoldable pub rule_of : List ℕ → Rule
rule_of word = if bytes_eq word (codes "coarse") then Coarse else Fine

unfoldable pub mode_of : List ℕ → Mode
mode_of word = if bytes_eq word (codes "gang") then Gang else Incremental

unfoldable pub running_at : List ℕ → Option (Verdict × List ℕ)
running_at text = do
  machine ← number_at text
  Some (AlreadyRunning machine.0, machine.1)

unfoldable pub changed_at : List ℕ → Option (Verdict × List ℕ)
changed_at text = do
  now ← number_at text
  copy ← number_at now.1
  Some (Changed now.0 copy.0, copy.1)

unfoldable pub rank_at : List ℕ → Option (Verdict × List ℕ)
rank_at text = do
  key ← key_at text
  Some (VictimRank key.0, key.1)

unfoldable pub same_at : List ℕ → Option (Verdict × List ℕ)
same_at text = do
  key ← key_at text
  Some (SameJob key.0, key.1)

unfoldable pub full_at : List ℕ → Option (Verdict × List ℕ)
full_at text = do
  free ← need_at text
  Some (Full free.0, free.1)

unfoldable pub withdrawn_at : List ℕ → Option (Verdict × List ℕ)
withdrawn_at text = do
  place ← short_at text
  Some (Withdrawn place.0, place.1)

unfoldable pub verdict_named : List ℕ → List ℕ → Option (Verdict × List ℕ)
verdict_named word rest =
    if bytes_eq word (codes "placed") then Some (Placed, rest)
    else if bytes_eq word (codes "no-machine") then Some (NoMachine, rest)
    else if bytes_eq word (codes "running") then running_at rest
    else if bytes_eq word (codes "changed") then changed_at rest
    else if bytes_eq word (codes "victim-rank") then rank_at rest
    else if bytes_eq word (codes "same-job") then same_at rest
    else if bytes_eq word (codes "full") then full_at rest
    else if bytes_eq word (codes "withdrawn") then withdrawn_at rest
    else None

unfoldable pub verdict_at : List ℕ → Option (Verdict × List ℕ)
verdict_at text = verdict_named (word_at text) (rest_at text)

-- a claim up to its victims
unfoldable pub claim_at : List ℕ → Option (Claim × List ℕ)
claim_at text = do
  key ← key_at (rest_at text)
  machine ← number_at key.1
  need ← need_at machine.1
  prec ← tiny_at need.1
  differ ← number_at prec.1
  victims ← keys_at (rest_at differ.1)
  Some (record { key = key.0; machine = machine.0; spec = record { need = need.0; prec = prec.0; differ = differ.0 == 1 }; victims = victims.0 }, victims.1)

unfoldable pub judgement_at : List ℕ → Option (Judgement × List ℕ)
judgement_at text = do
  verdict ← verdict_at text
  evicted ← keys_at (rest_at verdict.1)
  Some (record { verdict = verdict.0; evicted = evicted.0 }, evicted.1)

-- claims up to the end, and what was answered to them; at most so many
unfoldable pub claims_from : ℕ → List ℕ → Option (List Claim × List Judgement)
claims_from count [] = Some ([], [])
claims_from zero (byte ∷ text) = None
claims_from (suc count) (byte ∷ text) = do
  claim ← claim_at (byte ∷ text)
  judgement ← judgement_at claim.1
  more ← claims_from count judgement.1
  Some (claim.0 ∷ more.0, judgement.0 ∷ more.1)

unfoldable pub claims_at : List ℕ → Option (List Claim × List Judgement)
claims_at text = claims_from (length text) text

unfoldable pub commit_at : List ℕ → Option Entry
commit_at text = do
  scheduler ← short_at text
  seen ← number_at scheduler.1
  job ← number_at seen.1
  claims ← claims_at (rest_at (rest_at job.1))
  Some (Commit scheduler.0 seen.0 (record { job = job.0; rule = rule_of (word_at job.1); mode = mode_of (word_at (rest_at job.1)); claims = claims.0 }) claims.1)

-- the entry that begins with this word
unfoldable pub entry_named : List ℕ → List ℕ → Option Entry
entry_named word rest =
    if bytes_eq word (codes "round") then round_at rest
    else if bytes_eq word (codes "add") then add_at rest
    else if bytes_eq word (codes "update") then update_at rest
    else if bytes_eq word (codes "remove") then remove_at rest
    else if bytes_eq word (codes "set") then set_at rest
    else if bytes_eq word (codes "unset") then unset_at rest
    else if bytes_eq word (codes "end") then end_at rest
    else if bytes_eq word (codes "commit") then commit_at rest
    else None

unfoldable pub entry_at : List ℕ → Option Entry
entry_at text = entry_named (word_at text) (rest_at text)
