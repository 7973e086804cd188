-- The tables that a run reads.
use Rattle.std.proofs.Common.{◌≡◌, ◌∙◌, ℕ, List, [], true, false, Option, Result, refl, sym, subst, true≢false}
use Rattle.std.specs.Prelude.{OnOk}
use Rattle.omega_io.specs.Edge.{Tells}
use Rattle.omega_model.specs.Generated.{generated}
use Rattle.omega_model.specs.declared.rows.Table.{Table}
use Rattle.omega_model.specs.declared.settings.Command.{Command}
use Rattle.omega_model.specs.declared.settings.Command.TheVariants.{Audit, Generate, Replay, Resume, Run, Simulate}
use Rattle.omega_model.specs.declared.settings.Settings.{Settings}
use Rattle.omega_top.specs.Commands.{makes_tables, reads_tables, uses_keeper}
use Rattle.omega_top.specs.Reads.{Reads, ReadsBy, left_by}

entered_by : (command : Command) (made : Table → List ℕ) (rest rest_now : Table → Option (List ℕ)) (bytes : Table → List ℕ)
    → ((table : Table) → rest_now table ≡ rest table) → ReadsBy command made rest bytes → ReadsBy command made rest_now bytes
entered_by Generate made rest rest_now bytes same is = is
entered_by Audit made rest rest_now bytes same reads = absurd reads
entered_by Replay made rest rest_now bytes same told = λ table. same table ∙ told table
entered_by Run made rest rest_now bytes same told = λ table. same table ∙ told table
entered_by Simulate made rest rest_now bytes same told = λ table. same table ∙ told table
entered_by Resume made rest rest_now bytes same told = λ table. same table ∙ told table

-- a run reads the same bytes where a folder was entered that leaves what is told of the tables
pub entered_reads : (settings : Settings) (rest rest_now : Table → Option (List ℕ)) (bytes : Table → List ℕ)
    → ((table : Table) → rest_now table ≡ rest table) → Reads settings rest bytes → Reads settings rest_now bytes
entered_reads settings = entered_by settings.command (generated settings.seed settings.machines settings.jobs)

made_by : (command : Command) (made : Table → List ℕ) (rest : Table → Option (List ℕ)) (bytes : Table → List ℕ)
    → makes_tables command ≡ true → ReadsBy command made rest bytes → bytes ≡ made
made_by Generate made rest bytes makes is = is
made_by Audit made rest bytes makes reads = absurd reads
made_by Replay made rest bytes makes told = absurd (true≢false (sym makes))
made_by Run made rest bytes makes told = absurd (true≢false (sym makes))
made_by Simulate made rest bytes makes told = absurd (true≢false (sym makes))
made_by Resume made rest bytes makes told = absurd (true≢false (sym makes))

handed_by : (command : Command) (made : Table → List ℕ) (rest : Table → Option (List ℕ)) (bytes : Table → List ℕ)
    → makes_tables command ≡ false → ReadsBy command made rest bytes → Tells rest bytes
handed_by Generate made rest bytes makes is = absurd (true≢false makes)
handed_by Audit made rest bytes makes reads = absurd reads
handed_by Replay made rest bytes makes told = told
handed_by Run made rest bytes makes told = told
handed_by Simulate made rest bytes makes told = told
handed_by Resume made rest bytes makes told = told

-- what is read where tables are made, where they are handed over, and in an audit
module _ (settings : Settings) (rest : Table → Option (List ℕ)) (bytes : Table → List ℕ) (reads : Reads settings rest bytes) where
  pub made_are_read : makes_tables settings.command ≡ true → bytes ≡ generated settings.seed settings.machines settings.jobs
  made_are_read makes = made_by settings.command (generated settings.seed settings.machines settings.jobs) rest bytes makes reads

  pub handed_are_read : makes_tables settings.command ≡ false → Tells rest bytes
  handed_are_read makes = handed_by settings.command (generated settings.seed settings.machines settings.jobs) rest bytes makes reads

  pub audit_reads_none : settings.command ≡ Audit → ⊥
  audit_reads_none is = subst (λ (command : Command). ReadsBy command (generated settings.seed settings.machines settings.jobs) rest bytes) is reads

alone_by : (command : Command) (made : Table → List ℕ) (rest : Table → Option (List ℕ)) (bytes : Table → List ℕ)
    → (command ≡ Resume → ⊥) → ReadsBy command made rest bytes → uses_keeper command ≡ false
alone_by Generate made rest bytes other reads = refl
alone_by Audit made rest bytes other reads = absurd reads
alone_by Replay made rest bytes other reads = refl
alone_by Run made rest bytes other reads = refl
alone_by Simulate made rest bytes other reads = refl
alone_by Resume made rest bytes other reads = absurd (other refl)

-- a command that reads tables uses no keeper, but for `resume`
pub reads_alone : (settings : Settings) (rest : Table → Option (List ℕ)) (bytes : Table → List ℕ) → (settings.command ≡ Resume → ⊥)
    → Reads settings rest bytes → uses_keeper settings.command ≡ false
reads_alone settings = alone_by settings.command (generated settings.seed settings.machines settings.jobs)

-- a command that neither makes its tables nor is an audit reads those that it is handed
pub must_read : (command : Command) → makes_tables command ≡ false → (command ≡ Audit → ⊥) → reads_tables command ≡ true
must_read Generate makes other = absurd (true≢false makes)
must_read Audit makes other = absurd (other refl)
must_read Replay makes other = refl
must_read Run makes other = refl
must_read Simulate makes other = refl
must_read Resume makes other = refl

-- tables that were read to their ends are left as they are where they are handed over
pub read_to_end : {A E : Type 0} (command : Command) (handed : Table → List ℕ) (rest : Table → Option (List ℕ)) (answer : Result A E)
    → makes_tables command ≡ false → (command ≡ Audit → ⊥) → OnOk answer (Tells rest (λ table. [])) → OnOk answer (Tells rest (left_by command handed))
read_to_end Generate handed rest answer makes other told = absurd (true≢false makes)
read_to_end Audit handed rest answer makes other told = absurd (other refl)
read_to_end Replay handed rest answer makes other told = told
read_to_end Run handed rest answer makes other told = told
read_to_end Simulate handed rest answer makes other told = told
read_to_end Resume handed rest answer makes other told = told
