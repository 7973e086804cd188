-- What a history comes to, on the page.
use Rattle.std.proofs.Common.{◌≡◌, ℕ, zero, suc, ◌+◌, ◌<◌, ◌≤◌, Bool, List, [], ◌∷◌, ◌++◌, map, drop, length, get_or, refl, sym, ap, ap₂, ◌∙◌, append-nil, append_assoc, nat_le}
use Rattle.std.specs.Prelude.{count_by}
use Rattle.std.specs.List.{filter, range_with_len}
use Rattle.std.proofs.lemmas.List.{drop_all, drop_more}
use Rattle.std.proofs.lemmas.List.FromFn.{length-map-range_with_len}
use Rattle.std.proofs.lemmas.List.Sums.{length-filter}
use Rattle.omega_model.specs.ExtraTasks.{capacity_in_all, used_in}
use Rattle.omega_model.specs.Feed.{rounds}
use Rattle.omega_model.specs.Policy.{schedulers}
use Rattle.omega_model.specs.Report.{Line}
use Rattle.omega_model.specs.ReportCounts.{Counts, abandoned_of, counts_of, jobs_of, waiting_of}
use Rattle.omega_model.specs.ReportLines.{counts_line, final_lines, first_line, lines_where, middle_lines, scheduler_lines}
use Rattle.omega_model.specs.Requests.{failed, given_up}
use Rattle.omega_model.specs.State.{state}
use Rattle.omega_model.specs.Wanted.{WantedTask}
use Rattle.omega_model.specs.declared.cells.Need.{Need}
use Rattle.omega_model.specs.declared.entries.Entry.{Entry}
use Rattle.omega_model.specs.declared.rows.TraceTables.{TraceTables}
use Rattle.omega_model.specs.declared.settings.Settings.{Settings}
use Rattle.omega_report.specs.Counted.{counts_in}
use Rattle.omega_report.specs.Lines.{sizes_line, unplaced_line, usage_line}
use Rattle.omega_report.specs.Walking.{lines_from, lines_of_all}
use Rattle.omega_report.specs.Tallies.{tallies}
use Rattle.omega_report.specs.declared.counts.Counts.{Counts as HeldCounts}

-- the line of the next scheduler
pub counts_more : (counts : List HeldCounts) (place : ℕ) (none : HeldCounts) (before after : List Line) → place < length counts
    → after ≡ before ++ counts_line place (counts_in (get_or counts place none)) ∷ []
    → after ++ lines_from (place + 1) (drop (place + 1) counts) ≡ before ++ lines_from place (drop place counts)
counts_more counts place none before after below printed =
    ap (λ ls. ls ++ lines_from (place + 1) (drop (place + 1) counts)) printed
    ∙ append_assoc before (counts_line place (counts_in (get_or counts place none)) ∷ []) (lines_from (place + 1) (drop (place + 1) counts))
    ∙ ap (λ cs. before ++ lines_from place cs) (sym (drop_more counts place none below))

-- no line is left after the last scheduler
pub counts_end : (counts : List HeldCounts) (place : ℕ) (before : List Line) → length counts ≤ place → before ≡ before ++ lines_from place (drop place counts)
counts_end counts place before past = sym (ap (λ cs. before ++ lines_from place cs) (drop_all place counts past) ∙ append-nil before)

-- the lines of counts are those of the schedulers
schedulers_said : (history : List Entry) (counts : List HeldCounts) (from count : ℕ) → map counts_in counts ≡ map (λ scheduler. counts_of scheduler history) (range_with_len from count)
    → lines_from from counts ≡ map (λ scheduler. counts_line scheduler (counts_of scheduler history)) (range_with_len from count)
schedulers_said history [] from zero is = refl
schedulers_said history [] from (suc count) is = cc
schedulers_said history (c ∷ cs) from zero is = cc
schedulers_said history (c ∷ cs) from (suc count) is =
    let one : counts_in c ≡ counts_of from history = cc in
    let others : map counts_in cs ≡ map (λ scheduler. counts_of scheduler history) (range_with_len (from + 1) count) = cc in
    ap₂ (λ (x : Counts) (xs : List Line). counts_line from x ∷ xs) one (schedulers_said history cs (from + 1) count others)

-- how many jobs are given up
pub abandoned_is : (settings : Settings) (due : List WantedTask) (history : List Entry) (count : ℕ → ℕ) (jobs : List ℕ) → ((job : ℕ) → count job ≡ failed history job)
    → jobs ≡ jobs_of (waiting_of due (state history)) → count_by (λ job. nat_le settings.give_up (count job)) jobs ≡ length (abandoned_of settings due history)
abandoned_is settings due history count jobs failing is =
    let same : (λ job. nat_le settings.give_up (count job)) ≡ given_up settings history = λ i job. nat_le settings.give_up (failing job i) in
    ap (λ (p : ℕ → Bool). count_by p jobs) same
    ∙ sym (length-filter (given_up settings history) jobs)
    ∙ ap (λ js. length (filter (given_up settings history) js)) is

-- the last lines, one after the other
joined : (lines counts : List Line) (sizes usage left : Line)
    → (((lines ++ sizes ∷ []) ++ counts) ++ usage ∷ []) ++ left ∷ [] ≡ lines ++ (sizes ∷ counts ++ usage ∷ left ∷ [])
joined lines counts sizes usage left =
    append_assoc ((lines ++ sizes ∷ []) ++ counts) (usage ∷ []) (left ∷ [])
    ∙ append_assoc (lines ++ sizes ∷ []) counts (usage ∷ left ∷ [])
    ∙ append_assoc lines (sizes ∷ []) (counts ++ usage ∷ left ∷ [])

-- the numbers of the last lines, where these tasks are wanted at the end
pub record Sums (settings : Settings) (trace : TraceTables) (due : List WantedTask) (history : List Entry) (entries windows : ℕ) (counts : List HeldCounts) (used capacity : Need) (tasks jobs : ℕ) : Type 0 where
  pub all_entries : entries ≡ length history
  pub all_rounds : windows ≡ length (rounds trace settings.window)
  pub all_counts : map counts_in counts ≡ tallies (schedulers settings) history
  pub all_used : used ≡ used_in (state history)
  pub all_capacity : capacity ≡ capacity_in_all (state history)
  pub all_tasks : tasks ≡ length (waiting_of due (state history))
  pub all_jobs : jobs ≡ length (abandoned_of settings due history)

pub summed_is : (settings : Settings) (trace : TraceTables) (due : List WantedTask) (history : List Entry) (entries windows : ℕ) (counts : List HeldCounts) (used capacity : Need) (tasks jobs : ℕ)
    (lines sized counted usage last : List Line) → Sums settings trace due history entries windows counts used capacity tasks jobs
    → sized ≡ lines ++ sizes_line entries windows ∷ [] → counted ≡ sized ++ lines_of_all counts → usage ≡ counted ++ usage_line used capacity ∷ []
    → last ≡ usage ++ unplaced_line tasks jobs ∷ [] → last ≡ lines ++ final_lines settings trace due history
summed_is settings trace due history entries windows counts used capacity tasks jobs lines sized counted usage last sums a b c d =
    let own : lines_of_all counts ≡ scheduler_lines settings history = schedulers_said history counts 0 (schedulers settings) sums.all_counts in
    let sizes = ap₂ sizes_line sums.all_entries sums.all_rounds in
    let uses = ap₂ usage_line sums.all_used sums.all_capacity in
    let left = ap₂ unplaced_line sums.all_tasks sums.all_jobs in
    d ∙ ap (λ ls. ls ++ unplaced_line tasks jobs ∷ []) (c ∙ ap (λ ls. ls ++ usage_line used capacity ∷ []) (b ∙ ap (λ ls. ls ++ lines_of_all counts) a))
    ∙ joined lines (lines_of_all counts) (sizes_line entries windows) (usage_line used capacity) (unplaced_line tasks jobs)
    ∙ (λ i. lines ++ (sizes i ∷ own i ++ uses i ∷ left i ∷ []))

-- how many schedulers are counted
pub length_tallies : (count : ℕ) (history : List Entry) → length (tallies count history) ≡ count
length_tallies count history = length-map-range_with_len (λ scheduler. counts_of scheduler history) 0 count

-- the first line, those of the entries and the last ones are all lines
pub lines_said : (settings : Settings) (trace : TraceTables) (due : List WantedTask) (history : List Entry) (empty first lines : List Line) → empty ≡ [] → first ≡ empty ++ first_line ∷ []
    → lines ≡ (first ++ middle_lines settings.command history) ++ final_lines settings trace due history
    → lines ≡ lines_where settings trace due history
lines_said settings trace due history empty first lines none begun all =
    let start : first ≡ first_line ∷ [] = begun ∙ ap (λ ls. ls ++ first_line ∷ []) none in
    all ∙ ap (λ ls. (ls ++ middle_lines settings.command history) ++ final_lines settings trace due history) start
