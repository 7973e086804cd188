-- A walk over one more entry.
use Rattle.std.proofs.Common.{◌≡◌, ℕ, zero, suc, ◌+◌, ◌<◌, ◌≤◌, Bool, true, false, ◌&&◌, List, [], ◌∷◌, ◌++◌, map, take, drop, length, get_or, slice_get, refl, sym, ap, ap₂, ◌∙◌, subst, append-nil, append_assoc}
use Rattle.std.specs.Prelude.{Result, Ok, Err, OnOk, IsTrue}
use Rattle.std.specs.List.{enumerate_from, flat_map}
use Rattle.std.proofs.lemmas.Grind.{flat_map-append}
use Rattle.std.proofs.lemmas.List.{drop_more, take_all, take_more}
use Rattle.omega_cell.specs.Effects.{usage_in}
use Rattle.omega_cell.specs.declared.effects.Usage.{Usage}
use Rattle.omega_model.specs.Cell.{Cell, keys_of}
use Rattle.omega_model.specs.Report.{Line}
use Rattle.omega_model.specs.ReportCounts.{Counts}
use Rattle.omega_model.specs.ReportLines.{displace_lines, is_round_end, lines_at, lines_on, middle_lines, round_lines, use_lines}
use Rattle.omega_model.specs.Requests.{failed, failed_after}
use Rattle.omega_model.specs.State.{displaced, state, step}
use Rattle.omega_model.specs.declared.cells.Task.{Task}
use Rattle.omega_model.specs.declared.cells.TaskKey.{TaskKey}
use Rattle.omega_model.specs.declared.entries.Entry.{Entry}
use Rattle.omega_model.specs.declared.settings.Command.{Command}
use Rattle.omega_model.specs.declared.settings.Command.TheVariants.{Replay, Run, Generate, Simulate, Resume, Audit}
use Rattle.omega_model.specs.declared.settings.Format.{Format}
use Rattle.omega_model.proofs.Growing.{state_push}
use Rattle.omega_model.proofs.Standing.{failed_push}
use Rattle.omega_desk.specs.Counts.{count_of}
use Rattle.omega_report.specs.Lines.{stop_line, usage_line}
use Rattle.omega_report.specs.Noted.{IsAhead, usage_if}
use Rattle.omega_report.specs.declared.ahead.Ahead.{Ahead}
use Rattle.omega_report.specs.Pages.{PageState}
use Rattle.omega_report.specs.Walking.{if_printed, lines_to, prints_rounds, use_if, IsAfter}
use Rattle.omega_report.specs.Tallies.{tallies}
use Rattle.omega_report.specs.declared.walk.Walk.{Walk}
use Rattle.omega_report.proofs.Numbered.{numbered_all, numbered_more}

-- the lines of the tasks that an entry displaces, by their names
map_twice : {X Y Z : Type 0} (f : Y → Z) (g : X → Y) (xs : List X) → map f (map g xs) ≡ map (λ x. f (g x)) xs
map_twice f g [] = refl
map_twice f g (x ∷ xs) = ap (λ ys. f (g x) ∷ ys) (map_twice f g xs)

pub displaced_lines : (cell : Cell) (machine : ℕ) (entry : Entry) (keys : List TaskKey) → keys ≡ keys_of (displaced cell.tasks entry)
    → map (stop_line machine) keys ≡ displace_lines cell machine entry
displaced_lines cell machine entry keys is = ap (map (stop_line machine)) is ∙ map_twice (stop_line machine) (λ (t : Task). t.key) (displaced cell.tasks entry)

-- they are the lines of an entry of a machine
pub stops_said : (cell : Cell) (entry is : Entry) (machine : ℕ) (keys : List TaskKey) (before after : List Line) → entry ≡ is → displace_lines cell machine is ≡ lines_on cell is
    → after ≡ before ++ map (stop_line machine) keys → keys ≡ keys_of (displaced cell.tasks entry) → after ≡ before ++ lines_on cell entry
stops_said cell entry is machine keys before after same said printed stopped =
    printed ∙ ap (λ ls. before ++ ls)
    (displaced_lines cell machine is keys (stopped ∙ ap (λ (e : Entry). keys_of (displaced cell.tasks e)) same)
    ∙ said ∙ ap (lines_on cell) (sym same))

-- what follows from what holds of an `Ok` holds of it too
pub on_ok : {T E P Q : Type 0} (result : Result T E) → (P → Q) → OnOk result P → OnOk result Q
on_ok (Ok value) follows holds = follows holds
on_ok (Err error) follows holds = tt

-- nothing printed is nothing
none_printed : (prints : Bool) → if_printed prints [] ≡ []
none_printed true = refl
none_printed false = refl

-- a walk before the first entry
pub after_none : (schedulers : ℕ) (page : PageState) (prints : Bool) (history : List Entry) (tally : List Counts) (failures : List (ℕ × ℕ))
    → tally ≡ tallies schedulers [] → ((job : ℕ) → count_of failures job ≡ 0)
    → IsAfter schedulers page.format (page.lines ++ if_printed prints (lines_to history 0)) (take 0 history)
    (record { page = page; tally = tally; failures = failures })
after_none schedulers page prints history tally failures none failing = record {
  form = refl;
  printed = sym (ap (λ ls. page.lines ++ ls) (none_printed prints) ∙ append-nil page.lines);
  counted = none;
  failing = failing;
}

-- the entries up to a place and the one there
pub taken_more : (history : List Entry) (n : ℕ) (entry : Entry) → n < length history → entry ≡ get_or history n entry → take (n + 1) history ≡ take n history ++ entry ∷ []
taken_more history n entry below is = take_more history n entry below ∙ ap (λ (e : Entry). take n history ++ e ∷ []) (sym is)

-- the lines of one more entry
lines_more : (history : List Entry) (n : ℕ) (entry : Entry) → n < length history → entry ≡ get_or history n entry
    → lines_to history (n + 1) ≡ lines_to history n ++ (lines_on (state (take n history)) entry ++ use_lines history (n + 1))
lines_more history n entry below is =
    ap (flat_map (lines_at history)) (numbered_more history n entry below is)
    ∙ flat_map-append (lines_at history) (take n (enumerate_from 0 history)) ((n, entry) ∷ [])
    ∙ ap (λ ls. lines_to history n ++ ls) (append-nil (lines_at history (n, entry)))

-- the lines that are printed of one more entry
printed_more : (prints : Bool) (history : List Entry) (n : ℕ) (entry : Entry) (start : List Line) → n < length history → entry ≡ get_or history n entry
    → (start ++ if_printed prints (lines_to history n)) ++ if_printed prints (lines_on (state (take n history)) entry)
    ++ use_if (prints && is_round_end (slice_get history (n + 1))) (state (take (n + 1) history))
    ≡ start ++ if_printed prints (lines_to history (n + 1))
printed_more true history n entry start below is =
    let one = lines_on (state (take n history)) entry in
    let last = use_lines history (n + 1) in
    append_assoc (start ++ lines_to history n) one last
    ∙ append_assoc start (lines_to history n) (one ++ last)
    ∙ ap (λ ls. start ++ ls) (sym (lines_more history n entry below is))
printed_more false history n entry start below is =
    append-nil _ ∙ append-nil (start ++ [])

-- the first item behind some others is the one at their number
first_behind : {X : Type 0} (xs : List X) (n : ℕ) → slice_get (drop n xs) 0 ≡ slice_get xs n
first_behind [] zero = refl
first_behind [] (suc n) = refl
first_behind (x ∷ xs) zero = refl
first_behind (x ∷ xs) (suc n) = first_behind xs n

-- the line of a cell's usage where it is printed and a round ends
usage_said : (prints ends : Bool) (usage : Usage) (cell : Cell) → (IsTrue ends → usage ≡ usage_in cell)
    → usage_if (prints && ends) usage ≡ use_if (prints && ends) cell
usage_said false ends usage cell is = refl
usage_said true false usage cell is = refl
usage_said true true usage cell is = ap (λ (u : Usage). usage_line u.used u.capacity ∷ []) (is refl)

-- what a walk knows of the next entry, on the cell before it
pub record Takes (prints : Bool) (cell : Cell) (entry : Entry) (walk next : Walk) : Type 0 where
  pub format : next.page.format ≡ walk.page.format
  pub lines : next.page.lines ≡ walk.page.lines ++ if_printed prints (lines_on cell entry)
  pub tally : (schedulers : ℕ) (before : List Entry) → walk.tally ≡ tallies schedulers before → next.tally ≡ tallies schedulers (before ++ entry ∷ [])
  pub failures : (job : ℕ) → count_of next.failures job ≡ failed_after job (count_of walk.failures job) entry

-- and of the line after it
pub record Uses (due : Bool) (usage : Usage) (walk next : Walk) : Type 0 where
  pub format : next.page.format ≡ walk.page.format
  pub lines : next.page.lines ≡ walk.page.lines ++ usage_if due usage
  pub tally : next.tally ≡ walk.tally
  pub failures : next.failures ≡ walk.failures

module _ (history : List Entry) (n : ℕ) (entry : Entry) (below : n < length history) (is : entry ≡ get_or history n entry) where
  -- what is ahead of the next entry begins with it
  pub ahead_now : (ahead : Ahead) → IsAhead (state (take n history)) (drop n history) ahead
      → IsAhead (state (take n history)) (entry ∷ drop (n + 1) history) ahead
  ahead_now ahead known =
      subst (λ (later : List Entry). IsAhead (state (take n history)) later ahead)
      (drop_more history n entry below ∙ ap (λ (e : Entry). e ∷ drop (n + 1) history) (sym is)) known

  -- the state behind it is one step on
  stepped : step (state (take n history)) entry ≡ state (take (n + 1) history)
  stepped = sym (ap state (taken_more history n entry below is) ∙ state_push (take n history) entry)

  pub ahead_next : (behind : Ahead) → IsAhead (step (state (take n history)) entry) (drop (n + 1) history) behind
      → IsAhead (state (take (n + 1) history)) (drop (n + 1) history) behind
  ahead_next behind known = subst (λ (cell : Cell). IsAhead cell (drop (n + 1) history) behind) stepped known

-- the usage of what is ahead, on the cell there, where a round ends
pub usage_due : (history : List Entry) (n : ℕ) (cell : Cell) (usage : Usage)
    → (IsTrue (is_round_end (slice_get (drop n history) 0)) → usage ≡ usage_in cell)
    → IsTrue (is_round_end (slice_get history n)) → usage ≡ usage_in cell
usage_due history n cell usage is ends = is (ap is_round_end (first_behind history n) ∙ ends)

module _ (schedulers : ℕ) (format : Format) (start : List Line) (prints : Bool) (history : List Entry) (n : ℕ) (entry : Entry) (walk : Walk)
    (so : IsAfter schedulers format (start ++ if_printed prints (lines_to history n)) (take n history) walk)
    (below : n < length history) (is : entry ≡ get_or history n entry) where
  -- a walk that has taken the next entry in, and the usage behind it, is one entry on
  pub after_more : (next last : Walk) (usage : Usage) → Takes prints (state (take n history)) entry walk next
      → (IsTrue (is_round_end (slice_get history (n + 1))) → usage ≡ usage_in (state (take (n + 1) history)))
      → Uses (prints && is_round_end (slice_get history (n + 1))) usage next last
      → IsAfter schedulers format (start ++ if_printed prints (lines_to history (n + 1))) (take (n + 1) history) last
  after_more next last usage takes used uses =
      let more : take n history ++ entry ∷ [] ≡ take (n + 1) history = sym (taken_more history n entry below is) in
      let ends = is_round_end (slice_get history (n + 1)) in
      let said : usage_if (prints && ends) usage ≡ use_if (prints && ends) (state (take (n + 1) history)) =
      usage_said prints ends usage (state (take (n + 1) history)) used in
      record {
        form = uses.format ∙ takes.format ∙ so.form;
        printed = uses.lines
            ∙ ap₂ (λ (ls us : List Line). ls ++ us) takes.lines said
            ∙ ap (λ (ls : List Line). (ls ++ if_printed prints (lines_on (state (take n history)) entry)) ++ use_if (prints && ends) (state (take (n + 1) history))) so.printed
            ∙ printed_more prints history n entry start below is;
        counted = uses.tally ∙ takes.tally schedulers (take n history) so.counted ∙ ap (tallies schedulers) more;
        failing = λ job. ap (λ (f : List (ℕ × ℕ)). count_of f job) uses.failures ∙ takes.failures job
            ∙ ap (λ (k : ℕ). failed_after job k entry) (so.failing job)
            ∙ sym (failed_push (take n history) entry job) ∙ ap (λ (h : List Entry). failed h job) more;
      }

-- what a command prints of a whole history
middle_printed : (command : Command) (history : List Entry) → if_printed (prints_rounds command) (round_lines history) ≡ middle_lines command history
middle_printed Replay history = refl
middle_printed Run history = refl
middle_printed Simulate history = refl
middle_printed Resume history = refl
middle_printed Generate history = refl
middle_printed Audit history = refl

-- a walk past the last entry is one over the whole history
pub after_all : (schedulers : ℕ) (format : Format) (start : List Line) (command : Command) (prints : Bool) (history : List Entry) (n : ℕ) (walk : Walk) → prints ≡ prints_rounds command
    → length history ≤ n → IsAfter schedulers format (start ++ if_printed prints (lines_to history n)) (take n history) walk
    → IsAfter schedulers format (start ++ middle_lines command history) history walk
after_all schedulers format start command prints history n walk is past so =
    let all : take n history ≡ history = take_all n history past in
    let lines : lines_to history n ≡ round_lines history = ap (flat_map (lines_at history)) (numbered_all history n past) in
    subst (λ (h : List Entry). IsAfter schedulers format (start ++ middle_lines command history) h walk) all
    (subst (λ (ls : List Line). IsAfter schedulers format ls (take n history) walk)
    (ap₂ (λ (p : Bool) (ls : List Line). start ++ if_printed p ls) is lines ∙ ap (λ ls. start ++ ls) (middle_printed command history)) so)
