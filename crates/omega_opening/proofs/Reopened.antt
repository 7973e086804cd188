-- The jobs that aren't open stay quiet while a history goes on, where those are opened whose tasks its entries may stop.
use Rattle.std.proofs.Common.{◌≡◌, ◌<◌, ◌+◌, ℕ, true, false, List, [], ◌∷◌, ◌++◌, length, take, drop, get_or, refl, sym, ap, subst, arith, ◌∙◌, inl, inr}
use Rattle.std.specs.List.{All, flat_map, fold, list_any}
use Rattle.std.proofs.lemmas.Bool.{and_from, both_ways, cases_Bool, eqb-true, le-leb, or_from, or_left, or_right}
use Rattle.std.proofs.lemmas.Grind.{flat_map-append}
use Rattle.std.proofs.lemmas.List.{append-nil, take-append-drop, take_all, take_more}
use Rattle.std.proofs.lemmas.List.Elements.{All-append, All-cons, All-head, All-nil, All-tail, All-weaker}
use Rattle.std.proofs.lemmas.List.Sums.{fold-append}
use Rattle.omega_feed.specs.Asked.{Asked, is_task_of}
use Rattle.omega_feed.specs.Index.{StandsAt}
use Rattle.omega_feed.specs.Open.{HasItsExtras, IsOpen, IsQuiet, IsRunningExtra, OpenPlaces, OthersAreQuiet, RunsIfOf, StayOpen, is_missed, is_open}
use Rattle.omega_feed.proofs.Quiet.{still_quiet}
use Rattle.omega_model.proofs.Growing.{state_push}
use Rattle.omega_model.proofs.InOrder.{key_itself, key_same}
use Rattle.omega_model.proofs.Lists.{by_answer}
use Rattle.omega_model.specs.Cell.{Cell, empty_cell}
use Rattle.omega_model.specs.ExtraTasks.{first_extra}
use Rattle.omega_model.specs.Keys.{is_among, same_key}
use Rattle.omega_model.specs.State.{state, step, tasks_after}
use Rattle.omega_model.specs.Wanted.{WantedTask, is_named}
use Rattle.omega_model.specs.declared.cells.Task.{Task}
use Rattle.omega_model.specs.declared.cells.TaskKey.{TaskKey}
use Rattle.omega_model.specs.declared.claims.Judgement.{Judgement}
use Rattle.omega_model.specs.declared.entries.Entry.{Entry}
use Rattle.omega_opening.specs.Reopening.{WereQuiet, IsOpenIfMissed, OpensJobs, may_stop}
use Rattle.omega_opening.proofs.RunOn.{runs_after}

-- no job is opened
pub opens_none : (places : OpenPlaces) (asked : Asked) → OpensJobs places places asked []
opens_none places asked = record { stay = λ scheduler place there. there; opened = All-nil _ }

-- one is, if it may be missed
pub opens_one : (before after : OpenPlaces) (asked : Asked) (key : TaskKey) → StayOpen before after → IsOpenIfMissed after asked key
    → OpensJobs before after asked (key ∷ [])
opens_one before after asked key stay opened = record { stay = stay; opened = All-cons (IsOpenIfMissed after asked) key [] opened (All-nil _) }

-- one need not be that isn't
pub opens_unmissed : (places : OpenPlaces) (asked : Asked) (key : TaskKey) → is_missed asked key ≡ false
    → OpensJobs places places asked (key ∷ [])
opens_unmissed places asked key not_missed = opens_one places places asked key (λ scheduler place there. there) (λ missed. absurd (both_ways _ not_missed missed))

-- some are, and then others
opens_more : (before middle after : OpenPlaces) (asked : Asked) (keys more : List TaskKey) → OpensJobs before middle asked keys
    → OpensJobs middle after asked more → OpensJobs before after asked (keys ++ more)
opens_more before middle after asked keys more some others = record {
  stay = λ scheduler place there. others.stay scheduler place (some.stay scheduler place there);
  opened = All-append (IsOpenIfMissed after asked) keys more
      (All-weaker (IsOpenIfMissed middle asked) (IsOpenIfMissed after asked)
      (λ key opened wanted place scheduler here. others.stay scheduler place (opened wanted place scheduler here)) keys some.opened)
      others.opened;
}

-- one more of some keys is
pub opens_next : (before middle after : OpenPlaces) (asked : Asked) (keys : List TaskKey) (i : ℕ) (key : TaskKey) → i < length keys
    → OpensJobs before middle asked (take i keys) → StayOpen middle after → IsOpen after asked (get_or keys i key).job
    → OpensJobs before after asked (take (i + 1) keys)
opens_next before middle after asked keys i key within some stay opened =
    subst (OpensJobs before after asked) (sym (take_more keys i key within))
    (opens_more before middle after asked (take i keys) (get_or keys i key ∷ []) some (opens_one middle after asked (get_or keys i key) stay (λ wanted. opened)))

-- so are those that one more of some judgements evicted
pub opens_evicted : (before middle after : OpenPlaces) (asked : Asked) (reply : List Judgement) (i : ℕ) (one : Judgement) → one ≡ get_or reply i one → i < length reply
    → OpensJobs before middle asked (flat_map (λ other. other.evicted) (take i reply))
    → OpensJobs middle after asked one.evicted
    → OpensJobs before after asked (flat_map (λ other. other.evicted) (take (i + 1) reply))
opens_evicted before middle after asked reply i one is within some others =
    let evicted : List Judgement → List TaskKey = λ js. flat_map (λ (other : Judgement). other.evicted) js in
    let all : evicted (take (i + 1) reply) ≡ evicted (take i reply) ++ one.evicted =
    ap evicted (take_more reply i one within ∙ ap (λ (j : Judgement). take i reply ++ j ∷ []) (sym is))
    ∙ flat_map-append (λ (other : Judgement). other.evicted) (take i reply) (one ∷ [])
    ∙ ap (λ (ks : List TaskKey). evicted (take i reply) ++ ks) (append-nil one.evicted) in
    subst (OpensJobs before after asked) (sym all)
    (opens_more before middle after asked (evicted (take i reply)) one.evicted some others)

-- a task of a job that isn't open, and that may be missed, is none of those whose jobs are open if they may be
not_among : (places : OpenPlaces) (asked : Asked) (keys : List TaskKey) (key : TaskKey) (place scheduler : ℕ) → StandsAt asked.jobs place key.job scheduler
    → is_missed asked key ≡ true → is_open places scheduler place ≡ false → All (IsOpenIfMissed places asked) keys
    → is_among key keys ≡ false
not_among places asked [] key place scheduler here missed closed opened = refl
not_among places asked (first ∷ keys) key place scheduler here missed closed opened =
    let P : TaskKey → Type 0 = IsOpenIfMissed places asked in
    or_from (same_key key first) (is_among key keys)
    (by_answer (same_key key first)
    (λ t. absurd (both_ways _ closed
    (subst P (sym (key_same key first t)) (All-head P first keys opened) missed place scheduler here)))
    (λ f. f))
    (not_among places asked keys key place scheduler here missed closed (All-tail P first keys opened))

-- what follows for a wanted task follows for each of them
for_each_wanted : (P Q : WantedTask → Type 0) (all tasks : List WantedTask)
    → ((task : WantedTask) → list_any (is_named task.key) all ≡ true → P task → Q task)
    → ((key : TaskKey) → list_any (is_named key) tasks ≡ true → list_any (is_named key) all ≡ true)
    → All P tasks → All Q tasks
for_each_wanted P Q all [] follows within each = All-nil _
for_each_wanted P Q all (task ∷ tasks) follows within each =
    All-cons Q task tasks
    (follows task (within task.key (or_left _ _ (key_itself task.key))) (All-head P task tasks each))
    (for_each_wanted P Q all tasks follows (λ key named. within key (or_right (is_named key task) _ named)) (All-tail P task tasks each))

module _ (before after : OpenPlaces) (asked : Asked) where
  -- a job that isn't open, and of which a task is wanted, has its extras after an entry, too
  extras_next : (tasks : List Task) (entry : Entry) → OpensJobs before after asked (may_stop tasks entry)
      → (place job scheduler : ℕ) → StandsAt asked.jobs place job scheduler → is_open after scheduler place ≡ false
      → list_any (is_task_of job) asked.tasks ≡ true → HasItsExtras asked tasks job → HasItsExtras asked (tasks_after tasks entry) job
  extras_next tasks entry opens place job scheduler here closed some its = record {
    activities = its.activities;
    has = its.has;
    extras = its.extras;
    once = its.once;
    run = All-weaker (IsRunningExtra tasks job) (IsRunningExtra (tasks_after tasks entry) job)
        (λ key is.
        let named : StandsAt asked.jobs place key.job scheduler = subst (λ (n : ℕ). StandsAt asked.jobs place n scheduler) (sym is.job_is) here in
        let wanted : list_any (is_task_of key.job) asked.tasks ≡ true = subst (λ (j : ℕ). list_any (is_task_of j) asked.tasks ≡ true) (sym is.job_is) some in
        let missed : is_missed asked key ≡ true =
        or_right (list_any (is_named key) asked.tasks) _ (and_from _ _ (le-leb first_extra key.index is.extra) wanted) in
        record {
          job_is = is.job_is;
          extra = is.extra;
          runs = runs_after tasks entry key (not_among after asked (may_stop tasks entry) key place scheduler named missed closed opens.opened) is.runs;
        })
        its.extras its.run;
    enough = its.enough;
  }

  -- after an entry the jobs that aren't open are quiet, where those are open whose tasks it may stop
  pub quiet_next : (tasks : List Task) (entry : Entry) → OthersAreQuiet before asked tasks → OpensJobs before after asked (may_stop tasks entry)
      → OthersAreQuiet after asked (tasks_after tasks entry)
  quiet_next tasks entry quiet opens place job scheduler here closed =
      let is : IsQuiet asked tasks job = still_quiet before after asked tasks opens.stay quiet place job scheduler here closed in
      record {
        running = for_each_wanted (RunsIfOf job tasks) (RunsIfOf job (tasks_after tasks entry)) asked.tasks asked.tasks
            (λ task wanted runs own.
            let named : StandsAt asked.jobs place task.key.job scheduler = subst (λ (n : ℕ). StandsAt asked.jobs place n scheduler) (sym (eqb-true task.key.job job own)) here in
            let missed : is_missed asked task.key ≡ true = or_left (list_any (is_named task.key) asked.tasks) _ wanted in
            runs_after tasks entry task.key (not_among after asked (may_stop tasks entry) task.key place scheduler named missed closed opens.opened) (runs own))
            (λ key wanted. wanted) is.running;
        no_extras = elim is.no_extras [
          | inl none ↦ inl none
          | inr (inl none) ↦ inr (inl none)
          | inr (inr its) ↦ elim (cases_Bool (list_any (is_task_of job) asked.tasks)) [
            | inl some ↦ inr (inr (extras_next tasks entry opens place job scheduler here closed some its))
            | inr none ↦ inr (inl none)
          ]
        ];
      }

  -- so they are in a history with one more entry
  pub quiet_fed : (history next : List Entry) (entry : Entry) → OthersAreQuiet before asked (state history).tasks
      → OpensJobs before after asked (may_stop (state history).tasks entry) → next ≡ history ++ entry ∷ []
      → OthersAreQuiet after asked (state next).tasks
  quiet_fed history next entry quiet opens fed =
      subst (λ (h : List Entry). OthersAreQuiet after asked (state h).tasks) (sym fed)
      (subst (λ (cell : Cell). OthersAreQuiet after asked cell.tasks) (sym (state_push history entry))
      (quiet_next (state history).tasks entry quiet opens))

  -- also where those are opened by a board that stands for the history
  pub quiet_fed_on : (history next : List Entry) (entry : Entry) (cell : Cell) → cell ≡ state history → OthersAreQuiet before asked (state history).tasks
      → OpensJobs before after asked (may_stop cell.tasks entry) → next ≡ history ++ entry ∷ []
      → OthersAreQuiet after asked (state next).tasks
  quiet_fed_on history next entry cell current quiet opens fed =
      quiet_fed history next entry quiet (subst (λ (now : Cell). OpensJobs before after asked (may_stop now.tasks entry)) current opens) fed

  -- and after one more of some entries
  pub quiet_stepped : (cell : Cell) (entries : List Entry) (i : ℕ) (one : Entry) → one ≡ get_or entries i one → i < length entries
      → OthersAreQuiet before asked (fold step cell (take i entries)).tasks
      → OpensJobs before after asked (may_stop (fold step cell (take i entries)).tasks one)
      → OthersAreQuiet after asked (fold step cell (take (i + 1) entries)).tasks
  quiet_stepped cell entries i one is within quiet opens =
      let was : Cell = fold step cell (take i entries) in
      subst (λ (now : Cell). OthersAreQuiet after asked now.tasks)
      (sym (ap (λ (es : List Entry). fold step cell es) (take_more entries i one within ∙ ap (λ (e : Entry). take i entries ++ e ∷ []) (sym is)) ∙ fold-append step cell (take i entries) (one ∷ [])))
      (quiet_next was.tasks one quiet opens)

-- the state after a beginning of a history, and then the rest of it
state_split : (n : ℕ) (history : List Entry) → fold step (state (take n history)) (drop n history) ≡ state history
state_split n history = sym (fold-append step empty_cell (take n history) (drop n history)) ∙ ap state (take-append-drop n history)

-- what is quiet on a board is quiet on the state for which it stands
pub quiet_on : (places : OpenPlaces) (asked : Asked) (one other : Cell) → one ≡ other → OthersAreQuiet places asked one.tasks
    → OthersAreQuiet places asked other.tasks
quiet_on places asked one other same quiet = subst (λ (cell : Cell). OthersAreQuiet places asked cell.tasks) same quiet

-- where a round's rows end at the end of a history, what is quiet there is so on its state
pub quiet_at_end : (places : OpenPlaces) (asked : Asked) (history whole : List Entry) → whole ≡ history → OthersAreQuiet places asked (state history).tasks
    → WereQuiet places asked (length whole) history
quiet_at_end places asked history whole same quiet =
    subst (λ (h : List Entry). OthersAreQuiet places asked (state h).tasks)
    (sym (take_all (length whole) history (let long : length whole ≡ length history = ap (λ (h : List Entry). length h) same in omega (arith, long)))) quiet

-- what is quiet on the state at a place of a history, and then after the rest of it, is so on its state
pub since_place : (places : OpenPlaces) (asked : Asked) (n : ℕ) (history rest : List Entry) → rest ≡ drop n history
    → OthersAreQuiet places asked (fold step (state (take n history)) rest).tasks
    → OthersAreQuiet places asked (state history).tasks
since_place places asked n history rest same quiet =
    subst (λ (cell : Cell). OthersAreQuiet places asked cell.tasks) (ap (λ (es : List Entry). fold step (state (take n history)) es) same ∙ state_split n history) quiet
