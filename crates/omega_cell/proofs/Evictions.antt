-- What is evicted for a claim has to go.
use Rattle.std.proofs.Common.{◌≡◌, ℕ, zero, suc, ◌<◌, Bool, true, false, not, ◌&&◌, nat_le, List, [], ◌∷◌, ◌++◌, length, map, take, Option, Some, None, refl, sym, ap, ap₂, ◌∙◌, subst, arith, ◌==◌}
use Rattle.std.specs.Prelude.{slice_get, IsSomeAnd}
use Rattle.std.specs.List.{filter, find, fold, zip, AllByRecursion as Each}
use Rattle.std.specs.Option.{option_map, option_map_or, unwrap_or}
use Rattle.std.proofs.lemmas.Bool.{both_ways, and_parts, leb-false, or_left, or_right}
use Rattle.std.proofs.lemmas.List.{length-take, take-take}
use Rattle.std.proofs.lemmas.Option.{none-some, same_Some, slice_get_within}
use Rattle.omega_model.specs.Cell.{Cell, machine_at, task_at, with_task, without, keys_of}
use Rattle.omega_model.specs.Judge.{is_up, no_machine, already_running, changed, runs_on, standing_victims, withstands, victim_rank, judge_fine, verdict_given, makes_room, evicted_for, judged_given, judge, would_be_placed}
use Rattle.omega_model.specs.Keys.{key_lt, same_key, is_among, first_mentions, beginnings}
use Rattle.omega_model.specs.Legal.{Legal, Follows}
use Rattle.omega_model.specs.Reply.{admits, task_of, tasks_after_claim, after_claim, judgements, withdrawn_for, first_refused, by_mode, reply_on}
use Rattle.omega_model.specs.State.{state, step, tasks_after, displaced, goes_on}
use Rattle.omega_model.specs.Touches.{is_placed}
use Rattle.omega_model.specs.declared.cells.Task.{Task}
use Rattle.omega_model.specs.declared.cells.TaskKey.{TaskKey}
use Rattle.omega_model.specs.declared.claims.Claim.{Claim}
use Rattle.omega_model.specs.declared.claims.Judgement.{Judgement}
use Rattle.omega_model.specs.declared.claims.Mode.{Mode}
use Rattle.omega_model.specs.declared.claims.Mode.TheVariants.{Incremental, Gang}
use Rattle.omega_model.specs.declared.claims.Rule.{Rule}
use Rattle.omega_model.specs.declared.claims.Txn.{Txn}
use Rattle.omega_model.specs.declared.claims.Verdict.{Verdict}
use Rattle.omega_model.specs.declared.claims.Verdict.TheVariants.{NoMachine, VictimRank}
use Rattle.omega_model.specs.declared.entries.Entry.{Entry}
use Rattle.omega_model.specs.declared.entries.Entry.TheVariants.{Round, MachineAdd, MachineUpdate, MachineRemove, AttrSet, AttrDelete, End, Commit}
use Rattle.omega_running.specs.declared.orders.Order.TheVariants.{ByKey}
use Rattle.omega_running.specs.Order.{IsInOrder, precedes}
use Rattle.omega_running.proofs.Kept.{rises_filter}
use Rattle.omega_board.proofs.Parts.{found_on, withstands_is}
use Rattle.omega_board.proofs.Placed.{passes, is_placed-Placed, placeable_fine}
use Rattle.omega_board.proofs.Standing.{among_filter, among_first, are_standing, first_standing, mentions_once, stand}
use Rattle.omega_board.proofs.Tasks.{found_still, gone_absent, key_differs_back, stays_other, with_ordered, without_ordered}
use Rattle.omega_cell.specs.Laws.{RunsBelow, EachHasToGo, EvictInOrder, EvictsWhatHasToGo, EvictionsGoDown}
use Rattle.omega_cell.proofs.Shortest.{IsShortest, shortest}
use Rattle.omega_model.proofs.InOrder.{key_itself, key_differs}
use Rattle.omega_model.proofs.Lists.{by_answer, filter_every, find_none, each_absent, filter_and, filter_alike}
use Rattle.omega_model.proofs.Admitted.{Refuses, refuses_changed, refuses_if, refuses_rank, refuses_running}

-- a new task stands in its place, whatever had its name
with_task_anew : (t : Task) (tasks : List Task) → with_task t (without (t.key ∷ []) tasks) ≡ with_task t tasks
with_task_anew t tasks =
    ap₂ (λ (front back : List Task). front ++ t ∷ back)
    (anew (λ o. key_lt o.key t.key) (λ o less. key_differs o.key t.key less))
    (anew (λ o. key_lt t.key o.key) (λ o less. key_differs_back t.key o.key less))
  where
    anew : (p : Task → Bool) → ((o : Task) → p o ≡ true → same_key o.key t.key ≡ false) → filter p (without (t.key ∷ []) tasks) ≡ filter p tasks
    anew p differs =
        filter_and p (λ o. not (is_among o.key (t.key ∷ []))) tasks
        ∙ filter_alike (λ o. p o && not (is_among o.key (t.key ∷ []))) p
        (λ o. by_answer (p o) (λ y. rw y (stays_other t.key o (differs o y))) (λ n. rw n refl)) tasks

ordered_with : (t : Task) (tasks : List Task) → IsInOrder ByKey tasks → IsInOrder ByKey (with_task t tasks)
ordered_with t tasks order =
    subst (IsInOrder ByKey) (with_task_anew t tasks) (with_ordered t (without (t.key ∷ []) tasks) (gone_absent t.key tasks) (without_ordered (t.key ∷ []) tasks order))

-- tasks stay in order of key
ordered_claim : (tasks : List Task) (decided : Claim × Judgement) → IsInOrder ByKey tasks → IsInOrder ByKey (tasks_after_claim tasks decided)
ordered_claim tasks (claim, judgement) order =
    by_answer (admits judgement)
    (λ t. rw t (ordered_with (task_of claim) (without judgement.evicted tasks) (without_ordered judgement.evicted tasks order)))
    (λ f. rw f order)

ordered_claims : (tasks : List Task) (decided : List (Claim × Judgement)) → IsInOrder ByKey tasks → IsInOrder ByKey (fold tasks_after_claim tasks decided)
ordered_claims tasks [] order = order
ordered_claims tasks (d ∷ decided) order = ordered_claims (tasks_after_claim tasks d) decided (ordered_claim tasks d order)

ordered_entry : (tasks : List Task) (entry : Entry) → IsInOrder ByKey tasks → IsInOrder ByKey (tasks_after tasks entry)
ordered_entry tasks (Round number) order = order
ordered_entry tasks (MachineAdd machine amount) order = without_ordered (keys_of (displaced tasks (MachineAdd machine amount))) tasks order
ordered_entry tasks (MachineUpdate machine amount) order = without_ordered (keys_of (displaced tasks (MachineUpdate machine amount))) tasks order
ordered_entry tasks (MachineRemove machine) order = without_ordered (keys_of (displaced tasks (MachineRemove machine))) tasks order
ordered_entry tasks (AttrSet machine name value) order = order
ordered_entry tasks (AttrDelete machine name) order = order
ordered_entry tasks (End key machine) order = rises_filter (precedes ByKey) (goes_on key machine) tasks order
ordered_entry tasks (Commit scheduler seen txn reply) order = ordered_claims tasks (zip txn.claims reply) order

ordered_from : (cell : Cell) (history : List Entry) → IsInOrder ByKey cell.tasks → IsInOrder ByKey (fold step cell history).tasks
ordered_from cell [] order = order
ordered_from cell (entry ∷ history) order = ordered_from (step cell entry) history (ordered_entry cell.tasks entry order)

-- in every state
pub state_ordered : (history : List Entry) → IsInOrder ByKey (state history).tasks
state_ordered history = ordered_from (state []) history tt

-- the first of the standing victims all stand where no others are named
stand_alone : (tasks : List Task) (claim : Claim) (turn : ℕ) → filter (runs_on tasks claim.machine) (first_mentions (take turn (standing_victims tasks claim))) ≡ take turn (standing_victims tasks claim)
stand_alone tasks claim turn =
    let gone = take turn (standing_victims tasks claim) in
    let known = first_standing tasks claim.machine turn (standing_victims tasks claim) (are_standing tasks claim) in
    ap (filter (runs_on tasks claim.machine)) (mentions_once gone known.once) ∙ filter_every (runs_on tasks claim.machine) gone known.runs

room_made : (cell : Cell) (claim : Claim) → would_be_placed cell claim ≡ true → makes_room cell claim (standing_victims cell.tasks claim) ≡ true
room_made cell claim placed = (placeable_fine cell claim (is_placed-Placed (judge_fine cell claim).verdict placed)).room

-- where they don't make room, the claim would not be placed with them alone
not_enough : (cell : Cell) (claim : Claim) (turn : ℕ) → makes_room cell claim (take turn (standing_victims cell.tasks claim)) ≡ false
    → would_be_placed cell (record claim { victims = take turn (standing_victims cell.tasks claim) }) ≡ false
not_enough cell claim turn lacks =
    let gone = take turn (standing_victims cell.tasks claim) in
    let alone : Claim = record claim { victims = gone } in
    by_answer (would_be_placed cell alone)
    (λ t. absurd (both_ways _ lacks (ap (makes_room cell claim) (sym (stand_alone cell.tasks claim turn)) ∙ room_made cell alone t)))
    (λ f. f)

-- an element among the first ones stands in the list
at_front : {X : Type 0} (xs : List X) (n place : ℕ) (x : X) → slice_get (take n xs) place ≡ Some x → slice_get xs place ≡ Some x
at_front xs zero place x is = absurd (none-some x is)
at_front [] (suc n) place x is = is
at_front (y ∷ xs) (suc n) zero x is = is
at_front (y ∷ xs) (suc n) (suc place) x is = at_front xs n place x is

-- a name at a place is among the names
among_at : (keys : List TaskKey) (place : ℕ) (key : TaskKey) → slice_get keys place ≡ Some key → is_among key keys ≡ true
among_at [] place key is = absurd (none-some key is)
among_at (k ∷ keys) zero key is = or_left (same_key key k) (is_among key keys) (subst (λ x. same_key x k ≡ true) (same_Some k key is) (key_itself k))
among_at (k ∷ keys) (suc place) key is = or_right (same_key key k) (is_among key keys) (among_at keys place key is)

-- none passes a test that finds nothing
none_passes : (p : TaskKey → Bool) (keys : List TaskKey) → find p keys ≡ None → (place : ℕ) (key : TaskKey) → slice_get keys place ≡ Some key → p key ≡ false
none_passes p [] none place key is = absurd (none-some key is)
none_passes p (k ∷ keys) none place key is = let absent = each_absent p (k ∷ keys) none in at place is absent.0 (none_passes p keys (find_none p keys absent.1))
  where
    at : (j : ℕ) → slice_get (k ∷ keys) j ≡ Some key → p k ≡ false → ((i : ℕ) (x : TaskKey) → slice_get keys i ≡ Some x → p x ≡ false) → p key ≡ false
    at zero here f rest = subst (λ x. p x ≡ false) (same_Some k key here) f
    at (suc j) here f rest = rest j key here

-- where a claim is placed, each victim that stands yields
all_yield : (change : Option Verdict) (cell : Cell) (claim : Claim) → Refuses change → is_placed (verdict_given change cell claim) ≡ true
    → find (withstands cell.tasks claim.spec.prec) (standing_victims cell.tasks claim) ≡ None
all_yield change cell claim refuses placed =
    let up = passes (no_machine cell claim) _ (refuses_if (not (is_up (machine_at cell.machines claim.machine))) NoMachine refl) (is_placed-Placed _ placed) in
    let new = passes (already_running cell claim) _ (refuses_running (task_at cell.tasks claim.key)) up.1 in
    let same = passes change _ refuses new.1 in
    let found = find (withstands cell.tasks claim.spec.prec) (standing_victims cell.tasks claim) in
    none_mapped found (passes (victim_rank cell claim) _ (refuses_rank found) same.1).0
  where
    none_mapped : (o : Option TaskKey) → option_map VictimRank o ≡ None → o ≡ None
    none_mapped None e = refl
    none_mapped (Some key) e = absurd (none-some (VictimRank key) (sym e))

-- a victim that runs on the machine and yields runs below the claim, once others are gone
runs_below : (tasks : List Task) (id prec : ℕ) (gone : List TaskKey) (key : TaskKey) → IsInOrder ByKey tasks → runs_on tasks id key ≡ true → withstands tasks prec key ≡ false → is_among key gone ≡ false
    → RunsBelow (without gone tasks) id prec key
runs_below tasks id prec gone key order runs yields stays =
    let task = found_on tasks id key order runs in
    let still : task_at (without gone tasks) key ≡ Some task.0 = found_still gone tasks key stays ∙ task.1 in
    let lower : nat_le prec task.0.spec.prec ≡ false =
    sym (withstands_is tasks prec key order ∙ ap (λ o. option_map_or (λ (t : Task). nat_le prec t.spec.prec) o false) task.1) ∙ yields in
    subst (λ o. IsSomeAnd o (λ (t : Task). (t.machine ≡ id) × (t.spec.prec < prec))) (sym still) (task.2, leb-false prec task.0.spec.prec lower)

module _ (cell : Cell) (claim : Claim) (order : IsInOrder ByKey cell.tasks) (yield : find (withstands cell.tasks claim.spec.prec) (standing_victims cell.tasks claim) ≡ None) where
  abbrev standing : List TaskKey
  standing = standing_victims cell.tasks claim

  -- what is found among the beginnings of the standing victims has to go
  begins_go : (evicted : List TaskKey) → IsShortest (makes_room cell claim) standing evicted → EachHasToGo cell claim evicted
  begins_go evicted begins turn key is =
      let stands = stand cell.tasks claim.machine (take begins.count standing) (first_standing cell.tasks claim.machine begins.count standing (are_standing cell.tasks claim)) in
      let here : slice_get (take begins.count standing) turn ≡ Some key = sym (ap (λ keys. slice_get keys turn) begins.is) ∙ is in
      let there : slice_get standing turn ≡ Some key = at_front standing begins.count turn key here in
      let runs = stands turn key here in
      let among : (runs_on cell.tasks claim.machine key && is_among key claim.victims) ≡ true =
      sym (among_filter (runs_on cell.tasks claim.machine) key (first_mentions claim.victims) ∙ ap (λ b. runs_on cell.tasks claim.machine key && b) (among_first key claim.victims))
      ∙ among_at standing turn key there in
      let once : is_among key (take turn evicted) ≡ false = ap (λ keys. is_among key (take turn keys)) begins.is ∙ runs.1 in
      let below : turn < length (take begins.count standing) = slice_get_within (take begins.count standing) turn key here in
      let most = length-take begins.count standing in
      let before : turn < begins.count = omega (arith, below, most) in
      let front : take turn evicted ≡ take turn standing = ap (take turn) begins.is ∙ take-take turn begins.count standing (omega (arith, before)) in
      record {
        below = runs_below cell.tasks claim.machine claim.spec.prec (take turn evicted) key order runs.0 (none_passes (withstands cell.tasks claim.spec.prec) standing yield turn key there) once;
        named = (and_parts _ _ among).1;
        needed = subst (λ (gone : List TaskKey). would_be_placed cell (record claim { victims = gone }) ≡ false) (sym front) (not_enough cell claim turn (begins.least turn before));
      }

  -- so has what is evicted
  pub evicted_go : EachHasToGo cell claim (evicted_for cell claim)
  evicted_go = by (find (makes_room cell claim) (beginnings standing)) refl
    where
      by : (found : Option (List TaskKey)) → find (makes_room cell claim) (beginnings standing) ≡ found → EachHasToGo cell claim (unwrap_or found [])
      by None is turn key at = absurd (none-some key at)
      by (Some evicted) is turn key at = begins_go evicted (shortest (makes_room cell claim) standing evicted is) turn key at

-- where nothing is evicted nothing has to go
none_goes : (cell : Cell) (claim : Claim) (evicted : List TaskKey) → evicted ≡ [] → EachHasToGo cell claim evicted
none_goes cell claim evicted none turn key is = absurd (none-some key (sym (ap (λ (keys : List TaskKey). slice_get keys turn) none) ∙ is))

-- what is evicted by a judgement
judged_go : (change : Option Verdict) (cell : Cell) (claim : Claim) → Refuses change → IsInOrder ByKey cell.tasks → EachHasToGo cell claim (judged_given change cell claim).evicted
judged_go change cell claim refuses order =
    by_answer (is_placed (verdict_given change cell claim))
    (λ t. rw t (evicted_go cell claim order (all_yield change cell claim refuses t)))
    (λ f. rw f (none_goes cell claim [] refl))

-- what is evicted for claims that are judged in order
judgements_go : (history : List Entry) (seen : ℕ) (cell : Cell) (rule : Rule) (claims : List Claim) → IsInOrder ByKey cell.tasks
    → EvictInOrder cell (zip claims (judgements history seen cell rule claims))
judgements_go history seen cell rule [] order place claim judgement is = absurd (none-some _ is)
judgements_go history seen cell rule (first ∷ claims) order zero claim judgement is =
    let here : (first, judge history seen cell rule first) ≡ (claim, judgement) = same_Some _ _ is in
    subst (λ (d : Claim × Judgement). EachHasToGo cell d.0 d.1.evicted) here (judged_go (changed history seen rule first) cell first (refuses_changed history seen rule first) order)
judgements_go history seen cell rule (first ∷ claims) order (suc place) claim judgement is =
    let decided : Claim × Judgement = (first, judge history seen cell rule first) in
    judgements_go history seen (after_claim cell decided) rule claims (ordered_claim cell.tasks decided order) place claim judgement is

-- a judgement that refuses evicts nothing
abbrev RefusesEvictNone : List Judgement → Type 0
RefusesEvictNone reply = Each (λ (judgement : Judgement). admits judgement ≡ false → judgement.evicted ≡ []) reply

judgements_none : (history : List Entry) (seen : ℕ) (cell : Cell) (rule : Rule) (claims : List Claim) → RefusesEvictNone (judgements history seen cell rule claims)
judgements_none history seen cell rule [] = tt
judgements_none history seen cell rule (claim ∷ claims) =
    ((λ f. rw f refl), judgements_none history seen (after_claim cell (claim, judge history seen cell rule claim)) rule claims)

-- nor does a withdrawn gang
withdrawn_go : (place : ℕ) (cell : Cell) (claims : List Claim) (reply : List Judgement) → RefusesEvictNone reply → EvictInOrder cell (zip claims (map (withdrawn_for place) reply))
withdrawn_go place cell [] reply none at claim judgement is = absurd (none-some _ is)
withdrawn_go place cell (first ∷ claims) [] none at claim judgement is = absurd (none-some _ is)
withdrawn_go place cell (first ∷ claims) (answered ∷ reply) none zero claim judgement is =
    let here : (first, withdrawn_for place answered) ≡ (claim, judgement) = same_Some _ _ is in
    none_goes cell claim judgement.evicted
    (sym (ap (λ (d : Claim × Judgement). d.1.evicted) here) ∙ by_answer (admits answered) (λ t. rw t refl) (λ f. rw f (none.0 f)))
withdrawn_go place cell (first ∷ claims) (answered ∷ reply) none (suc at) claim judgement is =
    withdrawn_go place (after_claim cell (first, withdrawn_for place answered)) claims reply none.1 at claim judgement is

reply_go : (history : List Entry) (seen : ℕ) (cell : Cell) (txn : Txn) → IsInOrder ByKey cell.tasks → EvictInOrder cell (zip txn.claims (reply_on history cell seen txn))
reply_go history seen cell txn order = by txn.mode
  where
    answered : List Judgement
    answered = judgements history seen cell txn.rule txn.claims

    by : (mode : Mode) → EvictInOrder cell (zip txn.claims (by_mode mode answered))
    by Incremental = judgements_go history seen cell txn.rule txn.claims order
    by Gang =
        by_answer (first_refused answered == length answered)
        (λ t. rw t (judgements_go history seen cell txn.rule txn.claims order))
        (λ f. rw f (withdrawn_go (first_refused answered) cell txn.claims answered (judgements_none history seen cell txn.rule txn.claims)))

commit_evicts : (before : List Entry) (entry : Entry) → Follows before entry → EvictsWhatHasToGo before entry
commit_evicts before (Round number) follows = tt
commit_evicts before (MachineAdd machine amount) follows = tt
commit_evicts before (MachineUpdate machine amount) follows = tt
commit_evicts before (MachineRemove machine) follows = tt
commit_evicts before (AttrSet machine name value) follows = tt
commit_evicts before (AttrDelete machine name) follows = tt
commit_evicts before (End key machine) follows = tt
commit_evicts before (Commit scheduler seen txn reply) follows =
    subst (λ (answered : List Judgement). EvictInOrder (state before) (zip txn.claims answered)) (sym follows.1) (reply_go before seen (state before) txn (state_ordered before))

pub evictions_go_down : (history : List Entry) → Legal history → EvictionsGoDown history
evictions_go_down history legal place entry is = commit_evicts (take place history) entry (legal place entry is)
