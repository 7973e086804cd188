-- What is left on a machine once the first of the candidates go.
use Rattle.std.proofs.Common.{◌≡◌, ◌+◌, ◌-◌, ◌<◌, ◌≤◌, ℕ, zero, suc, Bool, true, false, not, ◌&&◌, ◌||◌, ◌==◌, List, [], ◌∷◌, ◌++◌, length, get_or, map, take, drop, position, slice_get, Option, Some, None, is_some, arith, refl, sym, ap, ap₂, ◌∙◌}
use Rattle.std.specs.List.{filter, find, list_any, range_with_len, AllByRecursion as Each}
use Rattle.std.specs.Option.{option_map, option_map_or}
use Rattle.std.proofs.lemmas.Bool.{and_from, both_ways, false_from_ne_true, eqb-true, not_from_false, not-true}
use Rattle.std.proofs.lemmas.List.{drop_more, length-map, take-append-drop}
use Rattle.std.proofs.lemmas.List.Folds.{find_at}
use Rattle.std.proofs.lemmas.Option.{cond_some}
use Rattle.omega_model.specs.Cell.{Cell, by_rank, is_on, keys_of, machine_at, rest_on, task_at, total, use_on, without}
use Rattle.omega_model.specs.Jobs.{is_of_job, stays_of_job}
use Rattle.omega_model.specs.Machines.{is_listed}
use Rattle.omega_model.specs.Judge.{capacity_of, free_without, has_rival, is_up, makes_room}
use Rattle.omega_model.specs.Keys.{is_among}
use Rattle.omega_model.specs.Need.{Fits, fits, minus, nothing, plus}
use Rattle.omega_model.specs.Plan.{candidates, claim_of, gives_way, victims}
use Rattle.omega_model.specs.State.{ranked_on}
use Rattle.omega_model.specs.declared.cells.Machine.{Machine}
use Rattle.omega_model.specs.declared.cells.Need.{Need}
use Rattle.omega_model.specs.declared.cells.Task.{Task}
use Rattle.omega_model.specs.declared.cells.TaskKey.{TaskKey}
use Rattle.omega_model.specs.declared.wishes.Wish.{Wish}
use Rattle.omega_model.proofs.Amounts.{fits_part, fits_same, fits_tested, fits_trans, need_is, plus-swap, rest_is, share, total-cons}
use Rattle.omega_model.proofs.Lists.{by_answer, filter_and, filter_turned, each_both, each_map, filter_every, each_take, each_filter, each_passes, found_passes}
use Rattle.omega_running.specs.Order.{IsInOrder, precedes}
use Rattle.omega_running.specs.declared.orders.Order.TheVariants.{ByKey}
use Rattle.omega_running.proofs.Kept.{rises_filter}
use Rattle.omega_board.proofs.Ranks.{each_here, fits_true, use-without}
use Rattle.omega_board.proofs.Untouched.{among_each}
use Rattle.omega_fit.proofs.Middles.{below_or_not}
use Rattle.omega_plan.specs.Leaving.{evictable, leaves_enough, need_staying, stays, staying}
use Rattle.omega_plan.proofs.Candidates.{are_candidates, candidates_yield, yields}
use Rattle.omega_plan.proofs.Fewest.{goes_with, may_go, none_found, none_mapped, victims_by_room}

-- one more task takes its share
left_more : (p : Task → Bool) (left : Need) (t : Task) (tasks : List Task) → minus left (total (filter p (t ∷ tasks))) ≡ minus (minus left (share p t)) (total (filter p tasks))
left_more p left t tasks = ap (minus left) (total-cons p t tasks) ∙ minus_twice left (share p t) (total (filter p tasks))
  where
    minus_twice : (a b c : Need) → minus a (plus b c) ≡ minus (minus a b) c
    minus_twice a b c = need_is _ _ (omega arith) (omega arith) (omega arith)

pub minus_plus : (a b c : Need) → minus (minus a b) c ≡ minus a (plus b c)
minus_plus a b c = need_is _ _ (omega arith) (omega arith) (omega arith)

-- one more of those that stay takes what it needs
pub staying_more : (wish : Wish) (left next whole : Need) (tasks : List Task) (i : ℕ) (d : Task) → i < length tasks → next ≡ minus left (need_staying wish (get_or tasks i d))
    → minus left (total (filter (stays wish) (drop i tasks))) ≡ whole → minus next (total (filter (stays wish) (drop (i + 1) tasks))) ≡ whole
staying_more wish left next whole tasks i d below is so =
    ap (λ (n : Need). minus n (total (filter (stays wish) (drop (i + 1) tasks)))) is
    ∙ sym (left_more (stays wish) left (get_or tasks i d) (drop (i + 1) tasks))
    ∙ ap (λ (ts : List Task). minus left (total (filter (stays wish) ts))) (sym (drop_more tasks i d below))
    ∙ so

-- tasks are those that stay and those that give way
total_split : (p : Task → Bool) (tasks : List Task) → total tasks ≡ plus (total (filter (λ t. not (p t)) tasks)) (total (filter p tasks))
total_split p [] = refl
total_split p (t ∷ tasks) =
    by_answer (p t)
    (λ h. rw h (ap (plus t.spec.need) (total_split p tasks) ∙ plus-swap t.spec.need (total (filter (λ o. not (p o)) tasks)) (total (filter p tasks))))
    (λ h. rw h (ap (plus t.spec.need) (total_split p tasks) ∙ plus_apart t.spec.need (total (filter (λ o. not (p o)) tasks)) (total (filter p tasks))))
  where
    plus_apart : (a b c : Need) → plus a (plus b c) ≡ plus (plus a b) c
    plus_apart a b c = need_is _ _ (omega arith) (omega arith) (omega arith)

-- the names of the first tasks
take_keys : (n : ℕ) (tasks : List Task) → take n (keys_of tasks) ≡ keys_of (take n tasks)
take_keys zero tasks = refl
take_keys (suc n) [] = refl
take_keys (suc n) (t ∷ tasks) = ap (λ ks. t.key ∷ ks) (take_keys n tasks)

-- a search finds the least number that passes
find_least_from : (test : ℕ → Bool) (from k n : ℕ) → from ≤ n → n < from + k → test n ≡ true → ((m : ℕ) → from ≤ m → m < n → test m ≡ false) → find test (range_with_len from k) ≡ Some n
find_least_from test from zero n le below passes fails = absurd (omega (arith, le, below))
find_least_from test from (suc k) n le below passes fails =
    below_or_not from n
    (λ less. let out : test from ≡ false = fails from (omega arith) less in
    rw out (find_least_from test (from + 1) k n (omega (arith, less)) (omega (arith, below)) passes (λ m more under. fails m (omega (arith, more)) under)))
    (λ ge. let same : from ≡ n = omega (arith, le, ge) in
    let here : test from ≡ true = ap test same ∙ passes in
    rw here (ap Some same))

pub find_least : (test : ℕ → Bool) (k n : ℕ) → n < k → test n ≡ true → ((m : ℕ) → m < n → test m ≡ false) → find test (range_with_len 0 k) ≡ Some n
find_least test k n below passes fails = find_least_from test 0 k n (omega arith) (omega (arith, below)) passes (λ m more under. fails m under)

-- what is left when the last task but these takes its need too
pub less_before : (whole left less : Need) (tasks : List Task) (n : ℕ) (d : Task) → 0 < n → n ≤ length tasks → left ≡ minus whole (total (drop n tasks))
    → less ≡ minus left (get_or tasks (n - 1) d).spec.need → less ≡ minus whole (total (drop (n - 1) tasks))
less_before whole left less tasks n d some within is taken =
    let t = get_or tasks (n - 1) d in
    let next : n - 1 + 1 ≡ n = omega (arith, some) in
    let here : drop (n - 1) tasks ≡ t ∷ drop n tasks = drop_more tasks (n - 1) d (omega (arith, some, within)) ∙ ap (λ k. t ∷ drop k tasks) next in
    taken
    ∙ ap (λ (m : Need). minus m t.spec.need) is
    ∙ minus_plus whole (total (drop n tasks)) t.spec.need
    ∙ ap (minus whole) (turned (total (drop n tasks)) t.spec.need)
    ∙ ap (λ (ts : List Task). minus whole (total ts)) (sym here)
  where
    turned : (a b : Need) → plus a b ≡ plus b a
    turned a b = need_is _ _ (omega arith) (omega arith) (omega arith)

-- more tasks take no less
total_later : (m n : ℕ) (tasks : List Task) → m ≤ n → Fits (total (drop n tasks)) (total (drop m tasks))
total_later zero zero tasks le = fits_same (total tasks)
total_later zero (suc n) [] le = fits_same nothing
total_later zero (suc n) (t ∷ tasks) le = fits_trans _ _ _ (total_later zero n tasks (omega arith)) (fits_part t.spec.need (total tasks))
total_later (suc m) zero tasks le = absurd (omega (arith, le))
total_later (suc m) (suc n) [] le = fits_same nothing
total_later (suc m) (suc n) (t ∷ tasks) le = total_later m n tasks (omega (arith, le))

-- so where these leave too little, more do
pub little_before : (need left : Need) (tasks : List Task) (m n : ℕ) → m ≤ n → leaves_enough need left tasks n ≡ false → leaves_enough need left tasks m ≡ false
little_before need left tasks m n le little =
    false_from_ne_true _ (λ t.
    let more = total_later m n tasks le in
    let room : Fits need (minus left (total (drop m tasks))) = fits_tested _ _ t in
    both_ways _ little (fits_true need (minus left (total (drop n tasks)))
    (omega (arith, more.0, room.0), (omega (arith, more.1.0, room.1.0), omega (arith, more.1.1, room.1.1)))))

module _ (cell : Cell) (id : ℕ) (wish : Wish) (order : IsInOrder ByKey cell.tasks) (n : ℕ) where
  abbrev gone : List TaskKey
  gone = take n (candidates cell id wish)

  -- a task that stays is none of the candidates
  not_gone : (t : Task) → task_at cell.tasks t.key ≡ Some t → gives_way wish t ≡ false → is_among t.key gone ≡ false
  not_gone t here stays =
      false_from_ne_true _ (λ among.
      let way : yields cell.tasks wish t.key ≡ true =
      among_each (λ key. yields cell.tasks wish key ≡ true) t.key gone (each_take (λ key. yields cell.tasks wish key ≡ true) n (candidates cell id wish) (candidates_yield cell id wish order)) among in
      both_ways _ stays (sym (ap (λ o. option_map_or (gives_way wish) o false) here) ∙ way))

  -- so what stays on the machine are those that stay and the candidates that don't go
  pub rest_beside : rest_on cell.tasks id gone ≡ plus (total (staying cell id wish)) (total (drop n (evictable cell id wish)))
  rest_beside =
      let tasks = cell.tasks in
      let g : Task → Bool = gives_way wish in
      let q : Task → Bool = λ t. not (is_among t.key gone) in
      let on : Task → Bool = is_on id in
      let cands = evictable cell id wish in
      let each : Each (λ t. q t ≡ true) (filter (stays wish) tasks) =
      each_both (λ t. stays wish t ≡ true) (λ t. task_at tasks t.key ≡ Some t) (λ t. q t ≡ true)
      (λ t own here. not_from_false _ (not_gone t here (not-true _ own))) (filter (stays wish) tasks)
      (each_passes (stays wish) tasks) (each_filter (λ t. task_at tasks t.key ≡ Some t) (stays wish) tasks (each_here tasks order)) in
      let first : filter (stays wish) (filter on (filter q tasks)) ≡ staying cell id wish =
      filter_turned (stays wish) on (filter q tasks)
      ∙ ap (filter on) (filter_turned (stays wish) q tasks ∙ filter_every q (filter (stays wish) tasks) each)
      ∙ filter_turned on (stays wish) tasks in
      let parts : ranked_on id (filter g tasks) ≡ take n cands ++ drop n cands =
      ap by_rank (filter_and on g tasks) ∙ sym (take-append-drop n cands) in
      let second : total (filter g (filter on (filter q tasks))) ≡ total (drop n cands) =
      ap total (filter_turned g on (filter q tasks) ∙ ap (filter on) (filter_turned g q tasks))
      ∙ ap (λ (keys : List TaskKey). use_on (without keys (filter g tasks)) id) (take_keys n cands)
      ∙ use-without (filter g tasks) id (take n cands) (drop n cands) (rises_filter (precedes ByKey) g tasks order) parts in
      rest_is tasks id gone
      ∙ total_split g (filter on (filter q tasks))
      ∙ ap₂ plus (ap total first) second

  -- no task of the own job is among them
  any_same : (p q : Task → Bool) (tasks : List Task) → Each (λ t. p t ≡ q t) tasks → list_any p tasks ≡ list_any q tasks
  any_same p q [] each = refl
  any_same p q (t ∷ tasks) each = ap₂ (λ (a b : Bool). a || b) each.0 (any_same p q tasks each.1)

  rival_alike : (t : Task) → task_at cell.tasks t.key ≡ Some t → stays_of_job wish.key.job id gone t ≡ stays_of_job wish.key.job id [] t
  rival_alike t here =
      by_answer (is_of_job wish.key.job t)
      (λ own.
      let stays : gives_way wish t ≡ false = rw own refl in
      let none : is_among t.key gone ≡ false = not_gone t here stays in
      rw (own, none) refl)
      (λ other. rw other refl)

  pub rival_still : has_rival cell (claim_of wish [] id) gone ≡ has_rival cell (claim_of wish [] id) []
  rival_still =
      ap (λ b. wish.spec.differ && b)
      (any_same (stays_of_job wish.key.job id gone) (stays_of_job wish.key.job id []) cell.tasks
      (each_map (λ t. task_at cell.tasks t.key ≡ Some t) (λ t. stays_of_job wish.key.job id gone t ≡ stays_of_job wish.key.job id [] t) rival_alike cell.tasks (each_here cell.tasks order)))

-- a search over what a function makes of numbers
find_made : {X Y : Type 0} (p : Y → Bool) (q : X → Bool) (f : X → Y) → ((x : X) → p (f x) ≡ q x) → (xs : List X) → find p (map f xs) ≡ option_map f (find q xs)
find_made p q f same [] = refl
find_made p q f same (x ∷ xs) =
    by_answer (q x)
    (λ t. let own = same x ∙ t in rw (t, own) refl)
    (λ e. let own = same x ∙ e in rw (e, own) (find_made p q f same xs))

module _ (cell : Cell) (wish : Wish) (id : ℕ) (order : IsInOrder ByKey cell.tasks) where
  not_there : may_go cell id wish ≡ false → None ≡ victims cell id wish
  not_there never =
      let keys = candidates cell id wish in
      sym (victims_by_room cell id wish keys (are_candidates cell id wish order) refl
      ∙ none_mapped (goes_with cell id wish keys) (λ n. take n keys)
      (λ n. ap (λ b. b && makes_room cell (claim_of wish keys id) (take n keys)) never) (range_with_len 0 (length keys + 1)))

  -- where no machine is up, nothing makes room
  pub victims_down : is_up (machine_at cell.machines id) ≡ false → None ≡ victims cell id wish
  victims_down down = not_there (ap (λ b. b && not (is_some (task_at cell.tasks wish.key))) down)

  -- nor for a task that runs
  pub victims_running : is_some (task_at cell.tasks wish.key) ≡ true → None ≡ victims cell id wish
  victims_running runs = not_there (ap (λ b. is_up (machine_at cell.machines id) && not b) runs ∙ never (is_up (machine_at cell.machines id)))
    where
      never : (b : Bool) → (b && false) ≡ false
      never true = refl
      never false = refl

-- the listed machine of a number
pub none_listed : (machines : List Machine) (id : ℕ) → is_listed id machines ≡ false → is_up (machine_at machines id) ≡ false
none_listed machines id none = ap is_up (none_found (λ m. m.id == id) machines none)

pub listed_at : (machines : List Machine) (id place : ℕ) (machine : Option Machine) → Some place ≡ position (λ m. m.id == id) machines → machine ≡ slice_get machines place
    → machine_at machines id ≡ machine
listed_at machines id place machine placed is =
    find_at (λ m. m.id == id) machines ∙ ap (slice_get machines) (cond_some _ _ _ (sym placed)).1 ∙ sym is

pub listed_own : (machines : List Machine) (id : ℕ) (machine : Machine) → machine_at machines id ≡ Some machine → id ≡ machine.id
listed_own machines id machine is = sym (eqb-true _ _ (found_passes (λ m. m.id == id) machines machine is))

module _ (cell : Cell) (wish : Wish) (machine : Machine) (order : IsInOrder ByKey cell.tasks) (absent : task_at cell.tasks wish.key ≡ None)
    (listed : machine_at cell.machines machine.id ≡ Some machine) where
  -- on one that is up the first of the candidates make room where they leave enough, and no task of the job is there
  -- where the wish must be alone
  room_there : machine.up ≡ true → (n : ℕ) → goes_with cell machine.id wish (candidates cell machine.id wish) (take n (candidates cell machine.id wish))
      ≡ (leaves_enough wish.spec.need (minus machine.cap (total (staying cell machine.id wish))) (evictable cell machine.id wish) n
      && not (has_rival cell (claim_of wish [] machine.id) []))
  room_there up n =
      let keys = candidates cell machine.id wish in
      let may : may_go cell machine.id wish ≡ true =
      and_from _ _ (ap is_up listed ∙ up) (ap (λ o. not (is_some o)) absent) in
      let free : free_without cell (claim_of wish keys machine.id) (take n keys)
      ≡ minus (minus machine.cap (total (staying cell machine.id wish))) (total (drop n (evictable cell machine.id wish))) =
      ap₂ minus (ap capacity_of listed) (rest_beside cell machine.id wish order n)
      ∙ sym (minus_plus machine.cap (total (staying cell machine.id wish)) (total (drop n (evictable cell machine.id wish)))) in
      ap (λ b. b && makes_room cell (claim_of wish keys machine.id) (take n keys)) may
      ∙ ap₂ (λ f b. fits wish.spec.need f && not b) free (rival_still cell machine.id wish order n)

  -- no room where one is there
  pub victims_beside : machine.up ≡ true → has_rival cell (claim_of wish [] machine.id) [] ≡ true → None ≡ victims cell machine.id wish
  victims_beside up rival =
      let keys = candidates cell machine.id wish in
      sym (victims_by_room cell machine.id wish keys (are_candidates cell machine.id wish order) refl
      ∙ none_mapped (goes_with cell machine.id wish keys) (λ n. take n keys)
      (λ n. room_there up n ∙ ap (λ b. leaves_enough wish.spec.need (minus machine.cap (total (staying cell machine.id wish))) (evictable cell machine.id wish) n && not b) rival ∙ and_false _)
      (range_with_len 0 (length keys + 1)))
    where
      and_false : (b : Bool) → (b && false) ≡ false
      and_false true = refl
      and_false false = refl

  -- nor where what stays leaves too little
  pub victims_full : machine.up ≡ true → fits wish.spec.need (minus machine.cap (total (staying cell machine.id wish))) ≡ false → None ≡ victims cell machine.id wish
  victims_full up little =
      let keys = candidates cell machine.id wish in
      let left = minus machine.cap (total (staying cell machine.id wish)) in
      sym (victims_by_room cell machine.id wish keys (are_candidates cell machine.id wish order) refl
      ∙ none_mapped (goes_with cell machine.id wish keys) (λ n. take n keys)
      (λ n. room_there up n ∙ ap (λ b. b && not (has_rival cell (claim_of wish [] machine.id) [])) (still_little wish.spec.need left (total (drop n (evictable cell machine.id wish))) little))
      (range_with_len 0 (length keys + 1)))
    where
      still_little : (need left more : Need) → fits need left ≡ false → fits need (minus left more) ≡ false
      still_little need left more little =
          false_from_ne_true _ (λ t.
          let less : Fits need (minus left more) = fits_tested _ _ t in
          both_ways _ little (fits_true need left (omega (arith, less.0), (omega (arith, less.1.0), omega (arith, less.1.1)))))

  -- else the fewest that leave enough
  pub victims_counted : machine.up ≡ true → has_rival cell (claim_of wish [] machine.id) [] ≡ false
      → victims cell machine.id wish ≡ option_map (λ n. take n (candidates cell machine.id wish))
      (find (leaves_enough wish.spec.need (minus machine.cap (total (staying cell machine.id wish))) (evictable cell machine.id wish))
      (range_with_len 0 (length (evictable cell machine.id wish) + 1)))
  victims_counted up alone =
      let keys = candidates cell machine.id wish in
      let cands = evictable cell machine.id wish in
      let enough : ℕ → Bool = leaves_enough wish.spec.need (minus machine.cap (total (staying cell machine.id wish))) cands in
      let many : length keys ≡ length cands = length-map cands (λ (t : Task). t.key) in
      victims_by_room cell machine.id wish keys (are_candidates cell machine.id wish order) refl
      ∙ find_made (goes_with cell machine.id wish keys) enough (λ n. take n keys)
      (λ n. room_there up n ∙ ap (λ b. enough n && not b) alone ∙ and_true (enough n)) (range_with_len 0 (length keys + 1))
      ∙ ap (λ m. option_map (λ n. take n keys) (find enough (range_with_len 0 (m + 1)))) many
    where
      and_true : (b : Bool) → (b && true) ≡ b
      and_true true = refl
      and_true false = refl

  pub victims_fewest : machine.up ≡ true → has_rival cell (claim_of wish [] machine.id) [] ≡ false → (count : ℕ) (keys : List TaskKey)
      → find (leaves_enough wish.spec.need (minus machine.cap (total (staying cell machine.id wish))) (evictable cell machine.id wish))
      (range_with_len 0 (length (evictable cell machine.id wish) + 1)) ≡ Some count
      → keys ≡ keys_of (take count (evictable cell machine.id wish)) → Some keys ≡ victims cell machine.id wish
  victims_fewest up alone count keys found is =
      ap Some (is ∙ sym (take_keys count (evictable cell machine.id wish)))
      ∙ sym (victims_counted up alone ∙ ap (option_map (λ n. take n (candidates cell machine.id wish))) found)
