-- Where a rule puts the commits of a round in one order, the entries so far fix the next one.
use Rattle.std.proofs.Common.{◌≡◌, ◌≢◌, ◌≤◌, ◌<◌, ℕ, List, [], ◌∷◌, ◌++◌, length, take, drop, Option, Some, None, refl, sym, ap, ap₂, subst, arith, ◌∙◌, inl, inr}
use Rattle.std.specs.Prelude.{slice_get}
use Rattle.std.proofs.lemmas.Bool.{ne_eqb}
use Rattle.std.proofs.lemmas.Bool.Decides.{eqb_tells}
use Rattle.std.proofs.lemmas.List.{append-nil}
use Rattle.omega_model.specs.Lawful.{IsCommitOfRound, opened}
use Rattle.omega_model.specs.Policy.{schedulers}
use Rattle.omega_model.specs.State.{reply_of}
use Rattle.omega_model.specs.Work.{HasLeft, IsDue, standing_of}
use Rattle.omega_model.specs.declared.claims.Judgement.{Judgement}
use Rattle.omega_model.specs.declared.claims.Txn.{Txn}
use Rattle.omega_model.specs.declared.entries.Entry.{Entry}
use Rattle.omega_model.specs.declared.entries.Entry.TheVariants.{Round as RoundEntry, MachineAdd, MachineUpdate, MachineRemove, AttrSet, AttrDelete, End, Commit}
use Rattle.omega_model.specs.declared.rows.Row.{Row}
use Rattle.omega_model.specs.declared.rows.Round.{Round}
use Rattle.omega_model.specs.declared.rows.TraceTables.{TraceTables}
use Rattle.omega_model.specs.declared.settings.Settings.{Settings}
use Rattle.omega_model.specs.declared.wishes.Request.{Request}
use Rattle.omega_laws.specs.NextCommit.{ComesNext, GoesNext, HasNoWork, NobodyHasWork, WorksOn, attempt, attempt_txn, left_of}
use Rattle.omega_laws.specs.Orders.{EachComesNext, KeepsFrom, OrderedRound, OrderedRounds, Orders}
use Rattle.omega_laws.proofs.Agreeing.{first_agrees, is_attempt, left_push-other, works_or_idle}
use Rattle.omega_laws.proofs.Places.{at_seam_from, end_or_cut, front_push, longer}
use Rattle.omega_laws.proofs.RoundsAdd.{round_from}

module _ (settings : Settings) (trace : TraceTables) (rows : List Row) (opened_at : ℕ) where
  -- from a round's rows on only commits stand, and at the end nobody has work
  record Finished (history : List Entry) : Type 0 where
    commits : (place : ℕ) (entry : Entry) → slice_get history place ≡ Some entry → opened_at ≤ place
        → IsCommitOfRound settings opened_at (take place history) entry
    finished : (scheduler : ℕ) → scheduler < schedulers settings → HasLeft settings trace rows opened_at scheduler history []

  module _ (Keeps : List Entry → Entry → Type 0) (GoesBefore : List Entry → ℕ → ℕ → Type 0) (IsPassed : List Entry → ℕ → Type 0)
      (sees : List Entry → ℕ → ℕ) (order : Orders settings trace rows opened_at Keeps GoesBefore IsPassed sees) where
    -- a scheduler that is passed before the end has no work
    passed_idle : (history : List Entry) → Finished history → KeepsFrom Keeps opened_at history
        → (before later : List Entry) → history ≡ before ++ later → opened_at ≤ length before
        → (scheduler : ℕ) → scheduler < schedulers settings → IsPassed before scheduler
        → (request : Request) → WorksOn settings trace rows opened_at before scheduler request → ⊥
    passed_idle history whole keeps before [] is within scheduler known passed request works =
        works_or_idle settings trace rows opened_at before scheduler request works
        (subst (λ (h : List Entry). HasNoWork settings trace rows opened_at h scheduler)
        (is ∙ append-nil before) (whole.finished scheduler known).remains)
    passed_idle history whole keeps before (entry ∷ later) is within scheduler known passed request works =
        by_entry entry is (at_seam_from (IsCommitOfRound settings opened_at) opened_at history before entry later is within whole.commits)
        (at_seam_from Keeps opened_at history before entry later is within keeps)
        (passed_idle history whole keeps (before ++ entry ∷ []) later (front_push history before entry later is)
        (longer opened_at before entry within) scheduler known) where
          by_entry : (entry : Entry) → history ≡ before ++ entry ∷ later
              → IsCommitOfRound settings opened_at before entry → Keeps before entry
              → (IsPassed (before ++ entry ∷ []) scheduler
              → (request : Request) → WorksOn settings trace rows opened_at (before ++ entry ∷ []) scheduler request → ⊥)
              → ⊥
          by_entry (RoundEntry number) is may keeps rest = absurd may
          by_entry (MachineAdd machine cap) is may keeps rest = absurd may
          by_entry (MachineUpdate machine cap) is may keeps rest = absurd may
          by_entry (MachineRemove machine) is may keeps rest = absurd may
          by_entry (AttrSet machine name value) is may keeps rest = absurd may
          by_entry (AttrDelete machine name) is may keeps rest = absurd may
          by_entry (End key machine) is may keeps rest = absurd may
          by_entry (Commit by seen txn reply) is may keeps rest = elim (eqb_tells by scheduler) [
            | inl same ↦ order.stops before by seen txn reply (subst (IsPassed before) (sym same.1) passed) keeps
            | inr other ↦
                rest (order.stays before by seen txn reply scheduler request within other.1 works passed) request
                (works.0, left_push-other settings trace rows opened_at before (Commit by seen txn reply) scheduler within other.0 ∙ works.1)
          ]

    -- the entry after some entries is what comes next after them
    entry_next : (history : List Entry) → Finished history → KeepsFrom Keeps opened_at history
        → (before later : List Entry) (entry : Entry) → history ≡ before ++ entry ∷ later → opened_at ≤ length before
        → ComesNext settings trace rows opened_at GoesBefore sees before (Some entry)
    entry_next history whole keeps before later entry is within =
        by_entry entry is (at_seam_from (IsCommitOfRound settings opened_at) opened_at history before entry later is within whole.commits)
        (at_seam_from Keeps opened_at history before entry later is within keeps)
        (λ scheduler known. at_seam_from (IsDue settings trace rows opened_at scheduler) opened_at history before entry later is within
        (whole.finished scheduler known).due) where
          by_entry : (entry : Entry) → history ≡ before ++ entry ∷ later
              → IsCommitOfRound settings opened_at before entry → Keeps before entry
              → ((scheduler : ℕ) → scheduler < schedulers settings → IsDue settings trace rows opened_at scheduler before entry)
              → ComesNext settings trace rows opened_at GoesBefore sees before (Some entry)
          by_entry (RoundEntry number) is may keeps_so due = absurd may
          by_entry (MachineAdd machine cap) is may keeps_so due = absurd may
          by_entry (MachineUpdate machine cap) is may keeps_so due = absurd may
          by_entry (MachineRemove machine) is may keeps_so due = absurd may
          by_entry (AttrSet machine name value) is may keeps_so due = absurd may
          by_entry (AttrDelete machine name) is may keeps_so due = absurd may
          by_entry (End key machine) is may keeps_so due = absurd may
          by_entry (Commit by seen txn reply) is may keeps_so due =
              let first = first_agrees settings by before seen txn (standing_of settings trace rows opened_at by before) (due by may.known refl) in
              let has_seen : seen ≡ sees before by = order.has_seen before by seen txn reply keeps_so in
              let due_txn : txn ≡ attempt_txn settings before by seen first.0 = is_attempt settings before by seen txn first.0 first.1.1.1 in
              let same : Commit by seen txn reply ≡ attempt settings before by (sees before by) first.0 =
              ap (λ (r : List Judgement). Commit by seen txn r) may.answered
              ∙ ap (λ (t : Txn). Commit by seen t (reply_of before seen t)) due_txn
              ∙ ap (λ (n : ℕ). attempt settings before by n first.0) has_seen in (
                by,
                (
                  record {
                    known = may.known;
                    request = first.0;
                    has_work = (first.1.0, first.1.1.0);
                    first = λ other there apart wanted works. elim (order.either before by other apart) [
                      | inl goes ↦ goes
                      | inr goes ↦
                          let apart_by : by ≢ other = λ same. apart (sym same) in
                          absurd (passed_idle history whole keeps (before ++ Commit by seen txn reply ∷ []) later
                          (front_push history before (Commit by seen txn reply) later is)
                          (longer opened_at before (Commit by seen txn reply) within) other there
                          (order.passes before by seen txn reply other wanted within apart_by works goes) wanted
                          (works.0, left_push-other settings trace rows opened_at before (Commit by seen txn reply) other within (ne_eqb by other apart_by) ∙ works.1))
                    ];
                  },
                  same,
                ),
              )

    -- at the end nothing comes next
    end_next : (history : List Entry) → Finished history
        → ComesNext settings trace rows opened_at GoesBefore sees history None
    end_next history whole scheduler known = (whole.finished scheduler known).remains

    idle_or_goes : (before : List Entry) (scheduler : ℕ) → NobodyHasWork settings trace rows opened_at before
        → GoesNext settings trace rows opened_at GoesBefore before scheduler → ⊥
    idle_or_goes before scheduler nobody next =
        works_or_idle settings trace rows opened_at before scheduler next.request next.has_work (nobody scheduler next.known)

    -- only one thing comes next
    pub one_comes_next : (before : List Entry) (one other : Option Entry)
        → ComesNext settings trace rows opened_at GoesBefore sees before one
        → ComesNext settings trace rows opened_at GoesBefore sees before other → one ≡ other
    one_comes_next before None None a b = refl
    one_comes_next before None (Some entry) a b = absurd (idle_or_goes before b.0 a b.1.0)
    one_comes_next before (Some entry) None a b = absurd (idle_or_goes before a.0 b a.1.0)
    one_comes_next before (Some one) (Some other) a b =
        elim (eqb_tells a.0 b.0) [
          | inl same ↦ ap (λ (e : Entry). Some e) (a.1.1 ∙ same_attempt a.0 b.0 same.1 a.1.0 b.1.0 ∙ sym b.1.1)
          | inr differ ↦ absurd (order.not_both before a.0 b.0
              (a.1.0.first b.0 b.1.0.known (λ same. differ.1 (sym same)) b.1.0.request b.1.0.has_work)
              (b.1.0.first a.0 a.1.0.known differ.1 a.1.0.request a.1.0.has_work))
        ] where
          same_attempt : (s t : ℕ) → s ≡ t
              → (m : GoesNext settings trace rows opened_at GoesBefore before s)
              → (n : GoesNext settings trace rows opened_at GoesBefore before t)
              → attempt settings before s (sees before s) m.request ≡ attempt settings before t (sees before t) n.request
          same_attempt s t is m n =
              let same_first : Some (m.request ∷ m.has_work.0) ≡ Some (n.request ∷ n.has_work.0) =
              sym m.has_work.1 ∙ ap (left_of settings trace rows opened_at before) is ∙ n.has_work.1 in
              let same : m.request ≡ n.request = cc in
              ap₂ (λ (scheduler : ℕ) (request : Request). attempt settings before scheduler (sees before scheduler) request) is same

    over_next : (history before : List Entry) → Finished history → history ≡ before ++ []
        → ComesNext settings trace rows opened_at GoesBefore sees before None
    over_next history before whole is =
        subst (λ (h : List Entry). ComesNext settings trace rows opened_at GoesBefore sees h None) (is ∙ append-nil before)
        (end_next history whole)

    -- two whole rounds that keep to the rule and have a common front have the same rest
    same_later : (one other : List Entry) → Finished one → KeepsFrom Keeps opened_at one → Finished other → KeepsFrom Keeps opened_at other
        → (before later_one later_other : List Entry) → one ≡ before ++ later_one → other ≡ before ++ later_other → opened_at ≤ length before
        → later_one ≡ later_other
    same_later one other whole_one keeps_one whole_other keeps_other before [] [] is_one is_other within = refl
    same_later one other whole_one keeps_one whole_other keeps_other before [] (entry ∷ later) is_one is_other within =
        let clash : None ≡ Some entry = one_comes_next before None (Some entry) (over_next one before whole_one is_one)
        (entry_next other whole_other keeps_other before later entry is_other within) in
        absurd (cc)
    same_later one other whole_one keeps_one whole_other keeps_other before (entry ∷ later) [] is_one is_other within =
        let clash : None ≡ Some entry = one_comes_next before None (Some entry) (over_next other before whole_other is_other)
        (entry_next one whole_one keeps_one before later entry is_one within) in
        absurd (cc)
    same_later one other whole_one keeps_one whole_other keeps_other before (entry ∷ later_one) (entry_other ∷ later_other) is_one is_other within =
        let both : Some entry ≡ Some entry_other = one_comes_next before (Some entry) (Some entry_other)
        (entry_next one whole_one keeps_one before later_one entry is_one within)
        (entry_next other whole_other keeps_other before later_other entry_other is_other within) in
        let same : entry ≡ entry_other = cc in
        let is_too : other ≡ before ++ entry ∷ later_other = is_other ∙ ap (λ (e : Entry). before ++ e ∷ later_other) (sym same) in
        ap₂ (λ (e : Entry) (l : List Entry). e ∷ l) same
        (same_later one other whole_one keeps_one whole_other keeps_other (before ++ entry ∷ []) later_one later_other
        (front_push one before entry later_one is_one) (front_push other before entry later_other is_too) (longer opened_at before entry within))

module _ (settings : Settings) (trace : TraceTables) (rows : List Row) (start : List Entry) (round : Round)
    (Keeps : List Entry → Entry → Type 0) (GoesBefore : List Entry → ℕ → ℕ → Type 0) (IsPassed : List Entry → ℕ → Type 0)
    (sees : List Entry → ℕ → ℕ)
    (order : Orders settings trace (rows ++ round.rows) (length (opened trace rows start round).history) Keeps GoesBefore IsPassed sees) where
  finished : (history : List Entry) → OrderedRound settings trace rows start round Keeps history
      → Finished settings trace (rows ++ round.rows) (length (opened trace rows start round).history) history
  finished history kept = record { commits = kept.whole.begun.commits; finished = kept.whole.finished }

  -- at each place of a round that keeps to the rule, from its rows to its end, stands what comes next
  pub comes_next : (history : List Entry) → OrderedRound settings trace rows start round Keeps history
      → EachComesNext settings trace rows start round GoesBefore sees history
  comes_next history kept place from within =
      let all : List Row = rows ++ round.rows in
      let at : ℕ = length (opened trace rows start round).history in
      let whole : Finished settings trace all at history = finished history kept in
      elim (end_or_cut history place within) [
        | inl over ↦
            subst (λ (next : Option Entry). ComesNext settings trace all at GoesBefore sees (take place history) next) (sym over.nothing)
            (subst (λ (before : List Entry). ComesNext settings trace all at GoesBefore sees before None) (sym over.all)
            (end_next settings trace all at Keeps GoesBefore IsPassed sees order history whole))
        | inr more ↦
            subst (λ (next : Option Entry). ComesNext settings trace all at GoesBefore sees (take place history) next) (sym more.stands)
            (entry_next settings trace all at Keeps GoesBefore IsPassed sees order history whole kept.keeps (take place history) more.later more.item more.cut
            (subst (λ (n : ℕ). at ≤ n) (sym more.before) from))
      ]

  -- a whole round that keeps to the rule is the only one after its start
  pub only_round : (one other : List Entry)
      → OrderedRound settings trace rows start round Keeps one → OrderedRound settings trace rows start round Keeps other → one ≡ other
  only_round one other kept_one kept_other =
      let base : List Entry = (opened trace rows start round).history in
      let is_one = round_from settings trace rows start round one kept_one.whole.begun in
      let is_other = round_from settings trace rows start round other kept_other.whole.begun in
      let same = same_later settings trace (rows ++ round.rows) (length base) Keeps GoesBefore IsPassed sees order one other
      (finished one kept_one) kept_one.keeps (finished other kept_other) kept_other.keeps
      base (drop (length base) one) (drop (length base) other) is_one is_other (omega arith) in
      is_one ∙ ap (λ (later : List Entry). base ++ later) same ∙ sym is_other

-- rounds of which each keeps to its rule are the only ones after their start
pub only_rounds : (settings : Settings) (trace : TraceTables)
    (Keeps : List Row → List Entry → Round → List Entry → Entry → Type 0) (GoesBefore : List Row → List Entry → Round → List Entry → ℕ → ℕ → Type 0)
    (IsPassed : List Row → List Entry → Round → List Entry → ℕ → Type 0) (sees : List Row → List Entry → Round → List Entry → ℕ → ℕ)
    → ((rows : List Row) (start : List Entry) (round : Round) → Orders settings trace (rows ++ round.rows) (length (opened trace rows start round).history)
    (Keeps rows start round) (GoesBefore rows start round) (IsPassed rows start round) (sees rows start round))
    → (rows : List Row) (start : List Entry) (some : List Round) (one other : List Entry)
    → OrderedRounds settings trace Keeps rows start some one
    → OrderedRounds settings trace Keeps rows start some other
    → one ≡ other
only_rounds settings trace Keeps GoesBefore IsPassed sees orders rows start [] one other rounds_one rounds_other = rounds_one ∙ sym rounds_other
only_rounds settings trace Keeps GoesBefore IsPassed sees orders rows start (round ∷ some) one other rounds_one rounds_other =
    let first : rounds_other.0 ≡ rounds_one.0 = only_round settings trace rows start round
    (Keeps rows start round) (GoesBefore rows start round) (IsPassed rows start round) (sees rows start round) (orders rows start round)
    rounds_other.0 rounds_one.0 rounds_other.1.0 rounds_one.1.0 in
    only_rounds settings trace Keeps GoesBefore IsPassed sees orders (rows ++ round.rows) rounds_one.0 some one other rounds_one.1.1
    (subst (λ (middle : List Entry). OrderedRounds settings trace Keeps (rows ++ round.rows) middle some other) first rounds_other.1.1)
