-- The entry that is written is read again.
use Rattle.std.proofs.Common.{◌≡◌, ℕ, true, false, not, List, [], ◌∷◌, ◌++◌, Option, Some, None, map, refl, sym, ap, ◌∙◌, codes}
use Rattle.std.specs.List.{list_all}
use Rattle.omega_model.specs.Report.{Line, Name, Number, word_text}
use Rattle.omega_model.specs.declared.entries.Entry.{Entry}
use Rattle.omega_model.specs.declared.entries.Entry.TheVariants.{Round, MachineAdd, MachineUpdate, MachineRemove, AttrSet, AttrDelete, End, Commit}
use Rattle.omega_keep.specs.declared.read_stop.ReadStop.{ReadStop}
use Rattle.omega_keep.specs.declared.read_stop.ReadStop.TheVariants as read_stop
use Rattle.omega_keep.specs.KeptLines.{need_words, key_words, bytes_word, parted, entry_text, IsAnswered, IsInRange}
use Rattle.omega_keep.specs.Reading.{Fails, is_space, round_at, add_at, update_at, remove_at, set_at, unset_at, end_at, entry_named, entry_at}
use Rattle.omega_keep.proofs.Again.{letters_if, word_again, rest_again, number_again, need_again, key_again, bytes_again}
use Rattle.omega_keep.proofs.Commits.{commit_again}
use Rattle.std.specs.List.{flat_map, zip}
use Rattle.omega_keep.specs.KeptLines.{claim_words, rule_text, mode_text}

-- ---- entries

named_again : (name : List ℕ) (words : Line) (read : Option Entry) → list_all (λ byte. not (is_space byte)) name ≡ true
    → entry_named name (parted words) ≡ read → entry_at (parted (Name name ∷ words)) ≡ read
unfolding entry_at
named_again name words read test h =
    let letters = letters_if name test in
    rw (word_again name (map word_text words) letters, rest_again name (map word_text words) letters) h

pub entry_again : (entry : Entry) → IsInRange entry → IsAnswered entry → entry_at (entry_text entry) ≡ Some entry
unfolding entry_named round_at add_at update_at remove_at set_at unset_at end_at
entry_again (Round number) h answered = named_again (codes "round") (Number number ∷ []) _ refl (rw (number_again number [] h) refl)
entry_again (MachineAdd machine cap) h answered =
    named_again (codes "add") (Number machine ∷ need_words cap) _ refl
    (rw (number_again machine (need_words cap) h.0, need_again cap [] h.1) refl)
entry_again (MachineUpdate machine cap) h answered =
    named_again (codes "update") (Number machine ∷ need_words cap) _ refl
    (rw (number_again machine (need_words cap) h.0, need_again cap [] h.1) refl)
entry_again (MachineRemove machine) h answered = named_again (codes "remove") (Number machine ∷ []) _ refl (rw (number_again machine [] h) refl)
entry_again (AttrSet machine name value) h answered =
    named_again (codes "set") (Number machine ∷ bytes_word name ∷ bytes_word value ∷ []) _ refl
    (rw (number_again machine (bytes_word name ∷ bytes_word value ∷ []) h.0, bytes_again name (bytes_word value ∷ []) h.1, bytes_again value [] h.2) refl)
entry_again (AttrDelete machine name) h answered =
    named_again (codes "unset") (Number machine ∷ bytes_word name ∷ []) _ refl
    (rw (number_again machine (bytes_word name ∷ []) h.0, bytes_again name [] h.1) refl)
entry_again (End key machine) h answered =
    named_again (codes "end") (key_words key ++ Number machine ∷ []) _ refl
    (rw (key_again key (Number machine ∷ []) h.0, number_again machine [] h.1) refl)
entry_again (Commit scheduler seen txn reply) h answered =
    named_again (codes "commit") (Number scheduler ∷ Number seen ∷ Number txn.job ∷ Name (rule_text txn.rule) ∷ Name (mode_text txn.mode) ∷ flat_map claim_words (zip txn.claims reply)) _ refl
    (commit_again scheduler seen txn reply h.0 h.1 h.2 h.3 h.4 answered)

abbrev pub found : {A : Type 0} → A → Option A
found x = Some x

pub some_is : {A : Type 0} (x y : A) → found x ≡ found y → x ≡ y
some_is x y e = cc

pub one_line : (a b : Entry) → IsInRange a → IsInRange b → IsAnswered a → IsAnswered b → entry_text a ≡ entry_text b → a ≡ b
one_line a b ha hb xa xb same = some_is a b (sym (entry_again a ha xa) ∙ ap entry_at same ∙ entry_again b hb xb)

pub no_line : (e : ReadStop) (read : Option Entry) → e ≡ read_stop.NoLine → Fails e read → read ≡ None
no_line read_stop.NoLine read e h = h
no_line read_stop.OutOfMemory read e h = absurd cc

pub true_is_not_false : true ≡ false → ⊥
true_is_not_false e = cc
