-- Worked examples: lines of entries, and kept lines that are refused for a history.
use Rattle.std.proofs.Common.{◌≡◌, List, [], ◌∷◌, Some, None, refl, codes}
use Rattle.std.specs.Fmt.{digits}
use Rattle.omega_model.specs.declared.entries.Entry.{Entry}
use Rattle.omega_model.specs.declared.entries.Entry.TheVariants.{Round, MachineRemove, AttrSet, End}
use Rattle.omega_keep.specs.KeptLines.{entry_text}
use Rattle.omega_keep.specs.Resumed.{refused_for}

pub line_of_a_round : entry_text (Round 12) ≡ codes "round 12"
unfolding digits
line_of_a_round = refl

pub line_of_an_end : entry_text (End (record { job = 5; index = 0 }) 6) ≡ codes "end 5 0 6"
unfolding digits
line_of_an_end = refl

pub line_of_an_empty_value : entry_text (AttrSet 7 [] []) ≡ codes "set 7 - -"
unfolding digits
line_of_an_empty_value = refl

-- a round, and the next one
abbrev two_rounds : List Entry
two_rounds = Round 0 ∷ MachineRemove 7 ∷ Round 1 ∷ []

pub nothing_kept : refused_for two_rounds [] ≡ None
unfolding digits
nothing_kept = refl

pub cut_in_a_round : refused_for two_rounds (codes "round 0" ∷ []) ≡ Some 1
unfolding digits
cut_in_a_round = refl

pub one_whole_round : refused_for two_rounds (codes "round 0" ∷ codes "remove 7" ∷ []) ≡ None
unfolding digits
one_whole_round = refl

pub all_rounds : refused_for two_rounds (codes "round 0" ∷ codes "remove 7" ∷ codes "round 1" ∷ []) ≡ None
unfolding digits
all_rounds = refl

pub other_machine : refused_for two_rounds (codes "round 0" ∷ codes "remove 8" ∷ []) ≡ Some 1
unfolding digits
other_machine = refl

pub one_line_too_many : refused_for two_rounds (codes "round 0" ∷ codes "remove 7" ∷ codes "round 1" ∷ codes "round 2" ∷ []) ≡ Some 3
unfolding digits
one_line_too_many = refl
