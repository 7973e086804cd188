-- Names of tasks and their order: by job, then by index.
use Rattle.std.specs.Prelude.{Bool, List, [], ◌∷◌, ◌+◌, ◌==◌, ◌&&◌, ◌||◌, not, nat_lt, length, map, take}
use Rattle.std.specs.List.{filter, list_any, range_with_len}
use Rattle.omega_model.specs.declared.cells.TaskKey.{TaskKey}

-- whether two names are of one task
abbrev pub same_key : TaskKey → TaskKey → Bool
same_key a b = a.job == b.job && a.index == b.index

-- whether the first name stands before the second
abbrev pub key_lt : TaskKey → TaskKey → Bool
key_lt a b = nat_lt a.job b.job || (a.job == b.job && nat_lt a.index b.index)

-- whether the name is among these
abbrev pub is_among : TaskKey → List TaskKey → Bool
is_among key keys = list_any (same_key key) keys

-- each name at its first mention
abbrev pub first_mentions : List TaskKey → List TaskKey
first_mentions [] = []
first_mentions (key ∷ keys) = key ∷ filter (λ other. not (same_key other key)) (first_mentions keys)

-- the beginnings of a list of names, the shortest first
abbrev pub beginnings : List TaskKey → List (List TaskKey)
beginnings keys = map (λ n. take n keys) (range_with_len 0 (length keys + 1))
