-- How many extra tasks a MapReduce job gets.
use Rattle.std.specs.Prelude.{ℕ, Bool, ◌+◌, ◌-◌, ◌*◌, ◌&&◌, None, unwrap_or, nat_le, min}
use Rattle.std.specs.List.{filter, last_or, range_with_len}
use Rattle.omega_model.specs.declared.cells.Need.{Need}
use Rattle.omega_model.specs.declared.settings.Extra.{Extra}
use Rattle.omega_model.specs.declared.settings.Extra.TheVariants.{Max, Cap, Relative}

-- how many tasks a job should have, extra ones among them, with these activities and so many tasks wanted
abbrev pub target : Extra → ℕ → ℕ → ℕ
target Max activities asked = activities
target (Cap percent) activities asked = activities
target Relative activities asked = min activities (4 * asked)

-- whether so many more tasks keep the cell's use within this percentage of its capacity
abbrev pub keeps_within : ℕ → Need → Need → Need → ℕ → Bool
keeps_within percent need used capacity count =
    nat_le ((used.cpu + count * need.cpu) * 100) (capacity.cpu * percent)
    && (nat_le ((used.mem + count * need.mem) * 100) (capacity.mem * percent)
    && nat_le ((used.disk + count * need.disk) * 100) (capacity.disk * percent))

-- as many of these as the choice allows
abbrev pub allowed : Extra → ℕ → Need → Need → Need → ℕ
allowed Max count need used capacity = count
allowed Relative count need used capacity = count
allowed (Cap percent) count need used capacity =
    unwrap_or (last_or None (filter (keeps_within percent need used capacity) (range_with_len 0 (count + 1)))) 0

-- the number of extra tasks: the target less those that are wanted and those that run, as far as allowed
abbrev pub extras : Extra → ℕ → ℕ → ℕ → Need → Need → Need → ℕ
extras choice activities asked running need used capacity =
    allowed choice (target choice activities asked - asked - running) need used capacity
