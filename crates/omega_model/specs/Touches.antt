-- Which machines an entry touches, and the sequence numbers that follow from it.
use Rattle.std.specs.Prelude.{ℕ, Bool, true, false, List, ◌==◌, ◌&&◌, map, take}
use Rattle.std.specs.List.{list_any, count_by, zip}
use Rattle.omega_model.specs.declared.claims.Claim.{Claim}
use Rattle.omega_model.specs.declared.claims.Judgement.{Judgement}
use Rattle.omega_model.specs.declared.claims.Verdict.{Verdict}
use Rattle.omega_model.specs.declared.claims.Verdict.TheVariants.{Placed}
use Rattle.omega_model.specs.declared.entries.Entry.{Entry}
use Rattle.omega_model.specs.declared.entries.Entry.TheVariants.{Round, MachineAdd, MachineUpdate, MachineRemove, AttrSet, AttrDelete, End, Commit}

-- whether a verdict says that its claim is placed
abbrev pub is_placed : Verdict → Bool
is_placed Placed = true
is_placed _ = false

-- whether a claim was placed on this machine
abbrev pub places_on : ℕ → Claim × Judgement → Bool
places_on id (claim, judgement) = is_placed judgement.verdict && claim.machine == id

-- whether an entry touches a machine: it is about the machine, or it placed a claim there
abbrev pub touches : ℕ → Entry → Bool
touches id (Round number) = false
touches id (MachineAdd machine cap) = machine == id
touches id (MachineUpdate machine cap) = machine == id
touches id (MachineRemove machine) = machine == id
touches id (AttrSet machine name value) = machine == id
touches id (AttrDelete machine name) = machine == id
touches id (End key machine) = machine == id
touches id (Commit scheduler seen txn reply) = list_any (places_on id) (zip txn.claims reply)

-- whether an entry is a commit
abbrev pub is_commit : Entry → Bool
is_commit (Commit scheduler seen txn reply) = true
is_commit _ = false

-- the sequence number of a machine: how many entries touch it
abbrev pub seq : List Entry → ℕ → ℕ
seq history id = count_by (touches id) history

-- the sequence numbers of the claims' machines in a copy that has seen the first entries of a history
abbrev pub copied_seqs : List Entry → ℕ → List Claim → List ℕ
copied_seqs history seen claims = map (λ claim. seq (take seen history) claim.machine) claims

-- whether a number is this one
abbrev pub is_number : ℕ → ℕ → Bool
is_number machine id = machine == id

-- whether an entry touches the machine of a number
abbrev pub is_touched_by : Entry → ℕ → Bool
is_touched_by entry id = touches id entry

-- whether one of some entries touches it
abbrev pub is_touched : List Entry → ℕ → Bool
is_touched entries id = list_any (touches id) entries

-- whether a claim was placed on the machine of a number
abbrev pub is_claimed : List (Claim × Judgement) → ℕ → Bool
is_claimed decided id = list_any (places_on id) decided
