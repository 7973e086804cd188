-- The tree over the positions.
use Rattle.std.specs.Prelude.{⊤, ◌≡◌, ◌+◌, ℕ, zero, suc, Bool, List, [], ◌∷◌, Option, None, if◌then◌else◌, nat_lt, length, take, drop, map}
use Rattle.omega_model.specs.declared.cells.Need.{Need}
use Rattle.omega_fit.specs.declared.nodes.FitNode.{FitNode}
use Rattle.omega_fit.specs.Needs.{greater, WithRoom}
use Rattle.omega_fit.specs.Wrapped.{FirstBetween}

-- the list of the amounts
abbrev pub frees : List FitNode → List (Option Need)
frees nodes = map (λ node. node.free) nodes

-- where the root of a list of this length stands: one more item goes to its right, until the right part
-- is as long as the left one; then the next item is the root
unfoldable pub middle : ℕ → ℕ
middle zero = zero
middle (suc n) = if nat_lt n (middle n + middle n + 1) then middle n else n

-- what the first node says of its tree
abbrev pub most_of : List FitNode → Option Need
most_of [] = None
most_of (node ∷ right) = node.most

-- the greatest of a tree stands at its root
abbrev pub root : List FitNode → Option Need
root nodes = most_of (drop (middle (length nodes)) nodes)

-- the root, which comes first of the second list, has the greatest of both parts and itself; both parts
-- have the property
abbrev pub Forks : (List FitNode → Type 0) → List FitNode → List FitNode → Type 0
Forks P left [] = ⊤
Forks P left (node ∷ right) = (node.most ≡ greater (root left) (greater node.free (root right))) × P left × P right

-- down to this level each root has the greatest of its tree
unfoldable pub Tidy : ℕ → List FitNode → Type 0
Tidy zero nodes = ⊤
Tidy (suc k) nodes =
    Forks (Tidy k) (take (middle (length nodes)) nodes) (drop (middle (length nodes)) nodes)

-- each root has the greatest of its tree
unfoldable pub Tree : List FitNode → Type 0
Tree nodes = Tidy (length nodes) nodes

-- the first position of `from` up to `to` with room that passes; what is answered to a position is that
-- for the sum of `base` and it
unfoldable pub FirstWithin : (ℕ → Bool → Type 0) → Need → List FitNode → ℕ → ℕ → ℕ → Option ℕ → Type 0
FirstWithin answers need nodes base from to found =
    FirstBetween (WithRoom (frees nodes) need (λ position. answers (base + position))) from to found
