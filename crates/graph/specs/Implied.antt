-- Implied edges, by a list of edges alone.
use Rattle.std.specs.Prelude.{ℕ, suc, ◌<◌, Bool, false, cond, ◌||◌, List, [], ◌∷◌, length, Some, None, Option, ◌==◌, nat_eq, slice_index_or}
use Rattle.std.specs.Option.{option_map}
use Rattle.graph.specs.Edges.{no_edge}
use Rattle.graph.specs.Paths.{Among, Ancestor, paths}
use Rattle.graph.specs.declared.edge.Edge.{Edge}

-- The predecessors of a step: the first steps of the edges that lead to it, in the order of the list.
abbrev pub from_steps : List Edge → ℕ → List ℕ
from_steps [] to = []
from_steps (edge ∷ edges) to = cond (edge.to == to) (edge.from ∷ from_steps edges to) (from_steps edges to)

-- An edge is implied where its first step is an ancestor of another predecessor of its second; it is another, since no step is its own ancestor.
abbrev pub ImpliedBy : List Edge → Edge → Type 0
ImpliedBy edges edge =
    (other : ℕ) × Among other (from_steps edges edge.to) × Ancestor (from_steps edges) edge.from other

-- The first implied edge of a list, by its place.
abbrev pub FirstImpliedBy : List Edge → ℕ → Type 0
FirstImpliedBy edges i =
    (i < length edges) × ImpliedBy edges (slice_index_or edges i no_edge) × ((earlier : ℕ) → earlier < i → ImpliedBy edges (slice_index_or edges earlier no_edge) → ⊥)

-- No edge of a list is implied.
abbrev pub NoneImpliedBy : List Edge → Type 0
NoneImpliedBy edges = (i : ℕ) → i < length edges → ImpliedBy edges (slice_index_or edges i no_edge) → ⊥

-- Something in a list passes a test.
abbrev pub any : {X : Type 0} → (X → Bool) → List X → Bool
any test [] = false
any test (x ∷ xs) = test x || any test xs

-- The place of the first in a list that passes a test.
abbrev pub first_place : {X : Type 0} → (X → Bool) → List X → Option ℕ
first_place test [] = None
first_place test (x ∷ xs) = cond (test x) (Some 0) (option_map suc (first_place test xs))

-- A step is on a path before its end, which stands in front.
abbrev pub before_end : ℕ → List ℕ → Bool
before_end step [] = false
before_end step (last ∷ way) = any (nat_eq step) way

-- The test for an implied edge: its first step is, before the end, on a path to a predecessor of its second.
abbrev pub implied : List Edge → Edge → Bool
implied edges edge = any (λ other. any (before_end edge.from) (paths (from_steps edges) other)) (from_steps edges edge.to)

-- The place of the first edge of a list that is implied by the whole list.
abbrev pub first_implied : List Edge → Option ℕ
first_implied edges = first_place (implied edges) edges
