-- The edges of a draft in the order in which they were added, beside the predecessors that they make.
use Rattle.std.specs.Prelude.{◌≡◌, ℕ, ◌<◌, true, false, List, length, sum_by, slice_index_or}
use Rattle.graph.specs.Graphs.{set_before}
use Rattle.graph.specs.Sets.{has, members}
use Rattle.graph.specs.declared.edge.Edge.{Edge}
use Rattle.graph.specs.declared.step_set.StepSet.{StepSet}

-- What is read past the end of the list.
abbrev pub no_edge : Edge
no_edge = record { from = 0; to = 0 }

-- How many edges a graph has.
abbrev pub edges_in : List StepSet → ℕ
edges_in predecessors = sum_by (λ set. length (members set)) predecessors

-- Each edge of a list is one of the graph.
abbrev pub EachInGraph : List StepSet → List Edge → Type 0
EachInGraph predecessors edges =
    (i : ℕ) → i < length edges → has (set_before predecessors (slice_index_or edges i no_edge).to) (slice_index_or edges i no_edge).from ≡ true

-- The graph has no edge that is not in the list.
abbrev pub NoOther : List StepSet → List Edge → Type 0
NoOther predecessors edges =
    (from to : ℕ) → ((i : ℕ) → i < length edges → slice_index_or edges i no_edge ≡ record { from = from; to = to } → ⊥) → has (set_before predecessors to) from ≡ false
