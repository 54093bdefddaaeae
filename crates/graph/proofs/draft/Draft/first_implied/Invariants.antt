use Rattle.std.proofs.Common.{◌≡◌, ℕ, ◌<◌, true, None}
use Rattle.fixed.specs.Values.{values}
use Rattle.graph.specs.Graphs.{sets_of, set_before, before}
use Rattle.graph.specs.Paths.{Among, Ancestor}
use Rattle.graph.specs.Sets.{has, steps_left}
use Rattle.graph.proofs.DraftEdges.{ImpliedAt}
use Rattle.graph.proofs.draft.Draft.first_implied.Given as goal

-- the steps that are left are other predecessors, and the edge is implied by none that is not left
abbrev pub invariant-loop-other : goal.invariant-loop-other
invariant-loop-other l =
    let sets = sets_of (values l.self.graph.steps) in
    let there = set_before sets l.edge.to in
    (l.found ≡ None)
    × ((n : ℕ) → Among n (steps_left l.other-iterator) → (has there n ≡ true) × (n ≡ l.edge.from → ⊥))
    × ((n : ℕ) → has there n ≡ true → Ancestor (before sets) l.edge.from n → Among n (steps_left l.other-iterator))

-- no edge before this one is implied
abbrev pub invariant-edges : goal.invariant-edges
invariant-edges l = (l.found ≡ None) × ((earlier : ℕ) → earlier < l.place → ImpliedAt l.self earlier → ⊥)
