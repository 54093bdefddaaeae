-- Plans: what makes a graph and a deadline a plan.
use Rattle.std.specs.Prelude.{◌≡◌, ℕ, ◌≤◌, true, List}
use Rattle.graph.specs.Graphs.{set_before, before}
use Rattle.graph.specs.Paths.{Ancestor}
use Rattle.graph.specs.Sets.{has}
use Rattle.graph.specs.declared.step_set.StepSet.{StepSet}

-- A plan without steps has no deadline, and any other one of 1 to 20,000 ticks.
abbrev pub Due : ℕ → ℕ → Type 0
Due count deadline = (count ≡ 0 → deadline ≡ 0) × (1 ≤ count → (1 ≤ deadline) × (deadline ≤ 20000))

-- An edge is implied where its first step is an ancestor of another predecessor of its second; it is another, since no step is its own ancestor.
abbrev pub Implied : List StepSet → ℕ → ℕ → Type 0
Implied predecessors from to =
    (other : ℕ) × (has (set_before predecessors to) other ≡ true) × Ancestor (before predecessors) from other

-- No edge of a plan is implied.
abbrev pub Direct : List StepSet → Type 0
Direct predecessors = (from to : ℕ) → has (set_before predecessors to) from ≡ true → Implied predecessors from to → ⊥
