-- The paths of a graph that end at a step. A graph is given by the predecessors of each step.
-- A path is a list of steps with the one at which it ends in front.
use Rattle.std.specs.Prelude.{◌≡◌, ℕ, zero, suc, ◌⊎◌, List, [], ◌∷◌, map}
use Rattle.std.specs.List.{flat_map}

-- Something stands in a list.
abbrev pub Among : {X : Type 0} → X → List X → Type 0
Among x [] = ⊥
Among x (y ∷ ys) = (x ≡ y) ⊎ Among x ys

-- Nothing stands in a list twice.
abbrev pub Distinct : {X : Type 0} → List X → Type 0
Distinct [] = Unit {0}
Distinct (x ∷ xs) = (Among x xs → ⊥) × Distinct xs

-- A path begins at a step without a predecessor and follows edges.
abbrev pub IsPath : (ℕ → List ℕ) → List ℕ → Type 0
IsPath before [] = ⊥
IsPath before (step ∷ []) = before step ≡ []
IsPath before (step ∷ (from ∷ way)) = Among from (before step) × IsPath before (from ∷ way)

-- A path ends at a step.
abbrev pub EndsAt : ℕ → List ℕ → Type 0
EndsAt step [] = ⊥
EndsAt step (last ∷ way) = last ≡ step

-- A list has each path that ends at a step, once, and nothing else.
pub record AllPaths (before : ℕ → List ℕ) (step : ℕ) (listed : List (List ℕ)) : Type 0 where
  pub sound : (path : List ℕ) → Among path listed → IsPath before path × EndsAt step path
  pub complete : (path : List ℕ) → IsPath before path → EndsAt step path → Among path listed
  pub once : Distinct listed

-- The ways to a step: the paths that end at one of its predecessors; where it has none, the empty way alone.
abbrev pub ways : (ℕ → List (List ℕ)) → List ℕ → List (List ℕ)
ways paths [] = [] ∷ []
ways paths (step ∷ steps) = flat_map paths (step ∷ steps)

-- The paths that end at a step and have no more than `most` steps.
unfoldable pub paths_within : (ℕ → List ℕ) → ℕ → ℕ → List (List ℕ)
paths_within before zero step = []
paths_within before (suc most) step = map (λ way. step ∷ way) (ways (paths_within before most) (before step))

-- All paths that end at a step. Edges rise, so a path has at most one step for each number up to its end.
abbrev pub paths : (ℕ → List ℕ) → ℕ → List (List ℕ)
paths before step = paths_within before (suc step) step

-- A step is an ancestor of another: it is on a path to that one, before its end. Edges rise, so a step does not come twice on a path.
abbrev pub Ancestor : (ℕ → List ℕ) → ℕ → ℕ → Type 0
Ancestor before step later = (way : List ℕ) × IsPath before (later ∷ way) × Among step way
