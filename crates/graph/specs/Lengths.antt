-- How much time the steps of a path take.
use Rattle.std.specs.Prelude.{◌≡◌, ℕ, zero, suc, ◌+◌, ◌<◌, ◌≤◌, max, List, [], ◌∷◌}
use Rattle.std.specs.Option.{unwrap_or}
use Rattle.graph.specs.Measures.{length_at}
use Rattle.graph.specs.Paths.{IsPath, EndsAt}

-- The time of a path: the sum of the times of its steps.
abbrev pub path_time : (ℕ → ℕ) → List ℕ → ℕ
path_time time [] = 0
path_time time (step ∷ way) = path_time time way + time step

-- The greatest time of a path that ends at a step: no such path takes more, and one takes as much.
pub record Greatest (before : ℕ → List ℕ) (time : ℕ → ℕ) (step most : ℕ) : Type 0 where
  pub every : (path : List ℕ) → IsPath before path → EndsAt step path → path_time time path ≤ most
  pub some : (path : List ℕ) × IsPath before path × EndsAt step path × (path_time time path ≡ most)

-- The greatest length at any of the first steps, as many as `count`: 0 where there are none.
abbrev pub longest : (ℕ → ℕ) → (ℕ → List ℕ) → ℕ → ℕ
longest time before zero = 0
longest time before (suc count) = max (longest time before count) (unwrap_or (length_at time before count) 0)

-- The greatest time of a path that ends at a step below `count`: 0 where there is no step.
pub record Longest (before : ℕ → List ℕ) (time : ℕ → ℕ) (count most : ℕ) : Type 0 where
  pub every : (step : ℕ) (path : List ℕ) → step < count → IsPath before path → EndsAt step path → path_time time path ≤ most
  pub some : 0 < count → (step : ℕ) × (step < count) × Greatest before time step most
  pub none : count ≡ 0 → most ≡ 0
