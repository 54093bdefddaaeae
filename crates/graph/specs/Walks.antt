-- What a measure comes to at a step: the join, over all paths that end there, of the start carried along the path.
use Rattle.std.specs.Prelude.{◌≡◌, ℕ, ◌<◌, ◌≤◌, List, [], ◌∷◌, map, length, Some, None, Option, slice_index_or}
use Rattle.graph.specs.Paths.{AllPaths, paths}

-- The join of two values, of which either may be absent.
abbrev pub plus : {V : Type 0} → (V → V → V) → Option V → Option V → Option V
plus join None b = b
plus join (Some a) None = Some a
plus join (Some a) (Some b) = Some (join a b)

-- The join of all values of a list: absent where there is none.
abbrev pub join_all : {V : Type 0} → (V → V → V) → List V → Option V
join_all join [] = None
join_all join (value ∷ values) = plus join (Some value) (join_all join values)

-- A value carried along a path, from its beginning to its end.
abbrev pub carried : {V : Type 0} → V → (V → ℕ → ℕ → V) → (ℕ → ℕ) → List ℕ → V
carried start carry time [] = start
carried start carry time (step ∷ way) = carry (carried start carry time way) step (time step)

-- The value of a measure at a step.
abbrev pub value_at : {V : Type 0} → V → (V → V → V) → (V → ℕ → ℕ → V) → (ℕ → ℕ) → (ℕ → List ℕ) → ℕ → Option V
value_at start join carry time before step = join_all join (map (carried start carry time) (paths before step))

-- What a walk answers for `count` steps: at each step the value there, and the start in the places that no step has.
-- The list of paths over which it joins has each path once, and nothing else.
pub record Walked {V : Type 0} (start : V) (join : V → V → V) (carry : V → ℕ → ℕ → V) (time : ℕ → ℕ) (before : ℕ → List ℕ) (count : ℕ) (values : List V) : Type 0 where
  pub size : length values ≡ 64
  pub steps : (step : ℕ) → step < count → Some (slice_index_or values step start) ≡ value_at start join carry time before step
  pub unused : (step : ℕ) → count ≤ step → slice_index_or values step start ≡ start
  pub paths : (step : ℕ) → AllPaths before step (paths before step)
