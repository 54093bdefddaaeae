-- How many steps a path may have does not matter from the number of its end on.
use Rattle.std.proofs.Common.{◌≡◌, ℕ, zero, suc, ◌<◌, List, [], ◌∷◌, ◌++◌, map, refl, ap, ap₂, arith}
use Rattle.std.specs.List.{flat_map, AllByRecursion as All}
use Rattle.std.proofs.ByRecursion.{All-weaker}
use Rattle.graph.specs.Paths.{ways, paths_within, paths}

joined_agree : (f g : ℕ → List (List ℕ)) (steps : List ℕ) → All (λ step. f step ≡ g step) steps → flat_map f steps ≡ flat_map g steps
joined_agree f g [] same = refl
joined_agree f g (step ∷ steps) same = ap₂ ◌++◌ same.0 (joined_agree f g steps same.1)

pub ways_agree : (f g : ℕ → List (List ℕ)) (steps : List ℕ) → All (λ step. f step ≡ g step) steps → ways f steps ≡ ways g steps
ways_agree f g [] same = refl
ways_agree f g (step ∷ steps) same = joined_agree f g (step ∷ steps) same

module _ (before : ℕ → List ℕ) (rising : (step : ℕ) → All (λ from. from < step) (before step)) where
  pub depth_agrees : (most other step : ℕ) → step < most → step < other → paths_within before most step ≡ paths_within before other step
  unfolding paths_within
  depth_agrees zero other step within also = absurd (omega arith)
  depth_agrees (suc most) zero step within also = absurd (omega arith)
  depth_agrees (suc most) (suc other) step within also =
      ap (map (λ way. step ∷ way))
      (ways_agree (paths_within before most) (paths_within before other) (before step)
      (All-weaker _ _ (λ from under. depth_agrees most other from (omega arith) (omega arith)) (before step) (rising step)))

  -- the paths to a step by those to its predecessors
  pub paths_step : (step : ℕ) → paths before step ≡ map (λ way. step ∷ way) (ways (paths before) (before step))
  unfolding paths_within
  paths_step step =
      ap (map (λ way. step ∷ way))
      (ways_agree (paths_within before step) (paths before) (before step)
      (All-weaker _ _ (λ from under. depth_agrees step (suc from) from (omega arith) (omega arith)) (before step) (rising step)))
