-- The value of a measure at a step, by its values at the predecessors.
use Rattle.std.proofs.Common.{◌≡◌, ℕ, ◌<◌, List, [], ◌∷◌, map, Some, None, Option, unwrap_or, sym, refl, ap, ◌∙◌, ap₂}
use mathlib.Core.List.{map-map}
use Rattle.std.specs.List.{flat_map, AllByRecursion as All}
use Rattle.std.specs.Option.{option_map}
use Rattle.std.proofs.lemmas.List.{map-append}
use Rattle.graph.specs.Paths.{ways, paths}
use Rattle.graph.specs.Walks.{plus, join_all, carried, value_at}
use Rattle.graph.proofs.Depths.{paths_step}
use Rattle.graph.proofs.Joining.{join_append, join_map}

module _ {V : Type 0} (join : V → V → V) where
  -- some value joined with others is some value
  join_some : (f : V → V) (start value : V) (values : List V) → option_map f (join_all join (value ∷ values)) ≡ Some (f (unwrap_or (join_all join (value ∷ values)) start))
  join_some f start value values = some (join_all join values) where
    some : (rest : Option V) → option_map f (plus join (Some value) rest) ≡ Some (f (unwrap_or (plus join (Some value) rest) start))
    some None = refl
    some (Some x) = refl

module _ {V : Type 0} (start : V) (join : V → V → V) (carry : V → ℕ → ℕ → V) (time : ℕ → ℕ) (before : ℕ → List ℕ)
    (rising : (step : ℕ) → All (λ from. from < step) (before step)) (groups : (a b c : V) → join (join a b) c ≡ join a (join b c))
    (spreads : (a b : V) (step time : ℕ) → carry (join a b) step time ≡ join (carry a step time) (carry b step time)) where
  -- the paths to some steps, joined, are the values at the steps, joined
  join_ends : (value : ℕ → V) (steps : List ℕ) → All (λ from. Some (value from) ≡ value_at start join carry time before from) steps → join_all join (map (carried start carry time) (flat_map (paths before) steps)) ≡ join_all join (map value steps)
  join_ends value [] known = refl
  join_ends value (step ∷ steps) known =
      ap (join_all join) (map-append (carried start carry time) (paths before step) (flat_map (paths before) steps))
      ∙ join_append join groups (map (carried start carry time) (paths before step)) (map (carried start carry time) (flat_map (paths before) steps))
      ∙ ap₂ (plus join) (sym known.0) (join_ends value steps known.1)

  -- carried over the step, after the join
  over_ways : (value : ℕ → V) (step : ℕ) (steps : List ℕ) → All (λ from. Some (value from) ≡ value_at start join carry time before from) steps → option_map (λ x. carry x step (time step)) (join_all join (map (carried start carry time) (ways (paths before) steps))) ≡ Some (carry (unwrap_or (join_all join (map value steps)) start) step (time step))
  over_ways value step [] known = refl
  over_ways value step (from ∷ steps) known =
      ap (option_map (λ x. carry x step (time step))) (join_ends value (from ∷ steps) known)
      ∙ join_some join (λ x. carry x step (time step)) start (value from) (map value steps)

  pub value_step : (value : ℕ → V) (step : ℕ) → All (λ from. Some (value from) ≡ value_at start join carry time before from) (before step) → value_at start join carry time before step ≡ Some (carry (unwrap_or (join_all join (map value (before step))) start) step (time step))
  value_step value step known =
      let along = carried start carry time in
      let over : V → V = λ x. carry x step (time step) in
      let to = ways (paths before) (before step) in
      ap (λ listed. join_all join (map along listed)) (paths_step before rising step)
      ∙ ap (join_all join) (map-map along (λ way. step ∷ way) to ∙ sym (map-map over along to))
      ∙ join_map join over (λ a b. spreads a b step (time step)) (map along to)
      ∙ over_ways value step (before step) known
