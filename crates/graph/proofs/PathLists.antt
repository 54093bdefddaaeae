-- The list of paths has each path, and nothing else; and each once.
use Rattle.std.proofs.Common.{◌≡◌, ℕ, zero, suc, ◌<◌, List, [], ◌∷◌, map, sym, refl, ◌∙◌, subst, inl, inr, arith}
use Rattle.graph.specs.Paths.{Among, Distinct, IsPath, EndsAt, AllPaths, ways, paths_within, paths}
use Rattle.graph.proofs.Listing.{among_map, map_among, distinct_map, among_joined, joined_among, distinct_joined}

-- a path ends at one step
one_end : (path : List ℕ) (step other : ℕ) → EndsAt step path → EndsAt other path → step ≡ other
one_end [] step other here there = absurd here
one_end (last ∷ way) step other here there = sym here ∙ there

-- A list has each path that ends at a step, and nothing else. A predecessor that is named twice brings each path through it twice.
pub record Lists (before : ℕ → List ℕ) (step : ℕ) (listed : List (List ℕ)) : Type 0 where
  pub sound : (path : List ℕ) → Among path listed → IsPath before path × EndsAt step path
  pub complete : (path : List ℕ) → IsPath before path → EndsAt step path → Among path listed

module _ (before : ℕ → List ℕ) (rising : (step from : ℕ) → Among from (before step) → from < step) where
  -- one step more on a path to a predecessor
  longer : (step from : ℕ) (way : List ℕ) → Among from (before step) → IsPath before way → EndsAt from way → IsPath before (step ∷ way)
  longer step from [] edge path end = absurd path
  longer step from (last ∷ way) edge path end = (subst (λ u. Among u (before step)) (sym end) edge, path)

  module _ (listed : ℕ → List (List ℕ)) (step : ℕ) (known : (from : ℕ) → Among from (before step) → Lists before from (listed from)) where
    ways_sound : (steps : List ℕ) → before step ≡ steps → (way : List ℕ) → Among way (ways listed steps) → IsPath before (step ∷ way)
    ways_sound [] is way (inl same) = subst (λ w. IsPath before (step ∷ w)) (sym same) is
    ways_sound [] is way (inr none) = absurd none
    ways_sound (u ∷ us) is way there =
        let found = among_joined listed way (u ∷ us) there in
        let edge = subst (λ steps. Among found.0 steps) (sym is) found.1 in
        let path = (known found.0 edge).sound way found.2 in
        longer step found.0 way edge path.0 path.1

    ways_complete : (steps : List ℕ) → before step ≡ steps → (way : List ℕ) → IsPath before (step ∷ way) → Among way (ways listed steps)
    ways_complete [] is [] path = inl refl
    ways_complete [] is (from ∷ way) path = absurd (subst (Among from) is path.0)
    ways_complete (u ∷ us) is [] path = absurd (subst (λ steps. Among u steps) (sym is ∙ path) (inl refl))
    ways_complete (u ∷ us) is (from ∷ way) path =
        joined_among listed (from ∷ way) from (u ∷ us) (subst (Among from) is path.0) ((known from path.0).complete (from ∷ way) path.1 refl)

    one_more : Lists before step (map (λ way. step ∷ way) (ways listed (before step)))
    one_more = record {
      sound = λ path there.
          let found = among_map (λ way. step ∷ way) path (ways listed (before step)) there in
          subst (λ p. IsPath before p × EndsAt step p) (sym found.1) (ways_sound (before step) refl found.0 found.2, refl);
      complete = λ path. whole path;
    } where
      whole : (path : List ℕ) → IsPath before path → EndsAt step path → Among path (map (λ way. step ∷ way) (ways listed (before step)))
      whole [] path end = absurd path
      whole (last ∷ way) path end =
          let here = subst (λ u. IsPath before (u ∷ way)) end path in
          subst (λ u. Among (u ∷ way) (map (λ w. step ∷ w) (ways listed (before step)))) (sym end)
          (map_among (λ w. step ∷ w) way (ways listed (before step)) (ways_complete (before step) refl way here))

  within : (most step : ℕ) → step < most → Lists before step (paths_within before most step)
  unfolding paths_within
  within zero step under = absurd (omega arith)
  within (suc most) step under =
      one_more (paths_within before most) step (λ from edge. within most from (let below = rising step from edge in omega arith))

  pub paths_listed : (step : ℕ) → Lists before step (paths before step)
  paths_listed step = within (suc step) step (omega arith)

  -- where no predecessor is named twice, each path comes once
  module _ (apart : (step : ℕ) → Distinct (before step)) where
    module _ (listed : ℕ → List (List ℕ)) (step : ℕ) (known : (from : ℕ) → Among from (before step) → Lists before from (listed from))
        (once : (from : ℕ) → Among from (before step) → Distinct (listed from)) where
      ways_once : (steps : List ℕ) → before step ≡ steps → Distinct (ways listed steps)
      ways_once [] is = (λ again. again, tt)
      ways_once (u ∷ us) is =
          let edge : (from : ℕ) → Among from (u ∷ us) → Among from (before step) = λ from. subst (Among from) (sym is) in
          distinct_joined listed (u ∷ us) (subst Distinct is (apart step)) (λ from there. once from (edge from there))
          (λ from other way here there left right. one_end way from other ((known from (edge from here)).sound way left).1 ((known other (edge other there)).sound way right).1)

    once_within : (most step : ℕ) → step < most → Distinct (paths_within before most step)
    unfolding paths_within
    once_within zero step under = absurd (omega arith)
    once_within (suc most) step under =
        let lower : (from : ℕ) → Among from (before step) → from < most = λ from edge. let below = rising step from edge in omega arith in
        distinct_map (λ way. step ∷ way) (λ x y same. cc) (ways (paths_within before most) (before step))
        (ways_once (paths_within before most) step (λ from edge. within most from (lower from edge)) (λ from edge. once_within most from (lower from edge)) (before step) refl)

    pub all_paths : (step : ℕ) → AllPaths before step (paths before step)
    all_paths step =
        let listed = paths_listed step in
        record { sound = listed.sound; complete = listed.complete; once = once_within (suc step) step (omega arith) }
