-- The steps of paths as sets, and the measure of ancestors.
use Rattle.std.proofs.Common.{◌≡◌, ℕ, ◌<◌, ◌≤◌, true, ◌&&◌, eqb, ltb, List, [], ◌∷◌, map, Some, None, Decides, Option, sym, refl, ap, ◌∙◌, subst, inl, inr, ⊎_elim, arith, MatchOption}
use Rattle.std.specs.List.{AllByRecursion as All}
use Rattle.std.proofs.ByRecursion.{All-weaker}
use Rattle.std.proofs.lemmas.Bool.{both_ways, eqb-true, eqb-false, eq-eqb, ne_eqb, lt-ltb, and_parts, and_from, or_cases, or_left, or_right, not-true, not_from_false}
use Rattle.std.proofs.lemmas.Bool.Decides.{Decides-at, Decides-like, Decides-or}
use Rattle.graph.specs.Measures.{visited}
use Rattle.graph.specs.Paths.{Among, IsPath, EndsAt, AllPaths, Ancestor, paths}
use Rattle.graph.specs.Sets.{has, none, without_step, both}
use Rattle.graph.specs.Walks.{plus, join_all, carried, value_at}
use Rattle.graph.specs.declared.step_set.StepSet.{StepSet}
use Rattle.graph.proofs.Listing.{among_map, map_among}
use Rattle.graph.proofs.Order.{all_among}
use Rattle.graph.specs.SetLaws.{has_none, has_both, has_with, has_without}

module _ (n : ℕ) where
  -- one of some sets has the number
  abbrev AnyHas : List StepSet → Type 0
  AnyHas sets = (set : StepSet) × Among set sets × (has set n ≡ true)

  abbrev Union : List StepSet → Option StepSet → Type 0
  Union sets all = MatchOption all (sets ≡ []) (λ set. Decides (has set n) (AnyHas sets))

  pub join_has : (sets : List StepSet) → Union sets (join_all both sets)
  join_has [] = refl
  join_has (set ∷ sets) = more (join_all both sets) (join_has sets) where
    none_there : sets ≡ [] → (other : StepSet) → Among other sets → ⊥
    none_there empty other there = subst (Among other) empty there

    more : (rest : Option StepSet) → Union sets rest → Union (set ∷ sets) (plus both (Some set) rest)
    more None empty = (
      λ inside. (set, inl refl, inside),
      λ found. ⊎_elim (λ same. ap (λ s. has s n) (sym same) ∙ found.2) (λ later. absurd (none_there empty found.0 later)) found.1,
    )
    more (Some all) known = (
      λ inside.
          ⊎_elim
          (λ here. (set, inl refl, here))
          (λ later. let found = known.0 later in (found.0, inr found.1, found.2))
          (or_cases (has set n) (has all n) (sym (has_both set all n) ∙ inside)),
      λ found.
          has_both set all n
          ∙ ⊎_elim
          (λ same. or_left (has set n) (has all n) (ap (λ s. has s n) (sym same) ∙ found.2))
          (λ later. or_right (has set n) (has all n) (known.1 (found.0, later, found.2)))
          found.1,
    )

  -- carried along a path, the measure has the steps of the path
  carried_has : (time : ℕ → ℕ) (path : List ℕ) → All (λ step. step < 64) path → Decides (has (carried none visited time path) n) (Among n path)
  carried_has time [] small = (λ inside. absurd (both_ways _ (has_none n) inside), λ there. absurd there)
  carried_has time (step ∷ way) small =
      let last : Decides (eqb n step && ltb step 64) (n ≡ step) = (
        λ passes. eqb-true n step (and_parts _ _ passes).0,
        λ same. and_from _ _ (eq-eqb n step same) (lt-ltb step 64 small.0),
      ) in
      Decides-at _ _ (has_with step (carried none visited time way) n)
      (Decides-like _ (⊎_elim inr inl) (⊎_elim inr inl) (Decides-or _ _ (carried_has time way small.1) last))

module _ (before : ℕ → List ℕ) (rising : (step from : ℕ) → Among from (before step) → from < step) where
  -- the steps of a path are up to its end,
  path_upto : (path : List ℕ) (step : ℕ) → IsPath before path → EndsAt step path → All (λ n. n ≤ step) path
  path_upto [] step path end = absurd path
  path_upto (last ∷ []) step path end = (omega arith, tt)
  path_upto (last ∷ (from ∷ way)) step path end =
      let below = rising last from path.0 in
      (omega arith, All-weaker _ _ (λ n upto. omega arith) (from ∷ way) (path_upto (from ∷ way) from path.1 refl))

  -- and those before the end are below it
  pub way_below : (way : List ℕ) (step n : ℕ) → IsPath before (step ∷ way) → Among n way → n < step
  way_below [] step n path there = absurd there
  way_below (from ∷ way) step n path there =
      let below = rising step from path.0 in
      let upto = all_among (λ m. m ≤ from) (from ∷ way) n (path_upto (from ∷ way) from path.1 refl) there in
      omega arith

  module _ (time : ℕ → ℕ) (step : ℕ) (small : step < 64) (listed : AllPaths before step (paths before step)) (all : StepSet)
      (is : Some all ≡ value_at none both visited time before step) (n : ℕ) where
    steps : (path : List ℕ) → IsPath before path → EndsAt step path → Decides (has (carried none visited time path) n) (Among n path)
    steps path is_path end = carried_has n time path (All-weaker _ _ (λ m upto. omega arith) path (path_upto path step is_path end))

    union : Decides (has all n) (AnyHas n (map (carried none visited time) (paths before step)))
    union = subst (Union n (map (carried none visited time) (paths before step))) (sym is) (join_has n (map (carried none visited time) (paths before step)))

    -- a step on a path that is not its end is an ancestor of the end
    not_end : (path : List ℕ) → IsPath before path → EndsAt step path → Among n path → (n ≡ step → ⊥) → Ancestor before n step
    not_end [] path end there other = absurd path
    not_end (last ∷ way) path end (inl same) other = absurd (other (same ∙ end))
    not_end (last ∷ way) path end (inr later) other = (way, subst (λ s. IsPath before (s ∷ way)) end path, later)

    pub has_ancestors : Decides (has (without_step step all) n) (Ancestor before n step)
    has_ancestors = (
      λ inside.
          let parts = and_parts _ _ (sym (has_without step all n) ∙ inside) in
          let found = union.0 parts.0 in
          let path = among_map (carried none visited time) found.0 (paths before step) found.1 in
          let ends = listed.sound path.0 path.2 in
          not_end path.0 ends.0 ends.1
          ((steps path.0 ends.0 ends.1).0 (ap (λ set. has set n) (sym path.1) ∙ found.2))
          (eqb-false n step (not-true _ parts.1)),
      λ ancestor.
          let way = ancestor.0 in
          let path = step ∷ way in
          let below = way_below way step n ancestor.1 ancestor.2 in
          has_without step all n
          ∙ and_from _ _
          (union.1 (carried none visited time path, map_among (carried none visited time) path (paths before step) (listed.complete path ancestor.1 refl), (steps path ancestor.1 refl).1 (inr ancestor.2)))
          (not_from_false _ (ne_eqb n step (λ same. omega arith))),
    )
