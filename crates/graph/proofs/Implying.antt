-- Implied edges by the sets of steps on paths.
use Rattle.std.proofs.Common.{◌≡◌, ℕ, ◌<◌, Bool, true, false, not, ◌&&◌, eqb, ◌⊎◌, List, get_or, Some, Decides, sym, refl, ap, ◌∙◌, inl, inr, ⊎_elim, arith, length}
use Rattle.std.proofs.lemmas.List.{length-map, get_or_past}
use Rattle.std.proofs.lemmas.Bool.{cases_lt, both_ways, ne_eqb, eqb-true, eq-eqb, not-false, not_from_true, and_parts, and_cases}
use Rattle.std.proofs.lemmas.Bool.Decides.{Decides-at}
use Rattle.fixed.specs.Values.{values}
use Rattle.graph.specs.Graphs.{times_of, sets_of, time_of, set_before, before}
use Rattle.graph.specs.Measures.{visited}
use Rattle.graph.specs.Paths.{Ancestor, AllPaths, paths}
use Rattle.graph.specs.Sets.{has, none, both, without_step}
use Rattle.graph.specs.Walks.{value_at}
use Rattle.graph.specs.declared.graph.Graph.{Graph}
use Rattle.graph.specs.declared.graph.Step.{Step}
use Rattle.graph.specs.declared.step_set.StepSet.{StepSet}
use Rattle.graph.proofs.Ancestry.{has_ancestors, way_below}
use Rattle.graph.proofs.Order.{before_below}
use Rattle.graph.specs.SetLaws.{has_none, has_without}

module _ (graph : Graph) where
  abbrev sets : List StepSet
  sets = sets_of (values graph.steps)

  -- a step with a predecessor is a step of the graph
  pub edge_there : (from to : ℕ) → has (set_before sets to) from ≡ true → to < length (values graph.steps)
  edge_there from to inside =
      ⊎_elim
      (λ under. under)
      (λ over.
      let outside = get_or_past sets to none (omega (arith, length-map (values graph.steps) (λ (step : Step). step.predecessors))) in
      absurd (both_ways _ (ap (λ held. has held from) outside ∙ has_none from) inside))
      (cases_lt to (length (values graph.steps)))

  -- no step is its own ancestor
  pub no_self : (step : ℕ) → Ancestor (before sets) step step → ⊥
  no_self step ancestor =
      let below = way_below (before sets) (before_below sets graph.rising) ancestor.0 step step ancestor.1 ancestor.2 in
      omega arith

  -- the set at another predecessor tells whether a step is its ancestor
  module _ (on_paths : List StepSet)
      (known : (step : ℕ) → step < length (values graph.steps) → Some (get_or on_paths step none) ≡ value_at none both visited (time_of (times_of (values graph.steps))) (before sets) step)
      (listed : (step : ℕ) → AllPaths (before sets) step (paths (before sets) step)) where
    pub on_path : (from to other : ℕ) → has (set_before sets to) other ≡ true → (other ≡ from → ⊥) → Decides (has (get_or on_paths other none) from) (Ancestor (before sets) from other)
    on_path from to other inside apart =
        let there = edge_there other to inside in
        let below = graph.rising to other inside in
        let few = graph.few in
        let all = get_or on_paths other none in
        let same : has all from ≡ has (without_step other all) from =
        sym (has_without other all from ∙ ap (λ is. has all from && not is) (ne_eqb from other (λ is. apart (sym is))) ∙ and_so (has all from)) in
        Decides-at (has all from) (has (without_step other all) from) same
        (has_ancestors (before sets) (before_below sets graph.rising) (time_of (times_of (values graph.steps))) other (omega arith) (listed other) all (known other (omega arith)) from) where
          and_so : (b : Bool) → (b && not false) ≡ b
          and_so true = refl
          and_so false = refl

-- what is left of a set without one of its steps
pub still_has : (held : StepSet) (taken n : ℕ) → has (without_step taken held) n ≡ true → (has held n ≡ true) × (n ≡ taken → ⊥)
still_has held taken n inside =
    let parts = and_parts (has held n) (not (eqb n taken)) (sym (has_without taken held n) ∙ inside) in
    (parts.0, λ same. both_ways (not (eqb n taken)) (gone same) parts.1) where
      gone : n ≡ taken → not (eqb n taken) ≡ false
      gone same = not_from_true (eqb n taken) (eq-eqb n taken same)

pub gone_from : (held : StepSet) (taken n : ℕ) → has (without_step taken held) n ≡ false → (has held n ≡ false) ⊎ (n ≡ taken)
gone_from held taken n outside =
    ⊎_elim
    (λ lacks. inl lacks)
    (λ is. inr (eqb-true n taken (not-false (eqb n taken) is)))
    (and_cases (has held n) (not (eqb n taken)) (sym (has_without taken held n) ∙ outside))
