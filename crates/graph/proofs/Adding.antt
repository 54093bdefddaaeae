-- The list of edges keeps up with the predecessors as an edge is added.
use Rattle.std.proofs.Common.{◌≡◌, ℕ, zero, suc, ◌+◌, ◌<◌, true, false, ◌&&◌, eqb, ltb, List, [], ◌∷◌, ◌++◌, length, get_or, set, length-append, sym, refl, ap, ◌∙◌, subst, ⊎_elim, le_of_suc-le-suc, arith}
use Rattle.std.proofs.lemmas.List.{get_or_append_left, get_or-set_same, get_or-set_other}
use Rattle.std.proofs.Math.Seq.{get_or-append_seam}
use Rattle.std.proofs.lemmas.Bool.{cases_eq, cases_Bool, eq-eqb, ne_eqb, eqb-true, lt-ltb, and_parts, and_from, and_left, or_cases, or_left, or_right, or_from, or_parts, both_ways}
use Rattle.graph.specs.Drafts.{listed}
use Rattle.graph.specs.Edges.{no_edge, EachInGraph, NoOther}
use Rattle.graph.specs.Graphs.{set_before}
use Rattle.graph.specs.Sets.{has, none, with_step}
use Rattle.graph.specs.declared.edge.Edge.{Edge}
use Rattle.graph.specs.declared.step_set.StepSet.{StepSet}
use Rattle.graph.specs.SetLaws.{has_with}

pub same_edge : (edge : Edge) (from to : ℕ) → edge.from ≡ from → edge.to ≡ to → edge ≡ record { from = from; to = to }
same_edge edge from to p q = λ i. record { from = p i; to = q i }

module _ (from to : ℕ) where
  listed_yes : (edges : List Edge) → listed from to edges ≡ true → (i : ℕ) × (i < length edges) × (get_or edges i no_edge ≡ record { from = from; to = to })
  listed_yes [] there = absurd (both_ways false refl there)
  listed_yes (edge ∷ edges) there =
      ⊎_elim
      (λ here. let parts = and_parts _ _ here in (0, omega arith, same_edge edge from to (eqb-true _ _ parts.0) (eqb-true _ _ parts.1)))
      (λ later. let found = listed_yes edges later in (suc found.0, omega (arith, found.1), found.2))
      (or_cases (eqb edge.from from && eqb edge.to to) (listed from to edges) there)

  listed_no : (edges : List Edge) → listed from to edges ≡ false → (i : ℕ) → i < length edges → get_or edges i no_edge ≡ record { from = from; to = to } → ⊥
  listed_no [] none i under is = omega arith
  listed_no (edge ∷ edges) not zero under is =
      both_ways _ (or_parts (eqb edge.from from && eqb edge.to to) _ not).0
      (and_from _ _ (eq-eqb edge.from from (ap (λ (e : Edge). e.from) is)) (eq-eqb edge.to to (ap (λ (e : Edge). e.to) is)))
  listed_no (edge ∷ edges) not (suc i) under is =
      listed_no edges (or_parts (eqb edge.from from && eqb edge.to to) _ not).1 i (le_of_suc-le-suc under) is

module _ (predecessors : List StepSet) (edges : List Edge) (from to : ℕ) where
  -- an edge is in the list where it is in the graph
  pub listed_has : EachInGraph predecessors edges → has (set_before predecessors to) from ≡ false → listed from to edges ≡ false
  listed_has all outside =
      ⊎_elim
      (λ there.
      let found = listed_yes from to edges there in
      absurd (both_ways (has (set_before predecessors to) from) outside (subst (λ (e : Edge). has (set_before predecessors e.to) e.from ≡ true) found.2 (all found.0 found.1))))
      (λ not. not)
      (cases_Bool (listed from to edges))

  pub has_listed : NoOther predecessors edges → has (set_before predecessors to) from ≡ true → listed from to edges ≡ true
  has_listed only inside =
      ⊎_elim
      (λ there. there)
      (λ not. absurd (both_ways (has (set_before predecessors to) from) (only from to (listed_no from to edges not)) inside))
      (cases_Bool (listed from to edges))

  pub has_is_listed : EachInGraph predecessors edges → NoOther predecessors edges → has (set_before predecessors to) from ≡ listed from to edges
  has_is_listed all only =
      ⊎_elim
      (λ inside. inside ∙ sym (has_listed only inside))
      (λ outside. outside ∙ sym (listed_has all outside))
      (cases_Bool (has (set_before predecessors to) from))

-- the predecessors with one edge more
module _ (predecessors : List StepSet) (from to : ℕ) (there : to < length predecessors) (within : from < 64) where
  abbrev more : List StepSet
  more = set predecessors to (with_step from (set_before predecessors to))

  here_now : (step : ℕ) → step ≡ to → set_before more step ≡ with_step from (set_before predecessors to)
  here_now step same = ap (set_before more) same ∙ get_or-set_same predecessors to (with_step from (set_before predecessors to)) none there

  elsewhere : (step : ℕ) → (step ≡ to → ⊥) → set_before more step ≡ set_before predecessors step
  elsewhere step other = get_or-set_other predecessors to step (with_step from (set_before predecessors to)) none other

  -- the new edge is there, and every old one still is
  pub has_new : has (set_before more to) from ≡ true
  has_new =
      ap (λ held. has held from) (here_now to refl)
      ∙ has_with from (set_before predecessors to) from
      ∙ or_right (has (set_before predecessors to) from) _ (and_from _ _ (eq-eqb from from refl) (lt-ltb from 64 within))

  has_old : (step n : ℕ) → has (set_before predecessors step) n ≡ true → has (set_before more step) n ≡ true
  has_old step n inside =
      ⊎_elim
      (λ same.
      ap (λ held. has held n) (here_now step same)
      ∙ has_with from (set_before predecessors to) n
      ∙ or_left (has (set_before predecessors to) n) _ (ap (λ s. has (set_before predecessors s) n) (sym same) ∙ inside))
      (λ other. ap (λ held. has held n) (elsewhere step other) ∙ inside)
      (cases_eq step to)

  -- and nothing else is
  has_only : (step n : ℕ) → has (set_before predecessors step) n ≡ false → ((n ≡ from) → (step ≡ to) → ⊥) → has (set_before more step) n ≡ false
  has_only step n outside other_edge =
      ⊎_elim
      (λ same.
      ap (λ held. has held n) (here_now step same)
      ∙ has_with from (set_before predecessors to) n
      ∙ or_from (has (set_before predecessors to) n) _
      (ap (λ s. has (set_before predecessors s) n) (sym same) ∙ outside)
      (and_left (eqb n from) (ltb from 64) (ne_eqb n from (λ is. other_edge is same))))
      (λ other. ap (λ held. has held n) (elsewhere step other) ∙ outside)
      (cases_eq step to)

  module _ (edges : List Edge) where
    abbrev new_edge : Edge
    new_edge = record { from = from; to = to }

    abbrev more_edges : List Edge
    more_edges = edges ++ new_edge ∷ []

    length_more : length more_edges ≡ length edges + 1
    length_more = length-append edges (new_edge ∷ [])

    earlier_edge : (i : ℕ) → i < length edges → get_or more_edges i no_edge ≡ get_or edges i no_edge
    earlier_edge i under = get_or_append_left edges (new_edge ∷ []) no_edge i under

    last_edge : (i : ℕ) → i ≡ length edges → get_or more_edges i no_edge ≡ new_edge
    last_edge i last = ap (λ k. get_or more_edges k no_edge) last ∙ get_or-append_seam edges new_edge [] no_edge

    pub listed_more : EachInGraph predecessors edges → EachInGraph more more_edges
    listed_more all i under =
        ⊎_elim
        (λ last. subst (λ (e : Edge). has (set_before more e.to) e.from ≡ true) (sym (last_edge i last)) has_new)
        (λ earlier.
        let lower : i < length edges = omega (arith, length_more) in
        subst (λ (e : Edge). has (set_before more e.to) e.from ≡ true) (sym (earlier_edge i lower)) (has_old _ _ (all i lower)))
        (cases_eq i (length edges))

    pub complete_more : NoOther predecessors edges → NoOther more more_edges
    complete_more only n step never =
        has_only step n
        (only n step (λ i under is. never i (omega (arith, length_more)) (earlier_edge i under ∙ is)))
        (λ same_from same_to.
        never (length edges) (omega (arith, length_more))
        (last_edge (length edges) refl ∙ same_edge new_edge n step (sym same_from) (sym same_to)))
