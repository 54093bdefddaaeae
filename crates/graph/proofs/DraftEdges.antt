-- The edges of a draft, as a list and as its graph has them.
use Rattle.std.proofs.Common.{◌≡◌, ℕ, ◌<◌, true, ◌↔◌, List, [], ◌∷◌, length, get_or, Some, None, sym, refl, ◌∙◌, subst, inl, arith}
use Rattle.std.proofs.ByRecursion.{All-from_get_or}
use Rattle.std.proofs.lemmas.Bool.{both_ways}
use Rattle.fixed.specs.Values.{values}
use Rattle.graph.specs.Edges.{no_edge}
use Rattle.graph.specs.Graphs.{sets_of, set_before, before}
use Rattle.graph.specs.Implied.{from_steps, ImpliedBy, first_implied}
use Rattle.graph.specs.Paths.{Among, IsPath, Ancestor}
use Rattle.graph.specs.Plans.{Implied, Direct}
use Rattle.graph.specs.Sets.{has}
use Rattle.graph.specs.declared.draft.Draft.{Draft}
use Rattle.graph.specs.declared.edge.Edge.{Edge}
use Rattle.graph.specs.declared.step_set.StepSet.{StepSet}
use Rattle.graph.proofs.Adding.{has_is_listed}
use Rattle.graph.proofs.EdgeLists.{RisingEdges, listed_from, first_implied_is, none_implied_is}
use Rattle.graph.proofs.Implying.{edge_there}
use Rattle.graph.proofs.Order.{member_has, has_member}

-- graphs with the same predecessors have the same paths
module _ (one two : ℕ → List ℕ) (over : (step from : ℕ) → Among from (one step) → Among from (two step)) (back : (step from : ℕ) → Among from (two step) → Among from (one step)) where
  none_over : (step : ℕ) (steps : List ℕ) → two step ≡ steps → one step ≡ [] → steps ≡ []
  none_over step [] is none = refl
  none_over step (from ∷ steps) is none =
      absurd (subst (Among from) none (back step from (subst (Among from) (sym is) (inl refl))))

  pub path_over : (path : List ℕ) → IsPath one path → IsPath two path
  path_over [] path = absurd path
  path_over (step ∷ []) path = none_over step (two step) refl path
  path_over (step ∷ (from ∷ way)) path = (over step from path.0, path_over (from ∷ way) path.1)

  pub ancestor_over : (step later : ℕ) → Ancestor one step later → Ancestor two step later
  ancestor_over step later ancestor = (ancestor.0, path_over (later ∷ ancestor.0) ancestor.1, ancestor.2)

module _ (draft : Draft) where
  abbrev edges : List Edge
  edges = values draft.edges

  abbrev sets : List StepSet
  sets = sets_of (values draft.graph.steps)

  abbrev there : ℕ → ℕ → Type 0
  there from to = has (set_before sets to) from ≡ true

  -- The edge that was added at a place is implied, by what the graph has.
  abbrev pub ImpliedAt : ℕ → Type 0
  ImpliedAt i = Implied sets (get_or edges i no_edge).from (get_or edges i no_edge).to

  pub draft_rising : RisingEdges edges
  draft_rising =
      All-from_get_or (λ (edge : Edge). edge.from < edge.to) edges no_edge (λ i under. draft.graph.rising _ _ (draft.listed i under))

  has_same : (from to : ℕ) → there from to ↔ Among from (from_steps edges to)
  has_same from to =
      let same = has_is_listed sets edges from to draft.listed draft.complete in (
        λ inside. (listed_from from to edges).0 (sym same ∙ inside),
        λ among. same ∙ (listed_from from to edges).1 among,
      )

  into_list : (step from : ℕ) → Among from (before sets step) → Among from (from_steps edges step)
  into_list step from among = (has_same from step).0 (member_has _ from among).0

  into_graph : (step from : ℕ) → Among from (from_steps edges step) → Among from (before sets step)
  into_graph step from among =
      let inside = (has_same from step).1 among in
      let below = draft.graph.rising step from inside in
      let under = edge_there draft.graph from step inside in
      has_member _ from (omega (arith, draft.graph.few)) inside

  -- an edge is implied by the graph just where it is by the list
  pub implied_same : (edge : Edge) → Implied sets edge.from edge.to ↔ ImpliedBy edges edge
  implied_same edge = (
    λ found. (found.0, (has_same found.0 edge.to).0 found.1, ancestor_over (before sets) (from_steps edges) into_list into_graph edge.from found.0 found.2),
    λ found. (found.0, (has_same found.0 edge.to).1 found.1, ancestor_over (from_steps edges) (before sets) into_graph into_list edge.from found.0 found.2),
  )

  -- so is the first of them
  pub none_in_list : ((i : ℕ) → i < length edges → ImpliedAt i → ⊥) → first_implied edges ≡ None
  none_in_list none =
      (none_implied_is edges draft_rising).1 (λ i under found. none i under ((implied_same (get_or edges i no_edge)).1 found))

  pub first_in_list : (i : ℕ) → i < length edges → ImpliedAt i → ((earlier : ℕ) → earlier < i → ImpliedAt earlier → ⊥) → first_implied edges ≡ Some i
  first_in_list i under here before_it =
      (first_implied_is edges draft_rising i).1 (
        under,
        (implied_same (get_or edges i no_edge)).0 here,
        λ earlier lower found. before_it earlier lower ((implied_same (get_or edges earlier no_edge)).1 found),
      )

  -- no edge of a graph is implied where none of the list is
  pub direct_by_list : first_implied edges ≡ None → Direct sets
  direct_by_list none from to inside found =
      both_ways _
      (draft.complete from to (λ i under is.
      let here : ImpliedAt i = subst (λ (edge : Edge). Implied sets edge.from edge.to) (sym is) found in
      (none_implied_is edges draft_rising).0 none i under ((implied_same (get_or edges i no_edge)).0 here)))
      inside
