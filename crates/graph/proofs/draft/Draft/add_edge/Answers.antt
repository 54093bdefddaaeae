use Rattle.std.proofs.Common.{◌≡◌, ℕ, ◌+◌, ◌<◌, true, false, [], ◌∷◌, ◌++◌, length, length-append, set, Some, None, sym, refl, ap, ◌∙◌, subst₂, arith, rules}
use Rattle.fixed.specs.Values.{values}
use Rattle.graph.specs.Drafts.{content, with_edge, edge_refusal}
use Rattle.graph.specs.Edges.{edges_in, EachInGraph, NoOther}
use Rattle.graph.specs.Graphs.{sets_of, set_before}
use Rattle.graph.specs.Sets.{has, with_step}
use Rattle.graph.specs.declared.draft.Draft.{Draft}
use Rattle.graph.specs.declared.edge.Edge.{Edge}
use Rattle.graph.specs.declared.graph.Graph.{Graph}
use Rattle.graph.specs.declared.refusal.Refusal.TheVariants.{EdgeTwice}
use Rattle.graph.proofs.Adding.{listed_has, has_listed, listed_more, complete_more}
use Rattle.graph.proofs.EdgeCounts.{edges_with, edges_bound}
use Rattle.graph.proofs.GraphLists.{length_times, length_sets}
use Rattle.graph.proofs.Refusing.{refused, accepted, same_content, edge_twice, edge_new}
use Rattle.graph.proofs.draft.Draft.add_edge.Goals as goal

abbrev edge : ℕ → ℕ → Edge
edge from to = record { from = from; to = to }

-- an edge between two steps of a draft
module _ (draft : Draft) (from to : ℕ) (rises : from < to) (there : to < length (values draft.graph.steps)) where
  steps : to < length (content draft).times
  steps = omega (arith, length_times (values draft.graph.steps))

  again : has (set_before (sets_of (values draft.graph.steps)) to) from ≡ true → edge_refusal (content draft) from to ≡ Some EdgeTwice
  again inside = edge_twice (content draft) from to rises steps (has_listed (sets_of (values draft.graph.steps)) (values draft.edges) from to draft.complete inside)

  -- a new edge is one more, and there is room for it
  module _ (new : has (set_before (sets_of (values draft.graph.steps)) to) from ≡ false) where
    fresh : edge_refusal (content draft) from to ≡ None
    fresh = edge_new (content draft) from to rises steps (listed_has (sets_of (values draft.graph.steps)) (values draft.edges) from to draft.listed new)

    module _ (after : Graph) (gained : sets_of (values after.steps) ≡ set (sets_of (values draft.graph.steps)) to (with_step from (set_before (sets_of (values draft.graph.steps)) to))) where
      one_more : edges_in (sets_of (values after.steps)) ≡ length (values draft.edges) + 1
      one_more =
          omega (
            arith,
            draft.counted,
            ap edges_in gained,
            edges_with (sets_of (values draft.graph.steps)) from to (omega (arith, length_sets (values draft.graph.steps))) (omega (arith, draft.graph.few)) new,
          )

      room : length (values draft.edges) < 2016
      room = omega (arith, one_more, edges_bound (sets_of (values after.steps)) (omega (arith, length_sets (values after.steps), after.few)) after.rising)

pub returns-then-contains : goal.returns-then-contains
returns-then-contains c =
    let draft = c.args.self.now in
    let from = c.args.from in
    let to = c.args.to in
    let held = content draft in
    let inside = sym (c.contains.ensures.value ∙ ap (λ set. has set from) c.predecessors.ensures) ∙ c.if-contains.true in
    let said = refused (edge_refusal held from to) tt held (with_edge (edge from to) held) EdgeTwice (again draft from to (omega arith) (omega arith) inside) in
    record { answer = said.0; content = said.1; kept = refl }

pub invariant_of-self : goal.invariant_of-self
invariant_of-self c =
    let draft = c.args.self.now in
    let from = c.args.from in
    let to = c.args.to in
    let before = sets_of (values draft.graph.steps) in
    let gained = c.add_edge.ensures.predecessors in
    let new = sym (c.contains.ensures.value ∙ ap (λ set. has set from) c.predecessors.ensures) ∙ c.if-contains.false in
    let left = room draft from to (omega arith) (omega arith) new c.add_edge.new.self gained in
    let is : values c.push.new.self ≡ values draft.edges ++ (edge from to ∷ []) = search rules in
    let size = ap length is ∙ length-append (values draft.edges) (edge from to ∷ []) in
    let there : to < length before = omega (arith, length_sets (values draft.graph.steps)) in
    let small : from < 64 = omega (arith, draft.graph.few) in
    record {
      ranged = draft.ranged;
      counted = size ∙ sym (one_more draft from to (omega arith) (omega arith) new c.add_edge.new.self gained);
      listed = subst₂ EachInGraph (sym gained) (sym is) (listed_more before from to there small (values draft.edges) draft.listed);
      complete = subst₂ NoOther (sym gained) (sym is) (complete_more before from to there small (values draft.edges) draft.complete);
    }

pub returns : goal.returns
returns c =
    let draft = c.args.self.now in
    let from = c.args.from in
    let to = c.args.to in
    let held = content draft in
    let new = sym (c.contains.ensures.value ∙ ap (λ set. has set from) c.predecessors.ensures) ∙ c.if-contains.false in
    let left = room draft from to (omega arith) (omega arith) new c.add_edge.new.self c.add_edge.ensures.predecessors in
    let is : values c.push.new.self ≡ values draft.edges ++ (edge from to ∷ []) = search rules in
    let said = accepted (edge_refusal held from to) tt held (with_edge (edge from to) held) (fresh draft from to (omega arith) (omega arith) new) in
    record {
      answer = said.0;
      content = same_content refl c.add_edge.ensures.times is ∙ said.1;
      kept = tt;
    }
