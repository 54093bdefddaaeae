use Rattle.std.proofs.Common.{◌≡◌, ℕ, true, List, length, get_or, sym, refl, ap, ◌∙◌, subst, inl, inr, ⊎_elim, arith}
use Rattle.std.proofs.lemmas.Bool.{cases_eq, cases_Bool, both_ways}
use Rattle.fixed.specs.Values.{values}
use Rattle.graph.specs.Edges.{no_edge}
use Rattle.graph.specs.Graphs.{sets_of, set_before, before}
use Rattle.graph.specs.Paths.{Among, Ancestor}
use Rattle.graph.specs.Plans.{Implied}
use Rattle.graph.specs.Sets.{has, none, members, without_step, steps_left}
use Rattle.graph.specs.declared.draft.Draft.{Draft}
use Rattle.graph.specs.declared.edge.Edge.{Edge}
use Rattle.graph.specs.declared.step_set.StepSet.{StepSet}
use Rattle.graph.proofs.DraftEdges.{ImpliedAt, none_in_list, first_in_list}
use Rattle.graph.proofs.Implying.{edge_there, no_self, on_path, still_has, gone_from}
use Rattle.graph.proofs.Members.{members_first}
use Rattle.graph.proofs.Order.{member_has, has_member}
use Rattle.graph.proofs.draft.Draft.first_implied.Goals as goal

-- the other predecessors of a step, as they are listed
module _ (draft : Draft) (edge : Edge) (others : StepSet) (left : List ℕ) (is : others ≡ without_step edge.from (set_before (sets_of (values draft.graph.steps)) edge.to)) (gives : left ≡ members others) where
  abbrev there : StepSet
  there = set_before (sets_of (values draft.graph.steps)) edge.to

  each_other : (n : ℕ) → Among n left → (has there n ≡ true) × (n ≡ edge.from → ⊥)
  each_other n among =
      let inside = (member_has others n (subst (Among n) gives among)).0 in
      still_has there edge.from n (ap (λ held. has held n) (sym is) ∙ inside)

  all_others : (n : ℕ) → has there n ≡ true → Ancestor (before (sets_of (values draft.graph.steps))) edge.from n → Among n left
  all_others n inside ancestor =
      let below = draft.graph.rising edge.to n inside in
      let under = edge_there draft.graph n edge.to inside in
      ⊎_elim
      (λ held. subst (Among n) (sym gives) (has_member others n (omega (arith, draft.graph.few)) held))
      (λ gone.
      ⊎_elim
      (λ lacks. absurd (both_ways (has there n) lacks inside))
      (λ same. absurd (no_self draft.graph n (subst (λ s. Ancestor (before (sets_of (values draft.graph.steps))) s n) (sym same) ancestor)))
      (gone_from there edge.from n (ap (λ held. has held n) (sym is) ∙ gone)))
      (cases_Bool (has others n))

pub loop-other-init : goal.loop-other-init
loop-other-init c =
    let draft = c.args.self.now in
    let edge = get_or c.as_slice-edge-items.result.now c.edges.place no_edge in
    let left = c.into_iter-other-iterator.ensures.into_iter_gives in
    let is = c.remove.ensures.value ∙ ap (without_step edge.from) c.predecessors-others.ensures in
    (c.edges.invariant.0, each_other draft edge c.remove.new.self _ is left, all_others draft edge c.remove.new.self _ is left)

pub bounds-on_paths-from : goal.bounds-on_paths-from
bounds-on_paths-from c =
    omega (arith, (members_first c.loop-other.other-iterator.rest c.in-Some.other (steps_left c.next.new.self) c.in-Some.ensures.steps).1)

pub loop-other-preserved : goal.loop-other-preserved
loop-other-preserved c =
    let draft = c.args.self.now in
    let sets = sets_of (values draft.graph.steps) in
    let edge = get_or c.as_slice-edge-items.result.now c.edges.place no_edge in
    let other = c.in-Some.other in
    let next = c.in-Some.ensures.steps in
    let inside = c.loop-other.invariant.1 other (subst (Among other) (sym next) (inl refl)) in
    let missed = ap (λ k. has (get_or c.walk-on_paths.result k none) edge.from) (sym c.from.ensures) ∙ sym c.contains.ensures.value ∙ c.if-contains.false in
    let no_ancestor = λ (ancestor : Ancestor (before sets) edge.from other).
    both_ways _ missed ((on_path draft.graph c.walk-on_paths.result c.walk-on_paths.ensures.steps c.walk-on_paths.ensures.paths edge.from edge.to other inside.0 inside.1).1 ancestor) in (
      c.loop-other.invariant.0,
      λ n later. c.loop-other.invariant.1 n (subst (Among n) (sym next) (inr later)),
      λ n there ancestor.
          ⊎_elim
          (λ same. absurd (no_ancestor (subst (Ancestor (before sets) edge.from) same ancestor)))
          (λ later. later)
          (subst (Among n) next (c.loop-other.invariant.2 n there ancestor)),
    )

pub edges-preserved : goal.edges-preserved
edges-preserved c =
    let draft = c.args.self.now in
    let is = ap (λ items. get_or items c.edges.place no_edge) (sym c.as_slice-edge-items.ensures.values) in (
      c.loop-other.invariant.0,
      λ earlier under implied.
          ⊎_elim
          (λ same.
          let here = subst (λ (edge : Edge). Implied (sets_of (values draft.graph.steps)) edge.from edge.to) is (subst (ImpliedAt draft) same implied) in
          subst (Among here.0) c.in-None.ensures.steps.0 (c.loop-other.invariant.2 here.0 here.1 here.2))
          (λ other. c.edges.invariant.1 earlier (omega arith) implied)
          (cases_eq earlier c.edges.place),
    )

pub returns-after-edges : goal.returns-after-edges
returns-after-edges c =
    let draft = c.args.self.now in
    let size = ap length c.as_slice-edge-items.ensures.values in
    c.edges.invariant.0 ∙ sym (none_in_list draft (λ i under. c.edges.invariant.1 i (omega arith)))

pub returns-then-contains : goal.returns-then-contains
returns-then-contains c =
    let draft = c.args.self.now in
    let edge = get_or c.as_slice-edge-items.result.now c.edges.place no_edge in
    let is = ap (λ items. get_or items c.edges.place no_edge) c.as_slice-edge-items.ensures.values in
    let size = ap length c.as_slice-edge-items.ensures.values in
    let other = c.in-Some.other in
    let inside = c.loop-other.invariant.1 other (subst (Among other) (sym c.in-Some.ensures.steps) (inl refl)) in
    let hit = ap (λ k. has (get_or c.walk-on_paths.result k none) edge.from) (sym c.from.ensures) ∙ sym c.contains.ensures.value ∙ c.if-contains.true in
    let ancestor = (on_path draft.graph c.walk-on_paths.result c.walk-on_paths.ensures.steps c.walk-on_paths.ensures.paths edge.from edge.to other inside.0 inside.1).0 hit in
    let here : ImpliedAt draft c.edges.place = subst (λ (edge : Edge). Implied (sets_of (values draft.graph.steps)) edge.from edge.to) is (other, inside.0, ancestor) in
    sym (first_in_list draft c.edges.place (omega arith) here c.edges.invariant.1)
