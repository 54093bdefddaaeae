use Rattle.std.proofs.Common.{sym, ap, ◌∙◌, subst}
use Rattle.fixed.specs.Values.{values}
use Rattle.graph.specs.Edges.{edges_in, EachInGraph, NoOther}
use Rattle.graph.specs.Graphs.{sets_of}
use Rattle.graph.proofs.EdgeCounts.{edges_none}
use Rattle.graph.proofs.GraphLists.{listed_step, complete_step}
use Rattle.graph.proofs.draft.Draft.add_step.Goals as goal

pub invariant_of-self : goal.invariant_of-self
invariant_of-self c =
    let draft = c.args.self.now in
    let before = sets_of (values draft.graph.steps) in
    let sets = c.add_step.ensures.predecessors in
    record {
      ranged = draft.ranged;
      counted = draft.counted ∙ sym (edges_none before) ∙ ap edges_in (sym sets);
      listed = subst (λ held. EachInGraph held (values draft.edges)) (sym sets) (listed_step before (values draft.edges) draft.listed);
      complete = subst (λ held. NoOther held (values draft.edges)) (sym sets) (complete_step before (values draft.edges) draft.complete);
    }
