use Rattle.std.proofs.Common.{◌≡◌, length, set, sym, ap, ◌∙◌, subst, subst₂, arith, length-set, rules}
use Rattle.fixed.specs.Values.{values}
use Rattle.graph.specs.Graphs.{Timed, Rising, sets_of}
use Rattle.graph.proofs.GraphLists.{length_sets, rising_edge, gained, times_gained, sets_gained}
use Rattle.graph.proofs.graph.Graph.add_edge.Goals as goal

pub invariant_of-self : goal.invariant_of-self
invariant_of-self c =
    let graph = c.args.self.now in
    let is : values c.set.new.self ≡ set (values graph.steps) c.args.to (gained (values graph.steps) c.args.from c.args.to) = search rules in
    let size = ap length is ∙ length-set (values graph.steps) c.args.to (gained (values graph.steps) c.args.from c.args.to) in
    record {
      few = omega (arith, graph.few);
      timed = subst₂ Timed (sym size) (sym (times_gained (values graph.steps) c.args.from c.args.to (values c.set.new.self) is)) graph.timed;
      rising = subst Rising (sym (sets_gained (values graph.steps) c.args.from c.args.to (values c.set.new.self) is))
          (rising_edge (sets_of (values graph.steps)) graph.rising c.args.from c.args.to (omega arith) (omega (arith, length_sets (values graph.steps))));
    }

pub returns-clause-times : goal.returns-clause-times
returns-clause-times c = times_gained (values c.args.self.now.steps) c.args.from c.args.to (values c.set.new.self) (search rules)

pub returns-clause-predecessors : goal.returns-clause-predecessors
returns-clause-predecessors c = sets_gained (values c.args.self.now.steps) c.args.from c.args.to (values c.set.new.self) (search rules)
