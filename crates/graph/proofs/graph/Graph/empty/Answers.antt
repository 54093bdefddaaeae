use Rattle.std.proofs.Common.{sym, subst, arith, length, ap}
use Rattle.graph.specs.Graphs.{sets_of, Rising}
use Rattle.graph.proofs.GraphLists.{rising_none}
use Rattle.graph.proofs.graph.Graph.empty.Goals as goal

pub invariant_of-result : goal.invariant_of-result
invariant_of-result c =
    let size = ap length c.new.ensures in
    record {
      few = omega arith;
      timed = λ step under. absurd (omega arith);
      rising = subst (λ steps. Rising (sets_of steps)) (sym c.new.ensures) rising_none;
    }
