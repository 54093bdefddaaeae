use Rattle.std.proofs.Common.{sym, ap, ◌∙◌, length, arith}
use Rattle.std.proofs.lemmas.Bool.{both_ways}
use Rattle.graph.specs.Graphs.{sets_of, set_before}
use Rattle.graph.specs.Sets.{has, none}
use Rattle.graph.specs.SetLaws.{has_none}
use Rattle.graph.proofs.plan.Plan.empty.Goals as goal

pub invariant_of-result : goal.invariant_of-result
invariant_of-result c =
    let size = ap length c.empty.ensures in
    record {
      due = (λ none. omega arith, λ some. absurd (omega arith));
      direct = λ from to inside implied. both_ways (has none from) (has_none from) (ap (λ steps. has (set_before (sets_of steps) to) from) (sym c.empty.ensures) ∙ inside);
    }
