use Rattle.std.proofs.Common.{◌≡◌, arith}
use Rattle.std.proofs.lemmas.Bool.{both_ways}
use Rattle.graph.specs.SetLaws.{zero_lacks}
use Rattle.graph.proofs.Members.{least_first}
use Rattle.graph.proofs.step_set.StepSet.first.Goals as goal

pub returns-then-is_empty : goal.returns-then-is_empty
returns-then-is_empty c = c.is_empty.ensures.empty.0 c.if-is_empty.true

pub returns-else-is_empty : goal.returns-else-is_empty
returns-else-is_empty c =
    let set = c.args.self in
    let some : (set.bits ≡ 0 → ⊥) = λ zeros. both_ways c.is_empty.result c.if-is_empty.false (c.is_empty.ensures.empty.1 (zero_lacks set zeros)) in
    least_first set (omega arith) (omega arith)
