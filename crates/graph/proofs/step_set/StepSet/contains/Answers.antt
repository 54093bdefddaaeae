use Rattle.std.proofs.Common.{◌∙◌, arith}
use Rattle.graph.specs.SetLaws.{mask_has, lacks_above}
use Rattle.graph.proofs.step_set.StepSet.contains.Goals as goal

pub returns : goal.returns
returns c =
    let value = mask_has c.args.self c.args.step c.bit.result c.bit.ensures (omega arith) in
    record { value = value; none = λ over. value ∙ lacks_above c.args.self (omega arith) c.args.step over }
