use Rattle.std.proofs.Common.{◌≡◌, ◌-◌, ◌^◌, ap, ◌∙◌, arith, rules}
use lib.Bits.{bit_and}
use Rattle.graph.specs.Sets.{has, without_step}
use Rattle.graph.specs.declared.step_set.StepSet.{StepSet}
use Rattle.graph.specs.SetLaws.{same_bits, and_not_mask, has_without}
use Rattle.graph.proofs.step_set.StepSet.remove.Goals as goal

pub returns : goal.returns
returns c =
    let old = c.args.self.now in
    let step = c.args.step in
    let new : StepSet = record { bits = bit_and old.bits (2 ^ 64 - 1 - c.bit.result) } in
    let value : new ≡ without_step step old =
    same_bits new (without_step step old) (and_not_mask old step c.bit.result c.bit.ensures (omega arith) (search rules)) in
    record { value = value; steps = λ n. ap (λ (set : StepSet). has set n) value ∙ has_without step old n }
