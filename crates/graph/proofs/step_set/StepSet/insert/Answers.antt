use Rattle.std.proofs.Common.{◌≡◌, ap, ◌∙◌}
use lib.Bits.{bit_or}
use Rattle.graph.specs.Sets.{has, with_step}
use Rattle.graph.specs.declared.step_set.StepSet.{StepSet}
use Rattle.graph.specs.SetLaws.{same_bits, or_mask, has_with}
use Rattle.graph.proofs.step_set.StepSet.insert.Goals as goal

pub returns : goal.returns
returns c =
    let old = c.args.self.now in
    let step = c.args.step in
    let new : StepSet = record { bits = bit_or old.bits c.bit.result } in
    let value : new ≡ with_step step old = same_bits new (with_step step old) (or_mask old step c.bit.result c.bit.ensures) in
    record { value = value; steps = λ n. ap (λ (set : StepSet). has set n) value ∙ has_with step old n }
