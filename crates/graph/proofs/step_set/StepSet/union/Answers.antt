use Rattle.std.proofs.Common.{refl}
use Rattle.graph.specs.Sets.{both}
use Rattle.graph.specs.SetLaws.{has_both}
use Rattle.graph.proofs.step_set.StepSet.union.Goals as goal

pub returns : goal.returns
unfolding both
returns c = record { value = refl; steps = has_both c.args.self c.args.other }
