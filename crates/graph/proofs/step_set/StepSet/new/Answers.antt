use Rattle.std.proofs.Common.{refl}
use Rattle.graph.specs.SetLaws.{has_none}
use Rattle.graph.proofs.step_set.StepSet.new.Goals as goal

pub returns : goal.returns
returns c = record { value = refl; empty = has_none }
