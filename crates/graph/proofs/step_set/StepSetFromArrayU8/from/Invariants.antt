use Rattle.std.proofs.Common.{◌≡◌, take}
use Rattle.graph.specs.Sets.{none}
use Rattle.graph.proofs.Filling.{filled}
use Rattle.graph.proofs.step_set.StepSetFromArrayU8.from.Given as goal

abbrev pub invariant-loop-number : goal.invariant-loop-number
invariant-loop-number g l = l.set ≡ filled none (take l.number-index l.fn.numbers)
