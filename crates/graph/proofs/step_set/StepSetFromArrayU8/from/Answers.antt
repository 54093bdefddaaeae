use Rattle.std.proofs.Common.{◌≡◌, ap, ◌∙◌, arith}
use Rattle.std.proofs.lemmas.List.{take_all}
use Rattle.graph.specs.Sets.{none}
use Rattle.graph.proofs.Filling.{filled, has_filled}
use Rattle.graph.proofs.step_set.StepSetFromArrayU8.from.Goals as goal

pub returns : goal.returns
returns g c =
    let all : c.loop-number.set ≡ filled none c.args.numbers =
    c.loop-number.invariant ∙ ap (filled none) (take_all c.loop-number.number-index c.args.numbers (omega arith)) in
    rw all (has_filled c.args.numbers)
