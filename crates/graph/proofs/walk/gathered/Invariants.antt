use Rattle.std.proofs.Common.{◌≡◌, ℕ, map, get_or}
use Rattle.graph.specs.Sets.{members, steps_left}
use Rattle.graph.specs.Walks.{plus, join_all}
use Rattle.graph.proofs.walk.gathered.Given as goal

-- the sum so far, with the steps that are left, is the sum of all
abbrev pub invariant-loop-step : goal.invariant-loop-step
invariant-loop-step g l =
    let join = g.M.Measure.join l.measure in
    let value = λ (step : ℕ). get_or l.values step (g.M.Measure.start l.measure) in
    plus join l.sum (join_all join (map value (steps_left l.step-iterator))) ≡ join_all join (map value (members l.fn.steps))
