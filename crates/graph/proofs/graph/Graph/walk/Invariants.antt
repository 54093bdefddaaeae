use Rattle.std.proofs.Common.{◌≡◌, ℕ, ◌<◌, ◌≤◌, length, get_or, Some}
use Rattle.fixed.specs.Values.{values}
use Rattle.graph.specs.Graphs.{times_of, sets_of, time_of, before}
use Rattle.graph.specs.Walks.{value_at}
use Rattle.graph.proofs.graph.Graph.walk.Given as goal

-- the steps before this one have their values, and the others the start
abbrev pub invariant-loop-at : goal.invariant-loop-at
invariant-loop-at g l =
    let start = g.M.Measure.start l.measure in
    let value = value_at start (g.M.Measure.join l.measure) (g.M.Measure.carry l.measure) (time_of (times_of (values l.self.steps))) (before (sets_of (values l.self.steps))) in
    (length l.values ≡ 64)
    × ((step : ℕ) → step < l.at → Some (get_or l.values step start) ≡ value step)
    × ((step : ℕ) → l.at ≤ step → get_or l.values step start ≡ start)
