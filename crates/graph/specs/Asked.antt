-- A plan in words: what can be asked of it.
use Rattle.std.specs.Prelude.{ℕ, List, length, sum}
use Rattle.fixed.specs.Values.{values}
use Rattle.graph.specs.Graphs.{times_of, sets_of, time_of, before}
use Rattle.graph.specs.Lengths.{longest}
use Rattle.graph.specs.declared.plan.Plan.{Plan}

-- How many steps it has.
abbrev pub steps_of : Plan → ℕ
steps_of plan = length (values plan.graph.steps)

-- Its deadline.
abbrev pub deadline_of : Plan → ℕ
deadline_of plan = plan.deadline

-- The worst-case time of each step.
abbrev pub time_in : Plan → ℕ → ℕ
time_in plan = time_of (times_of (values plan.graph.steps))

-- The predecessors of each step, in rising order.
abbrev pub before_in : Plan → ℕ → List ℕ
before_in plan = before (sets_of (values plan.graph.steps))

-- The volume: the sum of the worst-case times of its steps.
abbrev pub volume_of : Plan → ℕ
volume_of plan = sum (times_of (values plan.graph.steps))

-- The length: the greatest length at any step.
abbrev pub length_of : Plan → ℕ
length_of plan = longest (time_in plan) (before_in plan) (steps_of plan)
