-- Graphs of steps, as lists with a place for each step.
use Rattle.std.specs.Prelude.{◌≡◌, ℕ, ◌<◌, ◌≤◌, true, List, map, slice_index, slice_index_or}
use Rattle.graph.specs.Sets.{has, none, members}
use Rattle.graph.specs.declared.graph.Step.{Step}
use Rattle.graph.specs.declared.step_set.StepSet.{StepSet}

-- What is read where there is no step.
abbrev pub no_step : Step
no_step = record { time = 0; predecessors = none }

-- The worst-case times of some steps, and their sets of predecessors.
abbrev pub times_of : List Step → List ℕ
times_of steps = map (λ step. step.time) steps

abbrev pub sets_of : List Step → List StepSet
sets_of steps = map (λ step. step.predecessors) steps

-- The worst-case time of a step.
abbrev pub time_of : List ℕ → ℕ → ℕ
time_of times step = slice_index times step

-- The predecessors of a step, as a set and in rising order.
abbrev pub set_before : List StepSet → ℕ → StepSet
set_before predecessors step = slice_index_or predecessors step none

abbrev pub before : List StepSet → ℕ → List ℕ
before predecessors step = members (set_before predecessors step)

-- What holds of every graph: each step has a time from 1 to 20,000 ticks,
abbrev pub Timed : ℕ → List ℕ → Type 0
Timed count times = (step : ℕ) → step < count → (1 ≤ time_of times step) × (time_of times step ≤ 20000)

-- and every predecessor is below its step.
abbrev pub Rising : List StepSet → Type 0
Rising predecessors = (step from : ℕ) → has (set_before predecessors step) from ≡ true → from < step
