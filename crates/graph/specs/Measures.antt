-- The measures that the crate has: what each carries over a step.
use Rattle.std.specs.Prelude.{ℕ, ◌+◌, ◌-◌, ◌^◌, min, max, List, Option}
use Rattle.std.specs.Option.{option_map}
use Rattle.graph.specs.Sets.{none, with_step, without_step, both}
use Rattle.graph.specs.Walks.{value_at}
use Rattle.graph.specs.declared.step_set.StepSet.{StepSet}

-- A length grows by the time of the step, up to the largest number of 32 bits.
abbrev pub lengthened : ℕ → ℕ → ℕ → ℕ
lengthened so_far step time = min (so_far + time) (2 ^ 32 - 1)

-- The length at a step: the greatest length of a path that ends there.
abbrev pub length_at : (ℕ → ℕ) → (ℕ → List ℕ) → ℕ → Option ℕ
length_at time before step = value_at 0 max lengthened time before step

-- The steps of a path gain the step.
abbrev pub visited : StepSet → ℕ → ℕ → StepSet
visited so_far step time = with_step step so_far

-- The ancestors of a step: the steps of the paths that end there, without the step.
abbrev pub ancestors_at : (ℕ → ℕ) → (ℕ → List ℕ) → ℕ → Option StepSet
ancestors_at time before step = option_map (without_step step) (value_at none both visited time before step)
