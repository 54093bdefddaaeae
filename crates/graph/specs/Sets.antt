-- Sets of step numbers, by what they have.
use Rattle.std.specs.Prelude.{◌≡◌, ℕ, ◌+◌, ◌-◌, ◌/◌, ◌%◌, ◌^◌, ◌<◌, Bool, true, false, cond, not, ◌&&◌, List, filter, ◌==◌, bit_or, nat_lt}
use Rattle.std.specs.List.{range_with_len}
use Rattle.graph.specs.declared.step_set.StepSet.{StepSet}
use Rattle.graph.specs.declared.steps.Steps.{Steps}

-- A step is in a set where its bit is 1.
unfoldable pub has : StepSet → ℕ → Bool
has set step = (set.bits / 2 ^ step % 2) == 1

-- The set with no step.
abbrev pub none : StepSet
none = record { bits = 0 }

-- A set with one step more: the same set where the step is in it, and where the number is 64 or above and so no step.
unfoldable pub with_step : ℕ → StepSet → StepSet
with_step step set = record { bits = cond (nat_lt step 64 && not (has set step)) (set.bits + 2 ^ step) set.bits }

-- A set with one step less: the same set where the step is not in it.
unfoldable pub without_step : ℕ → StepSet → StepSet
without_step step set = record { bits = cond (has set step) (set.bits - 2 ^ step) set.bits }

-- The steps of either set.
unfoldable pub both : StepSet → StepSet → StepSet
both left right = record { bits = bit_or left.bits right.bits }

-- The steps of a set, in rising order.
unfoldable pub members : StepSet → List ℕ
members set = filter (has set) (range_with_len 0 64)

-- The steps that an iterator over a set has still to give.
abbrev pub steps_left : Steps → List ℕ
steps_left steps = members steps.rest

-- The least step of a set: it is in the set, and no lower number is.
pub record Least (set : StepSet) (step : ℕ) : Type 0 where
  pub inside : has set step ≡ true
  pub below : (n : ℕ) → n < step → has set n ≡ false
