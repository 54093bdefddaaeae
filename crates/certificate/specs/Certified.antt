-- When a plan is certified on a supply, which is given by its width at each tick.
use Rattle.std.specs.Prelude.{◌≡◌, ℕ, ◌≤◌, ◌⊎◌}
use Rattle.graph.specs.Asked.{steps_of, deadline_of, volume_of, length_of}
use Rattle.graph.specs.declared.plan.Plan.{Plan}
use Rattle.certificate.specs.Marking.{Passes, Fails}
use Rattle.certificate.specs.declared.marking_test.MarkingTest.{MarkingTest}

-- The test of the whole plan: from tick 0 to its deadline, with its length.
abbrev pub whole_test : Plan → MarkingTest
whole_test plan = record { first = 0; deadline = deadline_of plan; length = length_of plan }

-- A plan is certified where it is not empty and every marking of its ticks, under ceiling 64, yields at least its volume.
abbrev pub Certified : (ℕ → ℕ) → Plan → Type 0
Certified width plan = (1 ≤ steps_of plan) × Passes width (whole_test plan) 64 (volume_of plan)

-- It is not where it is empty or some marking yields less.
abbrev pub Uncertified : (ℕ → ℕ) → Plan → Type 0
Uncertified width plan = (steps_of plan ≡ 0) ⊎ Fails width (whole_test plan) 64 (volume_of plan)
