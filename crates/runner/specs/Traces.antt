-- Runs of a job, by their traces. A trace has the ticks that were run since the release, the newest in front; all else is read off it.
-- A job is given by how many steps it has, the predecessors of each, and the actual time of each; a supply by its width at each tick.
use Rattle.std.specs.Prelude.{ℕ, ◌+◌, ◌-◌, Bool, true, cond, not, ◌&&◌, List, [], ◌∷◌, length, is_some, Some, None, filter, Option, ◌==◌, nat_lt}
use Rattle.std.specs.List.{range_with_len}
use Rattle.std.specs.Option.{option_or}
use Rattle.certificate.specs.Marking.{offered, one_if}
use Rattle.graph.specs.Sets.{has, none, with_step, members}
use Rattle.graph.specs.declared.step_set.StepSet.{StepSet}

-- One tick: the ceiling in force, and the steps that were picked.
pub record Tick : Type 0 where
  pub ceiling : ℕ
  pub picked : StepSet

-- How many steps a set has.
abbrev pub size : StepSet → ℕ
size set = length (members set)

-- The clock: how many ticks were run.
abbrev pub clock : List Tick → ℕ
clock trace = length trace

-- How many ticks a step has run.
abbrev pub ran : List Tick → ℕ → ℕ
ran [] step = 0
ran (tick ∷ earlier) step = ran earlier step + one_if (has tick.picked step)

-- The start of a step: the clock of its first tick.
abbrev pub start_of : List Tick → ℕ → Option ℕ
start_of [] step = None
start_of (tick ∷ earlier) step = option_or (start_of earlier step) (cond (has tick.picked step) (Some (clock earlier)) None)

-- The finish of a step: one more than the clock of the tick in which it had run its actual time.
abbrev pub finish_of : (ℕ → ℕ) → List Tick → ℕ → Option ℕ
finish_of actual [] step = None
finish_of actual (tick ∷ earlier) step =
    option_or (finish_of actual earlier step) (cond ((ran (tick ∷ earlier) step) == (actual step)) (Some (clock earlier + 1)) None)

abbrev pub finished : (ℕ → ℕ) → List Tick → ℕ → Bool
finished actual trace step = is_some (finish_of actual trace step)

-- Each of some steps is finished.
abbrev pub all_finished : (ℕ → ℕ) → List Tick → List ℕ → Bool
all_finished actual trace [] = true
all_finished actual trace (step ∷ steps) = finished actual trace step && all_finished actual trace steps

-- A step is ready when it is unfinished and all its predecessors are finished.
abbrev pub is_ready : ℕ → (ℕ → List ℕ) → (ℕ → ℕ) → List Tick → ℕ → Bool
is_ready count before actual trace step = nat_lt step count && (not (finished actual trace step) && all_finished actual trace (before step))

-- The set of some steps.
abbrev pub gathered : List ℕ → StepSet
gathered [] = none
gathered (step ∷ steps) = with_step step (gathered steps)

-- The ready steps as a set.
unfoldable pub ready : ℕ → (ℕ → List ℕ) → (ℕ → ℕ) → List Tick → StepSet
ready count before actual trace = gathered (filter (is_ready count before actual trace) (range_with_len 0 64))

-- The work done: a step and a tick for each step that was picked.
abbrev pub work : List Tick → ℕ
work [] = 0
work (tick ∷ earlier) = work earlier + size tick.picked

-- The width that was offered at the newest tick.
abbrev pub offer : (ℕ → ℕ) → Tick → List Tick → ℕ
offer width tick earlier = offered width tick.ceiling (clock earlier)

-- A tick is idle where fewer steps were picked than cores offered; what is left is spare.
abbrev pub idle : (ℕ → ℕ) → List Tick → ℕ
idle width [] = 0
idle width (tick ∷ earlier) = idle width earlier + one_if (nat_lt (size tick.picked) (offer width tick earlier))

abbrev pub spare : (ℕ → ℕ) → List Tick → ℕ
spare width [] = 0
spare width (tick ∷ earlier) = spare width earlier + (offer width tick earlier - size tick.picked)
