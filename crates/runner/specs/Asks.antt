-- Asking a policy, which is given by the step that it picks of a set and the state that follows.
use Rattle.std.specs.Prelude.{ℕ, zero, suc}
use Rattle.graph.specs.Sets.{none, with_step, without_step}
use Rattle.graph.specs.declared.step_set.StepSet.{StepSet}

-- So many asks, the first with all of a set and each later one with those left: the steps picked, and the state after.
abbrev pub asks : {P : Type 0} → (P → StepSet → ℕ) → (P → StepSet → P) → ℕ → P → StepSet → StepSet × P
asks picked moved zero state left = (none, state)
asks picked moved (suc count) state left =
    let rest = asks picked moved count (moved state left) (without_step (picked state left) left) in
    (with_step (picked state left) rest.0, rest.1)
