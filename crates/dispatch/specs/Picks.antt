-- The step that each policy picks of a set, and what makes it that step. 64 is no step.
use Rattle.std.specs.Prelude.{◌≡◌, ℕ, ◌<◌, ◌≤◌, max, true, false, ◌⊎◌, List, [], ◌∷◌, ◌++◌, filter, nat_le, nat_lt, slice_index, cond, Some, None, Option}
use Rattle.std.specs.Option.{option_partial_cmp}
use Rattle.std.specs.Ordering.{nat_cmp, partial_gt}
use Rattle.graph.specs.Sets.{has, members, Least}
use Rattle.graph.specs.declared.step_set.StepSet.{StepSet}

-- The first of some steps, or the number given where there are none.
abbrev pub first_or : ℕ → List ℕ → ℕ
first_or default [] = default
first_or default (step ∷ steps) = step

-- The lowest step of a set.
unfoldable pub lowest : StepSet → ℕ
lowest ready = first_or 64 (members ready)

-- The rank of a step.
abbrev pub rank_of : List ℕ → ℕ → ℕ
rank_of ranks step = slice_index ranks step

-- Its rank, if it is a step.
abbrev pub rank_at : List ℕ → ℕ → Option ℕ
rank_at ranks step = cond (nat_lt step 64) (Some (rank_of ranks step)) None

-- The better of two steps: the second only where it has the greater rank. A number that is no step has no rank, which is below every rank.
abbrev pub better : List ℕ → ℕ → ℕ → ℕ
better ranks best step = cond (partial_gt (option_partial_cmp (λ x y. Some (nat_cmp x y))) (rank_at ranks step) (rank_at ranks best)) step best

-- The greatest rank of some steps.
abbrev pub top : List ℕ → List ℕ → ℕ
top ranks [] = 0
top ranks (step ∷ steps) = max (rank_of ranks step) (top ranks steps)

-- The first of a set's steps that have its greatest rank.
unfoldable pub highest : List ℕ → StepSet → ℕ
highest ranks ready =
    first_or 64 (filter (λ step. nat_le (top ranks (members ready)) (rank_of ranks step)) (members ready))

-- The steps of a set as their turns come: those above the last pick, and then from the start.
unfoldable pub in_turn : ℕ → StepSet → List ℕ
in_turn last ready = filter (nat_lt last) (members ready) ++ members ready

-- The step whose turn comes next.
abbrev pub next_after : ℕ → StepSet → ℕ
next_after last ready = first_or 64 (in_turn last ready)

-- The last pick, once that step is picked: as before where there is none.
abbrev pub last_after : ℕ → StepSet → ℕ
last_after last ready = first_or last (in_turn last ready)

-- What makes a step the one of greatest rank: it is in the set, no step of the set has a greater rank, and none below it has an equal one.
pub record Highest (ranks : List ℕ) (ready : StepSet) (step : ℕ) : Type 0 where
  pub inside : has ready step ≡ true
  pub greatest : (other : ℕ) → has ready other ≡ true → rank_of ranks other ≤ rank_of ranks step
  pub first : (other : ℕ) → other < step → has ready other ≡ true → rank_of ranks other < rank_of ranks step

-- The least step of a set above a number.
pub record LeastAbove (last : ℕ) (ready : StepSet) (step : ℕ) : Type 0 where
  pub inside : has ready step ≡ true
  pub above : last < step
  pub first : (other : ℕ) → last < other → other < step → has ready other ≡ false

-- No step of a set is above a number.
abbrev pub NoneAbove : ℕ → StepSet → Type 0
NoneAbove last ready = (other : ℕ) → last < other → has ready other ≡ false

-- What makes a step the next after the last pick: the least above it, or the least of all where none is above it.
abbrev pub NextAfter : ℕ → StepSet → ℕ → Type 0
NextAfter last ready step = LeastAbove last ready step ⊎ (NoneAbove last ready × Least ready step)

-- What a pick does. `Right` says what makes a step the one to pick, and `next` which state follows its pick.
-- Of the empty set 64 is answered, and the state stays; of any other the right step, and no other number is right.
pub record Picks {State : Type 0} (ready : StepSet) (Right : ℕ → Type 0) (next : ℕ → State) (before : State) (answer : ℕ) (after : State) : Type 0 where
  pub empty : ((n : ℕ) → has ready n ≡ false) → (answer ≡ 64) × (after ≡ before)
  pub some : (n : ℕ) → has ready n ≡ true → Right answer × (answer < 64) × (after ≡ next answer)
  pub only : (other : ℕ) → Right other → other ≡ answer
