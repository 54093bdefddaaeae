-- The predecessors of a step as a list: below it, and each once.
use Rattle.std.proofs.Common.{◌≡◌, ℕ, zero, suc, ◌+◌, ◌<◌, ◌≤◌, Bool, true, false, cond, List, [], ◌∷◌, filter, sym, subst, inl, inr, arith}
use mathlib.Core.List.{Memᴰ}
use Rattle.std.specs.List.{range_with_len, AllByRecursion as All}
use Rattle.std.proofs.ByRecursion.{All-weaker, all_kept_by}
use Rattle.graph.specs.Graphs.{Rising, set_before, before}
use Rattle.graph.specs.Paths.{Among, Distinct}
use Rattle.graph.specs.Sets.{has, members}
use Rattle.graph.specs.declared.step_set.StepSet.{StepSet}
use Rattle.graph.proofs.Members.{members_all, has_members}

pub all_among : {X : Type 0} (P : X → Type 0) (xs : List X) (x : X) → All P xs → Among x xs → P x
all_among P [] x every there = absurd there
all_among P (y ∷ xs) x every (inl same) = subst P (sym same) every.0
all_among P (y ∷ xs) x every (inr later) = all_among P xs x every.1 later

among_member : {X : Type 0} (x : X) (xs : List X) → Memᴰ x xs → Among x xs
among_member x [] there = elim there [ ]
among_member x (y ∷ xs) (Memᴰ.head same) = inl same
among_member x (y ∷ xs) (Memᴰ.tail later) = inr (among_member x xs later)

-- a step is in a set where it is among its members
pub member_has : (set : StepSet) (step : ℕ) → Among step (members set) → (has set step ≡ true) × (step < 64)
member_has set step there = all_among (λ n. (has set n ≡ true) × (n < 64)) (members set) step (members_all set) there

pub has_member : (set : StepSet) (step : ℕ) → step < 64 → has set step ≡ true → Among step (members set)
has_member set step within inside = among_member step (members set) (has_members set step within inside)

counting_from : (a n : ℕ) → All (λ x. a ≤ x) (range_with_len a n)
counting_from a zero = tt
counting_from a (suc n) = (omega arith, All-weaker (λ x. a + 1 ≤ x) (λ x. a ≤ x) (λ x h. omega arith) (range_with_len (a + 1) n) (counting_from (a + 1) n))

keep_one : (passes : Bool) (a : ℕ) (xs : List ℕ) → All (λ x. a + 1 ≤ x) xs → Distinct xs → Distinct (cond passes (a ∷ xs) xs)
keep_one true a xs above one = (λ again. let over = all_among (λ x. a + 1 ≤ x) xs a above again in omega arith, one)
keep_one false a xs above one = one

kept_distinct : (p : ℕ → Bool) (a n : ℕ) → Distinct (filter p (range_with_len a n))
kept_distinct p a zero = tt
kept_distinct p a (suc n) =
    keep_one (p a) a (filter p (range_with_len (a + 1) n)) (all_kept_by p (λ x. a + 1 ≤ x) (range_with_len (a + 1) n) (counting_from (a + 1) n)) (kept_distinct p (a + 1) n)

pub members_distinct : (set : StepSet) → Distinct (members set)
unfolding members
members_distinct set = kept_distinct (has set) 0 64

module _ (predecessors : List StepSet) (rising : Rising predecessors) where
  pub before_below : (step from : ℕ) → Among from (before predecessors step) → from < step
  before_below step from there = rising step from (member_has (set_before predecessors step) from there).0

  pub before_all : (step : ℕ) → All (λ from. from < step) (before predecessors step)
  before_all step = All-weaker _ _ (λ from inside. rising step from inside.0) (before predecessors step) (members_all (set_before predecessors step))
