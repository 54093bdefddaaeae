-- The marking test. The supply is given by its width at each tick. A difference stops at 0.
use Rattle.std.specs.Prelude.{◌≡◌, ℕ, zero, suc, ◌+◌, ◌-◌, ◌<◌, ◌≤◌, min, Bool, cond, Some, None, Option, nat_le}
use Rattle.certificate.specs.Allowance.{allowance}
use Rattle.certificate.specs.declared.marking_test.MarkingTest.{MarkingTest}

-- The sum of a quantity over `count` ticks, from `first` on.
abbrev pub total : (ℕ → ℕ) → ℕ → ℕ → ℕ
total quantity first zero = 0
total quantity first (suc count) = quantity first + total quantity (suc first) count

-- 1 where something is so, else 0.
abbrev pub one_if : Bool → ℕ
one_if so = cond so 1 0

-- How many ticks there are from the first up to the one before the deadline: none where the deadline is at or before the first.
abbrev pub ticks : MarkingTest → ℕ
ticks test = test.deadline - test.first

-- The offered width at a tick: the lesser of the ceiling and the supply's width.
abbrev pub offered : (ℕ → ℕ) → ℕ → ℕ → ℕ
offered width ceiling tick = min ceiling (width tick)

-- A marking chooses ticks: it is true of those that it marks.
abbrev pub Marking : Type 0
Marking = ℕ → Bool

-- How many ticks of the test a marking marks.
abbrev pub marks : MarkingTest → Marking → ℕ
marks test marking = total (λ tick. one_if (marking tick)) test.first (ticks test)

-- A marking marks at most as many ticks as the length allows.
abbrev pub Allowed : MarkingTest → Marking → Type 0
Allowed test marking = marks test marking ≤ allowance test.length

-- The yield of a marking: 1 for each marked tick of the test and the offered width for each other one.
abbrev pub yield : (ℕ → ℕ) → MarkingTest → ℕ → Marking → ℕ
yield width test ceiling marking =
    total (λ tick. cond (marking tick) 1 (offered width ceiling tick)) test.first (ticks test)

-- The test passes: every marking yields at least the work.
abbrev pub Passes : (ℕ → ℕ) → MarkingTest → ℕ → ℕ → Type 0
Passes width test ceiling work = (marking : Marking) → Allowed test marking → work ≤ yield width test ceiling marking

-- The test fails: some marking yields less than the work.
abbrev pub Fails : (ℕ → ℕ) → MarkingTest → ℕ → ℕ → Type 0
Fails width test ceiling work = (marking : Marking) × Allowed test marking × (yield width test ceiling marking < work)

-- The least that `count` ticks from `first` on yield with at most `allowed` of them marked, by a choice at each tick: to mark it, or not.
unfoldable pub least : (ℕ → ℕ) → ℕ → ℕ → ℕ → ℕ
least offer allowed first zero = 0
least offer zero first (suc count) = offer first + least offer zero (suc first) count
least offer (suc allowed) first (suc count) =
    min (1 + least offer allowed (suc first) count) (offer first + least offer (suc allowed) (suc first) count)

-- The least yield of the test under a ceiling.
abbrev pub least_yield : (ℕ → ℕ) → MarkingTest → ℕ → ℕ
least_yield width test ceiling = least (offered width ceiling) (allowance test.length) test.first (ticks test)

-- What makes a number the least yield: no marking yields less, and some marking yields it. That alone fixes the number.
-- Besides, it is 0 under ceiling 0, a ceiling above 64 is as 64, and it does not fall as the ceiling rises.
pub record LeastYield (width : ℕ → ℕ) (test : MarkingTest) (ceiling answer : ℕ) : Type 0 where
  pub bounds : (marking : Marking) → Allowed test marking → answer ≤ yield width test ceiling marking
  pub reached : (marking : Marking) × Allowed test marking × (yield width test ceiling marking ≡ answer)
  pub under_0 : ceiling ≡ 0 → answer ≡ 0
  pub above_64 : 64 ≤ ceiling → answer ≡ least_yield width test 64
  pub rises : (lower : ℕ) → lower ≤ ceiling → least_yield width test lower ≤ answer

-- The first of `count` ceilings, from `ceiling` on, under which the least yield is at least the work.
unfoldable pub first_enough : (ℕ → ℕ) → ℕ → ℕ → ℕ → Option ℕ
first_enough yields work ceiling zero = None
first_enough yields work ceiling (suc count) =
    let later = first_enough yields work (suc ceiling) count in cond (nat_le work (yields ceiling)) (Some ceiling) later

-- The least ceiling from 1 to 64 under which the test passes, if there is one.
abbrev pub least_ceiling : (ℕ → ℕ) → MarkingTest → ℕ → Option ℕ
least_ceiling width test work = first_enough (least_yield width test) work 1 64

-- What makes a ceiling the least: the test passes under it, and fails under each smaller one from 1 on, and under 0 where there is work.
-- It passes under 64 too, so that none is answered only where 64 fails.
pub record Smallest (width : ℕ → ℕ) (test : MarkingTest) (work ceiling : ℕ) : Type 0 where
  pub at_least_one : 1 ≤ ceiling
  pub at_most_64 : ceiling ≤ 64
  pub passes : Passes width test ceiling work
  pub widest_passes : Passes width test 64 work
  pub smaller_fail : (lower : ℕ) → 1 ≤ lower → lower < ceiling → Fails width test lower work
  pub zero_fails : 0 < work → Fails width test 0 work

-- A ceiling is answered if it is the least; none just where the test fails even under 64.
abbrev pub LeastCeiling : (ℕ → ℕ) → MarkingTest → ℕ → Option ℕ → Type 0
LeastCeiling width test work (Some ceiling) = Smallest width test work ceiling
LeastCeiling width test work None = Fails width test 64 work
