-- The list of a set's steps.
use Rattle.std.proofs.Common.{◌≡◌, ℕ, zero, suc, ◌+◌, ◌/◌, ◌^◌, ◌<◌, ◌≤◌, Bool, true, false, cond, not, ◌&&◌, eqb, List, [], ◌∷◌, length, filter, sym, refl, ap, ◌∙◌, ap₂, subst, ⊎_elim, add-zero, div-one, arith, shr-shr}
use mathlib.Core.Bool.{and-true, and-false}
use mathlib.Core.List.Memᴰ
use mathlib.Core.List.{Memᴰ}
use native.Mathlib.Nat.{div-eq_of_lt}
use lib.Count.{ones, ones_step, count_trailing_zeros}
use Rattle.std.proofs.lemmas.Bool.{cases_eq, cases_Bool, eq-eqb, ne_eqb, cond-true, cond-false}
use Rattle.std.specs.List.{range_with_len, AllByRecursion as All}
use Rattle.graph.specs.Sets.{has, without_step, members, Least}
use Rattle.graph.specs.declared.step_set.StepSet.{StepSet}
use Rattle.graph.specs.Digits.{ones_of_zero, trailing_lowest}
use Rattle.graph.specs.SetLaws.{has_digit, lacks_digit, digit_has, digit_lacks, zero_lacks, has_without}

-- What a test keeps of the numbers from `from` on.
module _ (test : ℕ → Bool) where
  kept_none : (from count : ℕ) → ((n : ℕ) → from ≤ n → n < from + count → test n ≡ false) → filter test (range_with_len from count) ≡ []
  kept_none from zero fails = refl
  kept_none from (suc count) fails =
      cond-false (test from) _ _ (fails from (omega arith) (omega arith))
      ∙ kept_none (from + 1) count (λ n over under. fails n (omega arith) (omega arith))

  kept_same : (other : ℕ → Bool) (from count : ℕ) → ((n : ℕ) → from ≤ n → test n ≡ other n) → filter test (range_with_len from count) ≡ filter other (range_with_len from count)
  kept_same other from zero same = refl
  kept_same other from (suc count) same =
      let rest = kept_same other (from + 1) count (λ n over. same n (omega arith)) in
      ap₂ (λ (b : Bool) (ns : List ℕ). cond b (from ∷ ns) ns) (same from (omega arith)) rest

  -- the first that passes, and then what another test keeps that only fails it besides
  kept_next : (other : ℕ → Bool) (step : ℕ) → test step ≡ true → ((n : ℕ) → n < step → test n ≡ false) → ((n : ℕ) → other n ≡ (test n && not (eqb n step))) → (from count : ℕ) → from ≤ step → step < from + count → filter test (range_with_len from count) ≡ step ∷ filter other (range_with_len from count)
  kept_next other step passes fails less from zero over under = absurd (omega arith)
  kept_next other step passes fails less from (suc count) over under =
      ⊎_elim
      (λ here.
      let there : other from ≡ false = less from ∙ ap (λ (b : Bool). test from && not b) (eq-eqb from step here) ∙ and-false (test from) in
      cond-true (test from) _ _ (ap test here ∙ passes)
      ∙ ap₂ (λ (n : ℕ) (ns : List ℕ). n ∷ ns) here (kept_same other (from + 1) count (λ n past. sym (less n ∙ ap (λ (b : Bool). test n && not b) (ne_eqb n step (λ same. omega arith)) ∙ and-true (test n))))
      ∙ ap (λ (ns : List ℕ). step ∷ ns) (sym (cond-false (other from) _ _ there)))
      (λ later.
      let there : other from ≡ false = less from ∙ ap (λ (b : Bool). b && not (eqb from step)) (fails from (omega arith)) in
      cond-false (test from) _ _ (fails from (omega arith))
      ∙ kept_next other step passes fails less (from + 1) count (omega arith) (omega arith)
      ∙ ap (λ (ns : List ℕ). step ∷ ns) (sym (cond-false (other from) _ _ there)))
      (cases_eq from step)

  module _ (from count n : ℕ) (rest : List ℕ) (tells : Memᴰ n rest → (test n ≡ true) × (n < from + suc count)) where
    kept_in_next : (passes : Bool) → test from ≡ passes → Memᴰ n (cond passes (from ∷ rest) rest) → (test n ≡ true) × (n < from + suc count)
    kept_in_next true is inside = ⊎_elim (λ here. (ap test here ∙ is, omega arith)) tells (Memᴰ.cases_cons inside)
    kept_in_next false is inside = tells inside

  kept_in : (from count n : ℕ) → Memᴰ n (filter test (range_with_len from count)) → (test n ≡ true) × (n < from + count)
  kept_in from zero n inside = absurd (Memᴰ.not-nil inside)
  kept_in from (suc count) n inside =
      kept_in_next from count n (filter test (range_with_len (from + 1) count))
      (λ later. let tells = kept_in (from + 1) count n later in (tells.0, omega (arith, tells.1)))
      (test from)
      refl
      inside

  in_kept : (from count n : ℕ) → from ≤ n → n < from + count → test n ≡ true → Memᴰ n (filter test (range_with_len from count))
  in_kept from zero n over under passes = absurd (omega arith)
  in_kept from (suc count) n over under passes =
      let rest = filter test (range_with_len (from + 1) count) in
      ⊎_elim
      (λ here. let first : test from ≡ true = ap test (sym here) ∙ passes in rw first (Memᴰ.head here))
      (λ other.
      let later = in_kept (from + 1) count n (omega arith) (omega arith) passes in
      elim (test from) as (λ b. Memᴰ n (cond b (from ∷ rest) rest)) [ true ↦ Memᴰ.tail later | false ↦ later ])
      (cases_eq n from)

-- how many digits are set from a place on
ones_kept : (set : StepSet) (from count : ℕ) → set.bits < 2 ^ (from + count) → length (filter (has set) (range_with_len from count)) ≡ ones (set.bits / 2 ^ from)
ones_kept set from zero short = sym (ap ones (div-eq_of_lt (rw add-zero at short)) ∙ ones_of_zero)
ones_kept set from (suc count) short =
    let number = set.bits / 2 ^ from in
    let place : from + suc count ≡ from + 1 + count = omega arith in
    let rest = ones_kept set (from + 1) count (rw place at short) in
    let half = ap ones (shr-shr set.bits from 1) in
    ⊎_elim
    (λ inside. ap length (cond-true (has set from) _ _ inside) ∙ omega (arith, has_digit set from inside, ones_step number))
    (λ outside. ap length (cond-false (has set from) _ _ outside) ∙ omega (arith, lacks_digit set from outside, ones_step number))
    (cases_Bool (has set from))

pub length_members : (set : StepSet) → set.bits < 2 ^ 64 → length (members set) ≡ ones set.bits
unfolding members
length_members set short = ones_kept set 0 64 short ∙ ap ones (div-one set.bits)

pub members_none : (set : StepSet) → ((n : ℕ) → has set n ≡ false) → members set ≡ []
unfolding members
members_none set lacks = kept_none (has set) 0 64 (λ n _ _. lacks n)

pub members_next : (set : StepSet) (step : ℕ) → Least set step → step < 64 → members set ≡ step ∷ members (without_step step set)
unfolding members
members_next set step least within =
    kept_next (has set) (has (without_step step set)) step least.inside least.below (has_without step set) 0 64 (omega arith) within

-- the steps of the list are those of the set
pub members_has : (set : StepSet) (n : ℕ) → Memᴰ n (members set) → (has set n ≡ true) × (n < 64)
unfolding members
members_has set n = kept_in (has set) 0 64 n

pub has_members : (set : StepSet) (n : ℕ) → n < 64 → has set n ≡ true → Memᴰ n (members set)
unfolding members
has_members set n within inside = in_kept (has set) 0 64 n (omega arith) within inside

all_from_mem : (P : ℕ → Type 0) (ns : List ℕ) → ((n : ℕ) → Memᴰ n ns → P n) → All P ns
all_from_mem P [] holds = tt
all_from_mem P (n ∷ ns) holds = (holds n (Memᴰ.head refl), all_from_mem P ns (λ m later. holds m (Memᴰ.tail later)))

pub members_all : (set : StepSet) → All (λ n. (has set n ≡ true) × (n < 64)) (members set)
members_all set = all_from_mem (λ n. (has set n ≡ true) × (n < 64)) (members set) (members_has set)

-- what stands first among a set's steps is one of them
pub members_first : (set : StepSet) (step : ℕ) (rest : List ℕ) → members set ≡ step ∷ rest → (has set step ≡ true) × (step < 64)
members_first set step rest is = (subst (All (λ n. (has set n ≡ true) × (n < 64))) is (members_all set)).0

-- the least step stands after the trailing zeros
pub least_first : (set : StepSet) → 0 < set.bits → set.bits < 2 ^ 64 → Least set (count_trailing_zeros 64 set.bits) × (count_trailing_zeros 64 set.bits < 64)
least_first set some short =
    let lowest = trailing_lowest 64 set.bits some short in (
      record {
        inside = digit_has set (count_trailing_zeros 64 set.bits) lowest.1;
        below = λ n under. digit_lacks set n (lowest.2 n under);
      },
      lowest.0,
    )

-- there are no steps just where the number is 0
pub no_members : (set : StepSet) → set.bits < 2 ^ 64 → eqb set.bits 0 ≡ eqb (length (members set)) 0
no_members set short =
    ⊎_elim
    (λ zeros. eq-eqb set.bits 0 zeros ∙ sym (eq-eqb (length (members set)) 0 (ap length (members_none set (zero_lacks set zeros)))))
    (λ other.
    let least = least_first set (omega arith) short in
    let first = ap length (members_next set (count_trailing_zeros 64 set.bits) least.0 least.1) in
    ne_eqb set.bits 0 other ∙ sym (ne_eqb (length (members set)) 0 (λ empty. omega arith)))
    (cases_eq set.bits 0)
