-- What the operations on sets do to each number.
use Rattle.std.specs.Prelude.{◌≡◌, ℕ, zero, suc, ◌+◌, ◌-◌, ◌*◌, ◌^◌, ◌<◌, ◌≤◌, Bool, true, false, cond, not, ◌&&◌, ◌||◌, ◌==◌, ◌≢◌, bit_and, bit_or, bit_xor, nat_eq, nat_lt}
use Rattle.std.proofs.Math.Path.{refl, sym, ap}
use Rattle.std.proofs.Common.{ap₂, ◌∙◌, ⊎_elim, one-mul, zero-mul, arith}
use Rattle.std.proofs.Math.Bool.{and-true, and-false, or-false, or_assoc}
use Rattle.std.specs.Int.Bits.{and_zero_r, or_zero_r, or_add_and, xor_add_and}
use Rattle.std.proofs.lemmas.Nat.{pow_pos, shr_le, or_comm, or_disjoint}
use Rattle.std.proofs.lemmas.Bool.{cases_Bool, cases_lt, both_ways, ltb-false, eqb-true, eqb-false, ne_eqb}
use Rattle.graph.specs.Sets.{has, none, with_step, without_step, both}
use Rattle.graph.specs.declared.step_set.StepSet.{StepSet}
use Rattle.graph.specs.Digits.{digit, digit_of_zero, digit_past, digit_or, digit_xor, digit_power, and_power, and_rest, zero_digits, same_digits}

of_bits : ℕ → StepSet
of_bits n = record { bits = n }

-- single digits, as tests
or_tells : (x y : ℕ) → x < 2 → y < 2 → (bit_or x y == 1) ≡ (x == 1 || y == 1)
or_tells zero y small_x small_y = refl
or_tells (suc zero) zero small_x small_y = refl
or_tells (suc zero) (suc zero) small_x small_y = refl
or_tells (suc zero) (suc (suc y)) small_x small_y = absurd (omega arith)
or_tells (suc (suc x)) y small_x small_y = absurd (omega arith)

power_tells : (b : Bool) → (cond b 1 0 == 1) ≡ b
power_tells true = refl
power_tells false = refl

power_small : (b : Bool) → cond b 1 0 < 2
power_small true = omega arith
power_small false = omega arith

xor_tells : (x : ℕ) (b : Bool) → x < 2 → (b ≡ true → x ≡ 1) → (bit_xor x (cond b 1 0) == 1) ≡ (x == 1 && not b)
xor_tells zero true small one = absurd (omega (arith, one refl))
xor_tells zero false small one = refl
xor_tells (suc zero) true small one = refl
xor_tells (suc zero) false small one = refl
xor_tells (suc (suc x)) b small one = absurd (omega arith)

tells_same : (x y : ℕ) → x < 2 → y < 2 → (x == 1) ≡ (y == 1) → x ≡ y
tells_same zero zero small_x small_y same = refl
tells_same zero (suc zero) small_x small_y same = absurd (both_ways true (sym same) refl)
tells_same (suc zero) zero small_x small_y same = absurd (both_ways true same refl)
tells_same (suc zero) (suc zero) small_x small_y same = refl
tells_same zero (suc (suc y)) small_x small_y same = absurd (omega arith)
tells_same (suc zero) (suc (suc y)) small_x small_y same = absurd (omega arith)
tells_same (suc (suc x)) y small_x small_y same = absurd (omega arith)

-- the test and the digit
pub has_digit : (set : StepSet) (n : ℕ) → has set n ≡ true → digit set.bits n ≡ 1
unfolding has
has_digit set n inside = eqb-true (digit set.bits n) 1 inside

pub lacks_digit : (set : StepSet) (n : ℕ) → has set n ≡ false → digit set.bits n ≡ 0
unfolding has
lacks_digit set n outside =
    let other : (digit set.bits n ≢ 1) = eqb-false (digit set.bits n) 1 outside in omega arith

pub digit_lacks : (set : StepSet) (n : ℕ) → digit set.bits n ≡ 0 → has set n ≡ false
unfolding has
digit_lacks set n zeros = ap (λ (d : ℕ). nat_eq d 1) zeros

pub digit_has : (set : StepSet) (n : ℕ) → digit set.bits n ≡ 1 → has set n ≡ true
unfolding has
digit_has set n one = ap (λ (d : ℕ). nat_eq d 1) one

-- a number of 64 bits has no step from 64 on
pub has_below : (set : StepSet) → set.bits < 2 ^ 64 → (n : ℕ) → has set n ≡ true → n < 64
has_below set short n inside =
    ⊎_elim (λ below. below)
    (λ past. absurd (omega (arith, has_digit set n inside, digit_past set.bits 64 n short past)))
    (cases_lt n 64)

-- no number from 64 on is in a set of 64 bits
pub lacks_above : (set : StepSet) → set.bits < 2 ^ 64 → (n : ℕ) → 64 ≤ n → has set n ≡ false
lacks_above set short n over =
    ⊎_elim (λ inside. absurd (let under = has_below set short n inside in omega arith)) (λ outside. outside) (cases_Bool (has set n))

pub has_none : (n : ℕ) → has none n ≡ false
has_none n = digit_lacks none n (digit_of_zero n)

pub zero_lacks : (set : StepSet) → set.bits ≡ 0 → (n : ℕ) → has set n ≡ false
zero_lacks set zeros n = digit_lacks set n (ap (λ (b : ℕ). digit b n) zeros ∙ digit_of_zero n)

pub lacks_zero : (set : StepSet) → ((n : ℕ) → has set n ≡ false) → set.bits ≡ 0
lacks_zero set lacks = zero_digits set.bits (λ n. lacks_digit set n (lacks n))

pub has_both : (left right : StepSet) (n : ℕ) → has (both left right) n ≡ (has left n || has right n)
unfolding has both
has_both left right n =
    ap (λ (d : ℕ). nat_eq d 1) (digit_or left.bits right.bits n)
    ∙ or_tells (digit left.bits n) (digit right.bits n) (omega arith) (omega arith)

at_step : (set : StepSet) (step n : ℕ) → (n == step) ≡ true → has set n ≡ has set step
at_step set step n same = ap (has set) (eqb-true n step same)

-- the bit of a step in a set's number
and_inside : (set : StepSet) (step : ℕ) → has set step ≡ true → bit_and set.bits (2 ^ step) ≡ 2 ^ step
and_inside set step inside =
    and_power set.bits step ∙ ap (λ (d : ℕ). d * 2 ^ step) (has_digit set step inside) ∙ one-mul (2 ^ step)

and_outside : (set : StepSet) (step : ℕ) → has set step ≡ false → bit_and set.bits (2 ^ step) ≡ 0
and_outside set step outside =
    and_power set.bits step ∙ ap (λ (d : ℕ). d * 2 ^ step) (lacks_digit set step outside) ∙ zero-mul (2 ^ step)

-- the sum is the union where the step is not in the set
add_is_or : (set : StepSet) (step : ℕ) → has set step ≡ false → set.bits + 2 ^ step ≡ bit_or set.bits (2 ^ step)
add_is_or set step outside =
    sym (or_disjoint set.bits (2 ^ step) (and_outside set step outside))

-- the difference flips the bit where the step is in the set
sub_is_xor : (set : StepSet) (step : ℕ) → has set step ≡ true → set.bits - 2 ^ step ≡ bit_xor set.bits (2 ^ step)
sub_is_xor set step inside =
    omega (arith, xor_add_and set.bits (2 ^ step), and_inside set step inside)

pub has_with : (step : ℕ) (set : StepSet) (n : ℕ) → has (with_step step set) n ≡ (has set n || (n == step && nat_lt step 64))
unfolding has with_step of_bits
has_with step set n = go (nat_lt step 64) (has set step) refl
  where
    either : (old this : Bool) → (this ≡ true → old ≡ true) → old ≡ (old || (this && true))
    either true this known = refl
    either false true known = known refl
    either false false known = refl

    go : (within inside : Bool) → has set step ≡ inside → has (of_bits (cond (within && not inside) (set.bits + 2 ^ step) set.bits)) n ≡ (has set n || (n == step && within))
    go true true e = either (has set n) (n == step) (λ same. at_step set step n same ∙ e)
    go true false e =
        ap (λ (m : ℕ). nat_eq (digit m n) 1) (add_is_or set step e)
        ∙ ap (λ (d : ℕ). nat_eq d 1) (digit_or set.bits (2 ^ step) n ∙ ap (bit_or (digit set.bits n)) (digit_power step n))
        ∙ or_tells (digit set.bits n) (cond (n == step) 1 0) (omega arith) (power_small (n == step))
        ∙ ap (λ (b : Bool). has set n || b) (power_tells (n == step) ∙ sym (and-true (n == step)))
    go false inside e = sym (ap (λ (b : Bool). has set n || b) (and-false (n == step)) ∙ or-false (has set n))

pub has_without : (step : ℕ) (set : StepSet) (n : ℕ) → has (without_step step set) n ≡ (has set n && not (n == step))
unfolding has without_step of_bits
has_without step set n = go (has set step) refl
  where
    neither : (old this : Bool) → (this ≡ true → old ≡ false) → old ≡ (old && not this)
    neither true true known = known refl
    neither true false known = refl
    neither false this known = refl

    go : (inside : Bool) → has set step ≡ inside → has (of_bits (cond inside (set.bits - 2 ^ step) set.bits)) n ≡ (has set n && not (n == step))
    go true e =
        ap (λ (m : ℕ). nat_eq (digit m n) 1) (sub_is_xor set step e)
        ∙ ap (λ (d : ℕ). nat_eq d 1) (digit_xor set.bits (2 ^ step) n ∙ ap (bit_xor (digit set.bits n)) (digit_power step n))
        ∙ xor_tells (digit set.bits n) (n == step) (omega arith) (λ same. has_digit set n (at_step set step n same ∙ e))
    go false e = neither (has set n) (n == step) (λ same. at_step set step n same ∙ e)

-- sets that have the same numbers are equal
pub same_set : (a b : StepSet) → ((n : ℕ) → has a n ≡ has b n) → a ≡ b
unfolding has of_bits
same_set a b same =
    ap of_bits (same_digits a.bits b.bits (λ n. tells_same (digit a.bits n) (digit b.bits n) (omega arith) (omega arith) (same n)))

pub both_comm : (a b : StepSet) → both a b ≡ both b a
unfolding both of_bits
both_comm a b = ap of_bits (or_comm a.bits b.bits)

pub both_assoc : (a b c : StepSet) → both (both a b) c ≡ both a (both b c)
both_assoc a b c =
    same_set (both (both a b) c) (both a (both b c))
    (λ n.
    has_both (both a b) c n ∙ ap (λ (x : Bool). x || has c n) (has_both a b n) ∙ or_assoc (has a n) (has b n) (has c n)
    ∙ sym (has_both a (both b c) n ∙ ap (λ (x : Bool). has a n || x) (has_both b c n)))

pub with_both : (step : ℕ) (a b : StepSet) → with_step step (both a b) ≡ both (with_step step a) (with_step step b)
with_both step a b =
    same_set (with_step step (both a b)) (both (with_step step a) (with_step step b))
    (λ n.
    has_with step (both a b) n ∙ ap (λ (x : Bool). x || (n == step && nat_lt step 64)) (has_both a b n)
    ∙ spread (has a n) (has b n) (n == step && nat_lt step 64)
    ∙ sym (has_both (with_step step a) (with_step step b) n ∙ ap₂ (λ (x y : Bool). x || y) (has_with step a n) (has_with step b n)))
  where
    spread : (x y z : Bool) → (x || y || z) ≡ ((x || z) || (y || z))
    spread true y z = refl
    spread false true true = refl
    spread false true false = refl
    spread false false true = refl
    spread false false false = refl

-- the number falls: a measure for a loop that empties a set
pub without_smaller : (set : StepSet) (step : ℕ) → has set step ≡ true → (without_step step set).bits < set.bits
unfolding without_step
without_smaller set step inside =
    rw inside (omega (arith, pow_pos step, shr_le set.bits step, has_digit set step inside))

pub same_bits : (a b : StepSet) → a.bits ≡ b.bits → a ≡ b
unfolding of_bits
same_bits a b same = ap of_bits same

-- The mask of a step: its bit, and 0 from 64 on.
module _ (set : StepSet) (step mask : ℕ) (is : mask ≡ cond (nat_lt step 64) (2 ^ step) 0) where
  pub or_mask : bit_or set.bits mask ≡ (with_step step set).bits
  unfolding with_step
  or_mask = ap (bit_or set.bits) is ∙ go (nat_lt step 64) (has set step) refl
    where
      go : (within inside : Bool) → has set step ≡ inside → bit_or set.bits (cond within (2 ^ step) 0) ≡ cond (within && not inside) (set.bits + 2 ^ step) set.bits
      go true true e = omega (arith, or_add_and set.bits (2 ^ step), and_inside set step e)
      go true false e = sym (add_is_or set step e)
      go false inside e = or_zero_r set.bits

  module _ (short : set.bits < 2 ^ 64) where
    and_mask : bit_and set.bits mask ≡ cond (has set step) (2 ^ step) 0
    and_mask = ap (bit_and set.bits) is ∙ go (nat_lt step 64) (has set step) refl refl
      where
        go : (within inside : Bool) → nat_lt step 64 ≡ within → has set step ≡ inside → bit_and set.bits (cond within (2 ^ step) 0) ≡ cond inside (2 ^ step) 0
        go true true w e = and_inside set step e
        go true false w e = and_outside set step e
        go false true w e = absurd (omega (arith, has_below set short step e, ltb-false step 64 w))
        go false false w e = and_zero_r set.bits

    pub mask_has : not (bit_and set.bits mask == 0) ≡ has set step
    mask_has = ap (λ (n : ℕ). not (n == 0)) and_mask ∙ go (has set step)
      where
        go : (inside : Bool) → not (cond inside (2 ^ step) 0 == 0) ≡ inside
        go true = ap not (ne_eqb (2 ^ step) 0 (λ zeros. omega (arith, pow_pos step)))
        go false = refl

    pub and_not_mask : mask < 2 ^ 64 → bit_and set.bits (2 ^ 64 - 1 - mask) ≡ (without_step step set).bits
    unfolding without_step
    and_not_mask fits = go (has set step) and_mask
      where
        go : (inside : Bool) → bit_and set.bits mask ≡ cond inside (2 ^ step) 0 → bit_and set.bits (2 ^ 64 - 1 - mask) ≡ cond inside (set.bits - 2 ^ step) set.bits
        go true shared = omega (arith, and_rest 64 set.bits mask short fits)
        go false shared = omega (arith, and_rest 64 set.bits mask short fits)
