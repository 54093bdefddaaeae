-- Sums over a run of ticks.
use Rattle.std.proofs.Common.{◌≡◌, ℕ, zero, suc, ◌+◌, ◌≤◌, refl, ap, add-zero, arith}
use Rattle.certificate.specs.Marking.{total}

-- one tick more at the end
pub total_push : (f : ℕ → ℕ) (first count : ℕ) → total f first (suc count) ≡ total f first count + f (first + count)
total_push f first zero = omega (arith, ap f (add-zero first))
total_push f first (suc count) =
    let rest = total_push f (suc first) count in
    let place : suc first + count ≡ first + suc count = omega arith in
    omega (arith, rest, ap f place)

-- quantities that agree at every tick of the run, and quantities of which one is never more there
pub total_agree : (f g : ℕ → ℕ) (first count : ℕ) → ((tick : ℕ) → first ≤ tick → f tick ≡ g tick) → total f first count ≡ total g first count
total_agree f g first zero same = refl
total_agree f g first (suc count) same =
    omega (arith, same first (omega arith), total_agree f g (suc first) count (λ tick h. same tick (omega arith)))

pub total_le : (f g : ℕ → ℕ) (first count : ℕ) → ((tick : ℕ) → f tick ≤ g tick) → total f first count ≤ total g first count
total_le f g first zero le = omega arith
total_le f g first (suc count) le = omega (arith, le first, total_le f g (suc first) count le)

-- a quantity that is at most 1
pub total_few : (f : ℕ → ℕ) (first count : ℕ) → ((tick : ℕ) → f tick ≤ 1) → total f first count ≤ count
total_few f first zero few = omega arith
total_few f first (suc count) few = omega (arith, few first, total_few f (suc first) count few)
