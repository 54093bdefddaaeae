-- The binary digits of a number.
use Rattle.std.specs.Prelude.{◌≡◌, ℕ, zero, suc, ◌+◌, ◌-◌, ◌*◌, ◌/◌, ◌%◌, ◌^◌, ◌<◌, ◌≤◌, min, Bool, cond, ◌==◌, bit_and, bit_or, bit_xor, refl}
use Rattle.std.proofs.Common.{sym, ap, ap₂, ◌∙◌, pow-suc, div-one, add-zero, mul_assoc, arith, pow_mono}
use Rattle.std.proofs.Math.Nat.{pow-succ', div-div-eq-div-mul, div-eq_of_lt, zero-div, min-zero}
use Rattle.std.proofs.Math.Arith.{bin_ind}
use Rattle.std.specs.Int.Bits.{and_step}
use Rattle.std.proofs.lemmas.Nat.{or_shr, or_mod, xor_shr, xor_mod, and_mask}
use Rattle.std.proofs.Math.Dec.{eqb-zero-suc, eqb-suc-zero, eqb-suc-suc}
use Rattle.std.specs.Int.Count.{ones, count_trailing_zeros, under}

abbrev pub digit : ℕ → ℕ → ℕ
digit number place = number / 2 ^ place % 2

-- all digits but the lowest are those of the half
pub digit_next : (number place : ℕ) → digit number (suc place) ≡ digit (number / 2) place
digit_next number place =
    ap (λ (n : ℕ). n % 2) (ap (λ (n : ℕ). number / n) (pow-succ' 2 place) ∙ sym (div-div-eq-div-mul number 2 (2 ^ place)))

pub digit_lowest : (number : ℕ) → digit number 0 ≡ number % 2
digit_lowest number = ap (λ (n : ℕ). n % 2) (div-one number)

pub digit_of_zero : (place : ℕ) → digit 0 place ≡ 0
digit_of_zero place = ap (λ (n : ℕ). n % 2) (zero-div (2 ^ place))

pub digit_past : (number places place : ℕ) → number < 2 ^ places → places ≤ place → digit number place ≡ 0
digit_past number places place short past =
    ap (λ (n : ℕ). n % 2) (div-eq_of_lt (omega (arith, pow_mono {i = places} {j = place} past)))

pub digit_or : (a b place : ℕ) → digit (bit_or a b) place ≡ bit_or (digit a place) (digit b place)
digit_or a b place = ap (λ (n : ℕ). n % 2) (or_shr a b place) ∙ or_mod (a / 2 ^ place) (b / 2 ^ place) 1

pub digit_xor : (a b place : ℕ) → digit (bit_xor a b) place ≡ bit_xor (digit a place) (digit b place)
digit_xor a b place = ap (λ (n : ℕ). n % 2) (xor_shr a b place) ∙ xor_mod (a / 2 ^ place) (b / 2 ^ place) 1

half_power : (k : ℕ) → 2 ^ suc k / 2 ≡ 2 ^ k
half_power k = omega (arith, pow-suc 2 k)

-- a power of two has one digit
pub digit_power : (k place : ℕ) → digit (2 ^ k) place ≡ cond (place == k) 1 0
digit_power zero zero = refl
digit_power zero (suc place) =
    digit_next 1 place ∙ digit_of_zero place ∙ sym (ap (λ (b : Bool). cond b 1 0) (eqb-suc-zero place))
digit_power (suc k) zero =
    digit_lowest (2 ^ suc k) ∙ omega (arith, pow-suc 2 k) ∙ sym (ap (λ (b : Bool). cond b 1 0) (eqb-zero-suc k))
digit_power (suc k) (suc place) =
    digit_next (2 ^ suc k) place ∙ ap (λ (n : ℕ). digit n place) (half_power k) ∙ digit_power k place
    ∙ sym (ap (λ (b : Bool). cond b 1 0) (eqb-suc-suc place k))

-- a number and a power of two share that digit of the number
pub and_power : (number k : ℕ) → bit_and number (2 ^ k) ≡ digit number k * 2 ^ k
and_power number zero = and_mask number 1 ∙ omega (arith, digit_lowest number)
and_power number (suc k) =
    let lowest : 2 ^ suc k % 2 ≡ 0 = omega (arith, pow-suc 2 k) in
    and_step number (2 ^ suc k)
    ∙ ap₂ (λ (n d : ℕ). bit_and (number / 2) n * 2 + min (number % 2) d) (half_power k) lowest
    ∙ ap₂ (λ (n d : ℕ). n * 2 + d) (and_power (number / 2) k ∙ ap (λ (d : ℕ). d * 2 ^ k) (sym (digit_next number k))) (min-zero (number % 2))
    ∙ add-zero (digit number (suc k) * 2 ^ k * 2) ∙ mul_assoc (digit number (suc k)) (2 ^ k) 2
    ∙ ap (λ (n : ℕ). digit number (suc k) * n) (sym (pow-suc 2 k))

-- a number parts into the digits that it shares with another and those that it does not
pub and_rest : (places a b : ℕ) → a < 2 ^ places → b < 2 ^ places → bit_and a (2 ^ places - 1 - b) + bit_and a b ≡ a
and_rest zero a b short_a short_b = let none : a ≡ 0 = omega arith in rw none refl
and_rest (suc places) a b short_a short_b =
    let other = 2 ^ suc places - 1 - b in
    let twice = pow-suc 2 places in
    let half : other / 2 ≡ 2 ^ places - 1 - b / 2 = omega (arith, twice) in
    let lowest : other % 2 ≡ 1 - b % 2 = omega (arith, twice) in
    let rest = and_rest places (a / 2) (b / 2) (omega (arith, twice)) (omega (arith, twice)) in
    omega (arith, and_step a other, and_step a b, ap (bit_and (a / 2)) half, rest, lowest)

-- numbers with the same digits are equal
pub zero_digits : (number : ℕ) → ((place : ℕ) → digit number place ≡ 0) → number ≡ 0
zero_digits =
    bin_ind (λ (n : ℕ). ((place : ℕ) → digit n place ≡ 0) → n ≡ 0) (λ _. refl)
    (λ n half digits.
    let high : n / 2 ≡ 0 = half (λ place. sym (digit_next n place) ∙ digits (suc place)) in
    let low : n % 2 ≡ 0 = sym (digit_lowest n) ∙ digits 0 in
    omega arith)

pub same_digits : (a b : ℕ) → ((place : ℕ) → digit a place ≡ digit b place) → a ≡ b
same_digits =
    bin_ind (λ (n : ℕ). (b : ℕ) → ((place : ℕ) → digit n place ≡ digit b place) → n ≡ b)
    (λ b same. sym (zero_digits b (λ place. sym (same place) ∙ digit_of_zero place)))
    (λ n half b same.
    let high : n / 2 ≡ b / 2 = half (b / 2) (λ place. sym (digit_next n place) ∙ same (suc place) ∙ digit_next b place) in
    let low : n % 2 ≡ b % 2 = sym (digit_lowest n) ∙ same 0 ∙ digit_lowest b in
    omega arith)

-- the lowest digit that is set: it is among the places, and no lower one is set
abbrev pub Lowest : ℕ → ℕ → ℕ → Type 0
Lowest places number at = (at < places) × (digit number at ≡ 1) × ((place : ℕ) → place < at → digit number place ≡ 0)

-- from the half to the number
module _ (places number at : ℕ) (half : number % 2 ≡ 0 → Lowest places (number / 2) at) where
  zeros_below : number % 2 ≡ 0 → (place : ℕ) → place < suc at → digit number place ≡ 0
  zeros_below even zero below = digit_lowest number ∙ even
  zeros_below even (suc place) below = digit_next number place ∙ (half even).2 place (omega arith)

  lowest_under : (low : ℕ) → number % 2 ≡ low → Lowest (suc places) number (under low at)
  lowest_under zero even = (omega (arith, (half even).0), digit_next number at ∙ (half even).1, zeros_below even)
  lowest_under (suc zero) odd = (omega arith, digit_lowest number ∙ odd, λ place below. absurd (omega arith))
  lowest_under (suc (suc low)) high = absurd (omega arith)

pub trailing_lowest : (places number : ℕ) → 0 < number → number < 2 ^ places → Lowest places number (count_trailing_zeros places number)
unfolding count_trailing_zeros
trailing_lowest zero number some short = absurd (omega arith)
trailing_lowest (suc places) number some short =
    lowest_under places number (count_trailing_zeros places (number / 2))
    (λ even. trailing_lowest places (number / 2) (omega arith) (omega (arith, pow-suc 2 places)))
    (number % 2)
    refl

pub ones_of_zero : ones 0 ≡ 0
unfolding ones
ones_of_zero = refl
