-- Sets and sums over their steps.
use Rattle.std.proofs.Common.{◌≡◌, ℕ, zero, suc, ◌+◌, ◌<◌, ◌≤◌, Bool, true, false, cond, List, ◌∷◌, length, filter, sym, refl, ap, ◌∙◌, subst, ⊎_elim, add-one, arith}
use Rattle.std.specs.List.{range_with_len}
use Rattle.std.proofs.lemmas.Bool.{both_ways, cases_Bool, cases_eq, eqb-true, eq-eqb, lt-ltb, and_parts, and_from, or_cases, or_left, or_right}
use Rattle.certificate.specs.Marking.{total, one_if}
use Rattle.certificate.proofs.Totals.{total_agree}
use Rattle.graph.specs.Sets.{has, members}
use Rattle.graph.specs.declared.step_set.StepSet.{StepSet}
use Rattle.graph.specs.SetLaws.{has_none, has_with}
use Rattle.runner.specs.Traces.{size, gathered}

-- how many pass a test, as a sum
length_kept : (p : ℕ → Bool) (a n : ℕ) → length (filter p (range_with_len a n)) ≡ total (λ x. one_if (p x)) a n
length_kept p a zero = refl
length_kept p a (suc n) = by (p a) (filter p (range_with_len (a + 1) n)) (length_kept p (a + 1) n ∙ ap (λ m. total (λ x. one_if (p x)) m n) (add-one a)) where
  by : (passes : Bool) (rest : List ℕ) → length rest ≡ total (λ x. one_if (p x)) (suc a) n → length (cond passes (a ∷ rest) rest) ≡ one_if passes + total (λ x. one_if (p x)) (suc a) n
  by true rest is = omega (arith, is)
  by false rest is = omega (arith, is)

pub size_sum : (set : StepSet) → size set ≡ total (λ x. one_if (has set x)) 0 64
unfolding members
size_sum set = length_kept (has set) 0 64

-- what stands in a gathered set
pub gathered_has : (p : ℕ → Bool) (a n x : ℕ) → has (gathered (filter p (range_with_len a n))) x ≡ true → (p x ≡ true) × (a ≤ x) × (x < a + n)
gathered_has p a zero x inside = absurd (both_ways _ (has_none x) inside)
gathered_has p a (suc n) x inside = by (gathered_has p (a + 1) n x) (p a) refl inside where
  by : (has (gathered (filter p (range_with_len (a + 1) n))) x ≡ true → (p x ≡ true) × (a + 1 ≤ x) × (x < a + 1 + n))
      → (passes : Bool) → p a ≡ passes → has (gathered (cond passes (a ∷ filter p (range_with_len (a + 1) n)) (filter p (range_with_len (a + 1) n)))) x ≡ true → (p x ≡ true) × (a ≤ x) × (x < a + suc n)
  by later true is there =
      ⊎_elim
      (λ rest. let known = later rest in (known.0, omega (arith, known.1), omega (arith, known.2)))
      (λ here. let same = eqb-true x a (and_parts _ _ here).0 in (ap p same ∙ is, omega (arith, same), omega (arith, same)))
      (or_cases _ _ (sym (has_with a (gathered (filter p (range_with_len (a + 1) n))) x) ∙ there))
  by later false is there = let known = later there in (known.0, omega (arith, known.1), omega (arith, known.2))

pub has_gathered : (p : ℕ → Bool) (a n x : ℕ) → p x ≡ true → a ≤ x → x < a + n → x < 64 → has (gathered (filter p (range_with_len a n))) x ≡ true
has_gathered p a zero x passes low high within = absurd (omega arith)
has_gathered p a (suc n) x passes low high within = by (has_gathered p (a + 1) n x passes) (p a) refl where
  by : (a + 1 ≤ x → x < a + 1 + n → x < 64 → has (gathered (filter p (range_with_len (a + 1) n))) x ≡ true)
      → (first : Bool) → p a ≡ first → has (gathered (cond first (a ∷ filter p (range_with_len (a + 1) n)) (filter p (range_with_len (a + 1) n)))) x ≡ true
  by later true is =
      has_with a (gathered (filter p (range_with_len (a + 1) n))) x
      ∙ ⊎_elim
      (λ same. or_right _ _ (and_from _ _ (eq-eqb x a same) (lt-ltb a 64 (omega (arith, same)))))
      (λ other. or_left _ _ (later (omega (arith, other)) (omega arith) within))
      (cases_eq x a)
  by later false is =
      ⊎_elim
      (λ same. absurd (both_ways (p x) (ap p same ∙ is) passes))
      (λ other. later (omega (arith, other)) (omega arith) within)
      (cases_eq x a)

-- sums that are bounded term by term
pub total_below : (f g : ℕ → ℕ) (a n : ℕ) → ((x : ℕ) → a ≤ x → x < a + n → f x ≤ g x) → total f a n ≤ total g a n
total_below f g a zero under = omega arith
total_below f g a (suc n) under = omega (arith, under a (omega arith) (omega arith), total_below f g (suc a) n (λ x low high. under x (omega arith) (omega arith)))

-- and less where one term is
pub total_less : (f g : ℕ → ℕ) (a n x : ℕ) → ((y : ℕ) → a ≤ y → y < a + n → f y ≤ g y) → a ≤ x → x < a + n → f x < g x → total f a n < total g a n
total_less f g a zero x under low high less = absurd (omega arith)
total_less f g a (suc n) x under low high less =
    ⊎_elim
    (λ same.
    let here : f a < g a = subst (λ y. f y < g y) same less in
    omega (arith, here, total_below f g (suc a) n (λ y l h. under y (omega arith) (omega arith))))
    (λ other. omega (arith, under a (omega arith) (omega arith), total_less f g (suc a) n x (λ y l h. under y (omega arith) (omega arith)) (omega (arith, other)) (omega arith) less))
    (cases_eq x a)

pub total_plus : (f g : ℕ → ℕ) (a n : ℕ) → total (λ x. f x + g x) a n ≡ total f a n + total g a n
total_plus f g a zero = refl
total_plus f g a (suc n) = omega (arith, total_plus f g (suc a) n)

pub total_zero : (a n : ℕ) → total (λ x. 0) a n ≡ 0
total_zero a zero = refl
total_zero a (suc n) = omega (arith, total_zero (suc a) n)

-- a sum up to one bound, where the terms from there on are 0
pub total_short : (f : ℕ → ℕ) (a n m : ℕ) → ((x : ℕ) → a + n ≤ x → f x ≡ 0) → total f a (n + m) ≡ total f a n
total_short f a zero m zeros =
    let none : zero + m ≡ m = omega arith in
    ap (total f a) none ∙ total_agree f (λ x. 0) a m (λ x low. zeros x (omega arith)) ∙ total_zero a m
total_short f a (suc n) m zeros =
    let more : suc n + m ≡ suc (n + m) = omega arith in
    ap (total f a) more ∙ ap (λ rest. f a + rest) (total_short f (suc a) n m (λ x low. zeros x (omega arith)))

unequal : (a b c d : ℕ) → a ≡ c → b ≡ d → c < d → a ≡ b → ⊥
unequal a b c d first second less same = omega arith

-- sets of which one is within the other and as large are the same
pub same_size_has : (one two : StepSet) → ((x : ℕ) → has one x ≡ true → has two x ≡ true) → size one ≡ size two → (x : ℕ) → x < 64 → has two x ≡ true → has one x ≡ true
same_size_has one two within same x small inside =
    ⊎_elim
    (λ there. there)
    (λ lacks.
    let less = total_less (λ y. one_if (has one y)) (λ y. one_if (has two y)) 0 64 x
    (λ y low high. below (has one y) (has two y) (within y)) (omega arith) (omega arith)
    (omega (arith, ap one_if lacks, ap one_if inside)) in
    absurd (unequal (size one) (size two) _ _ (size_sum one) (size_sum two) less same))
    (cases_Bool (has one x)) where
      below : (a b : Bool) → (a ≡ true → b ≡ true) → one_if a ≤ one_if b
      below true b implies = omega (arith, ap one_if (implies refl))
      below false b implies = omega arith

pub size_some : (set : StepSet) (x : ℕ) → x < 64 → has set x ≡ true → 1 ≤ size set
size_some set x small inside =
    let less = total_less (λ y. 0) (λ y. one_if (has set y)) 0 64 x (λ y low high. omega arith) (omega arith) (omega arith) (omega (arith, ap one_if inside)) in
    above _ _ (size set) (total_zero 0 64) (size_sum set) less where
      above : (a b n : ℕ) → a ≡ 0 → n ≡ b → a < b → 1 ≤ n
      above a b n zeros is less = omega arith
