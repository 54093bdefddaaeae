-- How many edges a graph has: one more with each that is added, and never more than 2,016.
use Rattle.std.proofs.Common.{◌≡◌, ℕ, zero, suc, ◌+◌, ◌-◌, ◌<◌, ◌≤◌, Bool, true, false, cond, ◌&&◌, ◌||◌, eqb, ltb, List, [], ◌∷◌, ◌++◌, length, get_or, set, count_by, sym, refl, ap, ◌∙◌, subst, ⊎_elim, arith}
use Rattle.std.specs.List.{range_with_len}
use Rattle.std.proofs.lemmas.List.Sums.{sum_by-cons, sum_by-set, sum_by-append, length-filter}
use Rattle.std.proofs.lemmas.Bool.{cases_eq, cases_Bool, eq-eqb, ne_eqb, lt-ltb, or_right, and_from}
use Rattle.graph.specs.Edges.{edges_in}
use Rattle.graph.specs.Graphs.{Rising, set_before}
use Rattle.graph.specs.Sets.{has, none, with_step, members}
use Rattle.graph.specs.declared.step_set.StepSet.{StepSet}
use Rattle.graph.proofs.Members.{members_none}
use Rattle.graph.specs.SetLaws.{has_none, has_with}

-- 1 where a test passes
abbrev unit : Bool → ℕ
unit passes = cond passes 1 0

count_cons : (p : ℕ → Bool) (x : ℕ) (xs : List ℕ) → count_by p (x ∷ xs) ≡ unit (p x) + count_by p xs
count_cons p x xs = sum_by-cons (λ y. unit (p y)) x xs

-- a test that passes at one number more
module _ (p q : ℕ → Bool) (u : ℕ) (same : (x : ℕ) → (x ≡ u → ⊥) → q x ≡ p x) (off : p u ≡ false) (on : q u ≡ true) where
  count_past : (a n : ℕ) → u < a → count_by q (range_with_len a n) ≡ count_by p (range_with_len a n)
  count_past a zero past = refl
  count_past a (suc n) past =
      omega (
        arith,
        count_cons p a (range_with_len (a + 1) n),
        count_cons q a (range_with_len (a + 1) n),
        ap unit (same a (λ here. omega arith)),
        count_past (a + 1) n (omega arith),
      )

  count_one_more : (a n : ℕ) → a ≤ u → u < a + n → count_by q (range_with_len a n) ≡ suc (count_by p (range_with_len a n))
  count_one_more a zero from under = absurd (omega arith)
  count_one_more a (suc n) from under =
      let with_q = count_cons q a (range_with_len (a + 1) n) in
      let with_p = count_cons p a (range_with_len (a + 1) n) in
      ⊎_elim
      (λ here. omega (arith, with_q, with_p, ap (λ x. unit (q x)) here, ap (λ x. unit (p x)) here, ap unit on, ap unit off, count_past (a + 1) n (omega arith)))
      (λ other. omega (arith, with_q, with_p, ap unit (same a other), count_one_more (a + 1) n (omega arith) (omega arith)))
      (cases_eq a u)

-- a test that passes only below a number
count_below : (p : ℕ → Bool) (bound : ℕ) → ((x : ℕ) → p x ≡ true → x < bound) → (a n : ℕ) → count_by p (range_with_len a n) ≤ bound - a
count_below p bound under a zero = omega arith
count_below p bound under a (suc n) =
    let one = count_cons p a (range_with_len (a + 1) n) in
    let rest = count_below p bound under (a + 1) n in
    ⊎_elim
    (λ yes. omega (arith, ap unit yes, under a yes))
    (λ no_pass. omega (arith, ap unit no_pass))
    (cases_Bool (p a))

len_count : (set : StepSet) → length (members set) ≡ count_by (has set) (range_with_len 0 64)
unfolding members
len_count set = length-filter (has set) (range_with_len 0 64)

or_none : (b : Bool) → (b || false) ≡ b
or_none true = refl
or_none false = refl

-- one step more in a set
pub len_with : (held : StepSet) (step : ℕ) → step < 64 → has held step ≡ false → length (members (with_step step held)) ≡ suc (length (members held))
len_with held step within outside =
    len_count (with_step step held)
    ∙ count_one_more (has held) (has (with_step step held)) step
    (λ x other. has_with step held x ∙ ap (λ here. has held x || (here && ltb step 64)) (ne_eqb x step other) ∙ or_none (has held x))
    outside
    (has_with step held step ∙ or_right (has held step) _ (and_from (eqb step step) (ltb step 64) (eq-eqb step step refl) (lt-ltb step 64 within)))
    0 64 (omega arith) (omega arith)
    ∙ ap suc (sym (len_count held))

-- a set of steps below a number
pub len_below : (held : StepSet) (bound : ℕ) → ((n : ℕ) → has held n ≡ true → n < bound) → length (members held) ≤ bound
len_below held bound under =
    let whole : bound - 0 ≡ bound = omega arith in
    subst (λ n. n ≤ bound) (sym (len_count held)) (subst (λ n. count_by (has held) (range_with_len 0 64) ≤ n) whole (count_below (has held) bound under 0 64))

pub len_none : length (members none) ≡ 0
len_none = ap length (members_none none has_none)

abbrev len : StepSet → ℕ
len held = length (members held)

-- a step more, with no predecessors
pub edges_none : (predecessors : List StepSet) → edges_in (predecessors ++ none ∷ []) ≡ edges_in predecessors
edges_none predecessors = omega (arith, sum_by-append len predecessors (none ∷ []), sum_by-cons len none [], len_none)

pub edges_with : (predecessors : List StepSet) (from to : ℕ) → to < length predecessors → from < 64 → has (set_before predecessors to) from ≡ false → edges_in (set predecessors to (with_step from (set_before predecessors to))) ≡ edges_in predecessors + 1
edges_with predecessors from to there within outside =
    omega (
      arith,
      sum_by-set len predecessors to (with_step from (set_before predecessors to)) none there,
      len_with (set_before predecessors to) from within outside,
    )

-- the sum of so many numbers in a row
abbrev row : ℕ → ℕ → ℕ
row a zero = 0
row a (suc n) = a + row (suc a) n

edges_row : (predecessors : List StepSet) (a : ℕ) → ((k : ℕ) → len (get_or predecessors k none) ≤ a + k) → edges_in predecessors ≤ row a (length predecessors)
edges_row [] a few = omega arith
edges_row (held ∷ predecessors) a few =
    omega (arith, sum_by-cons len held predecessors, few 0, edges_row predecessors (suc a) (λ k. omega (arith, few (suc k))))

row_grows : (a n m : ℕ) → n ≤ m → row a n ≤ row a m
row_grows a zero m under = omega arith
row_grows a (suc n) zero under = absurd (omega arith)
row_grows a (suc n) (suc m) under = omega (arith, row_grows (suc a) n m (omega arith))

pub edges_bound : (predecessors : List StepSet) → length predecessors ≤ 64 → Rising predecessors → edges_in predecessors ≤ 2016
edges_bound predecessors few rising =
    omega (
      arith,
      edges_row predecessors 0 (λ k. omega (arith, len_below (set_before predecessors k) k (rising k))),
      row_grows 0 (length predecessors) 64 few,
    )
