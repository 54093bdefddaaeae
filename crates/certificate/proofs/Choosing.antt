-- The least yield by choice is the smallest yield of a marking.
use Rattle.std.proofs.Common.{◌≡◌, ℕ, zero, suc, ◌+◌, ◌≤◌, Bool, true, false, cond, eqb, refl, ap, ⊎_elim, arith}
use Rattle.std.proofs.lemmas.Bool.{cases_lt, eq-eqb, ne_eqb, cond-true, cond-false}
use Rattle.certificate.specs.Marking.{one_if, total, Marking, least}
use Rattle.certificate.proofs.Totals.{total_agree}

-- what a tick counts towards the marks, and what it yields
abbrev pub mark_of : Marking → ℕ → ℕ
mark_of marking tick = one_if (marking tick)

abbrev pub yield_of : (ℕ → ℕ) → Marking → ℕ → ℕ
yield_of offer marking tick = cond (marking tick) 1 (offer tick)

-- a marking with another choice at one tick
abbrev chosen : ℕ → Bool → Marking → Marking
chosen at choice marking tick = cond (eqb tick at) choice (marking tick)

chosen_here : (at : ℕ) (choice : Bool) (marking : Marking) → chosen at choice marking at ≡ choice
chosen_here at choice marking = cond-true (eqb at at) _ _ (eq-eqb at at refl)

chosen_later : (at : ℕ) (choice : Bool) (marking : Marking) (tick : ℕ) → suc at ≤ tick → chosen at choice marking tick ≡ marking tick
chosen_later at choice marking tick later = cond-false (eqb tick at) _ _ (ne_eqb tick at (λ same. omega arith))

module _ (offer : ℕ → ℕ) where
  -- a marking with this choice at the first tick, by what it marks and yields after that
  with_first : (choice : Bool) (marking : Marking) (first count : ℕ) → (total (mark_of (chosen first choice marking)) first (suc count) ≡ one_if choice + total (mark_of marking) (suc first) count) × (total (yield_of offer (chosen first choice marking)) first (suc count) ≡ cond choice 1 (offer first) + total (yield_of offer marking) (suc first) count)
  with_first choice marking first count =
      let here = chosen_here first choice marking in
      let later = chosen_later first choice marking in
      let marks = total_agree (mark_of (chosen first choice marking)) (mark_of marking) (suc first) count (λ tick later_tick. ap one_if (later tick later_tick)) in
      let yields = total_agree (yield_of offer (chosen first choice marking)) (yield_of offer marking) (suc first) count (λ tick later_tick. ap (λ b. cond b 1 (offer tick)) (later tick later_tick)) in (
        omega (arith, marks, ap one_if here),
        omega (arith, yields, ap {B = ℕ} (λ b. cond b 1 (offer first)) here),
      )

  -- the first tick, marked or not, where the rest is bounded
  bounds_first : (choice : Bool) (allowed first count marks yields : ℕ) → ((few : ℕ) → marks ≤ few → least offer few (suc first) count ≤ yields) → one_if choice + marks ≤ allowed → least offer allowed first (suc count) ≤ cond choice 1 (offer first) + yields
  unfolding least
  bounds_first true zero first count marks yields rest few = absurd (omega arith)
  bounds_first true (suc allowed) first count marks yields rest few = omega (arith, rest allowed (omega arith))
  bounds_first false zero first count marks yields rest few = omega (arith, rest zero (omega arith))
  bounds_first false (suc allowed) first count marks yields rest few = omega (arith, rest (suc allowed) (omega arith))

  -- no marking yields less
  pub least_bounds : (marking : Marking) (allowed first count : ℕ) → total (mark_of marking) first count ≤ allowed → least offer allowed first count ≤ total (yield_of offer marking) first count
  unfolding least
  least_bounds marking allowed first zero few = omega arith
  least_bounds marking allowed first (suc count) few =
      bounds_first (marking first) allowed first count _ _ (λ fewer. least_bounds marking fewer (suc first) count) few

  -- a marking that yields the least
  abbrev pub Reached : ℕ → ℕ → ℕ → Type 0
  Reached allowed first count =
      (marking : Marking) × (total (mark_of marking) first count ≤ allowed) × (total (yield_of offer marking) first count ≡ least offer allowed first count)

  pub least_reached : (allowed first count : ℕ) → Reached allowed first count
  unfolding least
  least_reached allowed first zero = (λ _. false, omega arith, refl)
  least_reached zero first (suc count) =
      let rest = least_reached zero (suc first) count in
      let sums = with_first false rest.0 first count in
      (chosen first false rest.0, omega (arith, sums.0, rest.1), omega (arith, sums.1, rest.2))
  least_reached (suc allowed) first (suc count) =
      let marked = least_reached allowed (suc first) count in
      let unmarked = least_reached (suc allowed) (suc first) count in
      let sums_marked = with_first true marked.0 first count in
      let sums_unmarked = with_first false unmarked.0 first count in
      ⊎_elim
      (λ less. (chosen first true marked.0, omega (arith, sums_marked.0, marked.1), omega (arith, sums_marked.1, marked.2)))
      (λ more. (chosen first false unmarked.0, omega (arith, sums_unmarked.0, unmarked.1), omega (arith, sums_unmarked.1, unmarked.2)))
      (cases_lt (1 + least offer allowed (suc first) count) (offer first + least offer (suc allowed) (suc first) count))
