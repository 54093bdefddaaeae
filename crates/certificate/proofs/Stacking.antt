-- The least yield is the sum of the levels.
use Rattle.std.proofs.Common.{◌≡◌, ℕ, zero, suc, ◌+◌, ◌-◌, ◌<◌, ◌≤◌, min, leb, ◌⊎◌, refl, ap, inl, inr, ⊎_elim, add-one, arith}
use native.Mathlib.Decide.{le_ind}
use Rattle.std.proofs.lemmas.Bool.{cases_lt}
use Rattle.std.proofs.lemmas.Bool.Decides.{leb_tells}
use Rattle.certificate.specs.Marking.{one_if, offered, least}
use Rattle.certificate.proofs.Heights.{reaching, stacked}
use Rattle.certificate.proofs.Totals.{total_le}

-- a tick of this width counts at a level or does not
counts_at : (level width : ℕ) → ((one_if (leb level width) ≡ 1) × (level ≤ width)) ⊎ ((one_if (leb level width) ≡ 0) × (width < level))
counts_at level width =
    ⊎_elim
    (λ reached. inl (ap one_if reached.0, reached.1))
    (λ missed. inr (ap one_if missed.0, missed.1))
    (leb_tells level width)

-- the levels with one tick more, of this width
abbrev raised : ℕ → (ℕ → ℕ) → ℕ → ℕ
raised width level j = one_if (leb j width) + level j

stacked_none : (allowed ceiling : ℕ) → stacked (λ _. 0) allowed ceiling ≡ 0
stacked_none allowed zero = refl
stacked_none allowed (suc zero) = refl
stacked_none allowed (suc (suc ceiling)) = omega (arith, stacked_none allowed (suc ceiling))

module _ (width : ℕ) (level : ℕ → ℕ) where
  -- one tick more adds at most 1 where it may be marked
  raised_marked : (allowed ceiling : ℕ) → stacked (raised width level) (suc allowed) ceiling ≤ 1 + stacked level allowed ceiling
  raised_marked allowed zero = omega arith
  raised_marked allowed (suc zero) = omega (arith, counts_at 1 width)
  raised_marked allowed (suc (suc ceiling)) =
      omega (arith, counts_at (suc (suc ceiling)) width, raised_marked allowed (suc ceiling))

  -- and at most its offer where it is not
  raised_unmarked : (allowed ceiling : ℕ) → stacked (raised width level) allowed ceiling ≤ min ceiling width + stacked level allowed ceiling
  raised_unmarked allowed zero = omega arith
  raised_unmarked allowed (suc zero) = omega (arith, counts_at 1 width)
  raised_unmarked allowed (suc (suc ceiling)) =
      omega (arith, counts_at (suc (suc ceiling)) width, raised_unmarked allowed (suc ceiling))

  -- it adds 1 where each level above it has fewer ticks than may be marked
  marked_raises : (allowed ceiling : ℕ) → 1 ≤ width → 1 ≤ ceiling → ((j : ℕ) → width < j → j ≤ ceiling → level j ≤ allowed) → 1 + stacked level allowed ceiling ≤ stacked (raised width level) (suc allowed) ceiling
  marked_raises allowed zero some cores few = absurd (omega arith)
  marked_raises allowed (suc zero) some cores few = omega (arith, counts_at 1 width)
  marked_raises allowed (suc (suc ceiling)) some cores few =
      let below = marked_raises allowed (suc ceiling) some (omega arith) (λ j over under. few j over (omega arith)) in
      ⊎_elim
      (λ in_width. omega arith)
      (λ over. omega (arith, few (suc (suc ceiling)) over.1 (omega arith)))
      (counts_at (suc (suc ceiling)) width)

  -- it adds its offer where each level up to it has as many ticks as may be marked
  unmarked_raises : (allowed ceiling : ℕ) → ((j : ℕ) → 2 ≤ j → j ≤ width → j ≤ ceiling → allowed ≤ level j) → min ceiling width + stacked level allowed ceiling ≤ stacked (raised width level) allowed ceiling
  unmarked_raises allowed zero many = omega arith
  unmarked_raises allowed (suc zero) many = omega (arith, counts_at 1 width)
  unmarked_raises allowed (suc (suc ceiling)) many =
      let below = unmarked_raises allowed (suc ceiling) (λ j from in_width under. many j from in_width (omega arith)) in
      ⊎_elim
      (λ in_width. omega (arith, many (suc (suc ceiling)) (omega arith) in_width.1 (omega arith)))
      (λ over. omega arith)
      (counts_at (suc (suc ceiling)) width)

  -- the better of the two choices, where no level has more ticks than a lower one
  raised_least : ((i j : ℕ) → i ≤ j → level j ≤ level i) → (allowed ceiling : ℕ) → stacked (raised width level) (suc allowed) ceiling ≡ min (1 + stacked level allowed ceiling) (min ceiling width + stacked level (suc allowed) ceiling)
  raised_least falls allowed ceiling =
      let marked = raised_marked allowed ceiling in
      let unmarked = raised_unmarked (suc allowed) ceiling in
      ⊎_elim
      (λ none. omega (arith, unmarked_raises (suc allowed) ceiling (λ j from in_width under. absurd (omega arith))))
      (λ some.
      ⊎_elim
      (λ few. omega (arith, marked_raises allowed ceiling (omega arith) (omega arith) (λ j over under. omega (arith, falls (min ceiling width) j (omega arith)))))
      (λ many. omega (arith, unmarked_raises (suc allowed) ceiling (λ j from in_width under. omega (arith, falls j (min ceiling width) (omega arith)))))
      (cases_lt (level (min ceiling width)) (suc allowed)))
      (cases_lt (min ceiling width) 1)

module _ (width : ℕ → ℕ) where
  reaching_falls : (first count i j : ℕ) → i ≤ j → reaching width first count j ≤ reaching width first count i
  reaching_falls first count i j le =
      total_le _ _ first count (λ tick. omega (arith, counts_at i (width tick), counts_at j (width tick)))

  pub stacked_is_least : (allowed ceiling first count : ℕ) → stacked (reaching width first count) allowed ceiling ≡ least (offered width ceiling) allowed first count
  unfolding least
  stacked_is_least allowed ceiling first zero = stacked_none allowed ceiling
  stacked_is_least zero ceiling first (suc count) =
      let level = reaching width (suc first) count in
      omega (
        arith,
        stacked_is_least zero ceiling (suc first) count,
        raised_unmarked (width first) level zero ceiling,
        unmarked_raises (width first) level zero ceiling (λ j from in_width under. omega arith),
      )
  stacked_is_least (suc allowed) ceiling first (suc count) =
      let level = reaching width (suc first) count in
      omega (
        arith,
        stacked_is_least allowed ceiling (suc first) count,
        stacked_is_least (suc allowed) ceiling (suc first) count,
        raised_least (width first) level (reaching_falls (suc first) count) allowed ceiling,
      )

-- one level more
pub stacked_next : (level : ℕ → ℕ) (allowed ceiling : ℕ) → 1 ≤ ceiling → stacked level allowed (ceiling + 1) ≡ stacked level allowed ceiling + (level (ceiling + 1) - allowed)
stacked_next level allowed zero some = absurd (omega arith)
stacked_next level allowed (suc ceiling) some = rw add-one refl

-- the sum of the levels does not fall as the ceiling rises
stacked_more : (level : ℕ → ℕ) (allowed ceiling : ℕ) → stacked level allowed ceiling ≤ stacked level allowed (suc ceiling)
stacked_more level allowed zero = omega arith
stacked_more level allowed (suc ceiling) = omega arith

pub stacked_rises : (level : ℕ → ℕ) (allowed lower ceiling : ℕ) → lower ≤ ceiling → stacked level allowed lower ≤ stacked level allowed ceiling
stacked_rises level allowed lower ceiling =
    le_ind (λ higher. stacked level allowed lower ≤ stacked level allowed higher) (omega arith) (λ higher _ so_far. omega (arith, stacked_more level allowed higher)) ceiling
