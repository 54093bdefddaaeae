-- A set that is filled with the numbers of a list.
use Rattle.std.proofs.Common.{◌≡◌, ℕ, ◌<◌, Bool, true, false, ◌&&◌, ◌||◌, List, [], ◌∷◌, fold, nat_eq, nat_lt, ◌⊎◌, inl, inr, ⊎_elim, refl, sym, ap, ◌∙◌, arith}
use Rattle.std.proofs.lemmas.Bool.{both_ways, eqb-true, eq-eqb, ltb-true, lt-ltb}
use Rattle.graph.specs.Paths.{Among}
use Rattle.graph.specs.Sets.{has, none, with_step}
use Rattle.graph.specs.SetLaws.{has_none, has_with}
use Rattle.graph.specs.declared.step_set.StepSet.{StepSet}

abbrev pub filled : StepSet → List ℕ → StepSet
filled set numbers = fold (λ set number. with_step number set) set numbers

new_or_old : (old this within : Bool) → (old || (this && within)) ≡ true → (old ≡ true) ⊎ ((this ≡ true) × (within ≡ true))
new_or_old true this within holds = inl refl
new_or_old false true within holds = inr (refl, holds)
new_or_old false false within holds = absurd (both_ways false refl holds)

-- what a number more puts into a set
module _ (set : StepSet) (number n : ℕ) where
  pub with_tells : has (with_step number set) n ≡ true → (has set n ≡ true) ⊎ ((n < 64) × (n ≡ number))
  with_tells inside =
      ⊎_elim inl (λ new. let here = eqb-true n number new.0 in inr (omega (arith, ltb-true number 64 new.1), here))
      (new_or_old (has set n) (nat_eq n number) (nat_lt number 64) (sym (has_with number set n) ∙ inside))

  with_old : has set n ≡ true → has (with_step number set) n ≡ true
  with_old inside = has_with number set n ∙ ap (λ b. b || (nat_eq n number && nat_lt number 64)) inside

  with_new : n < 64 → n ≡ number → has (with_step number set) n ≡ true
  with_new within same =
      has_with number set n ∙ rw (eq-eqb n number same, lt-ltb number 64 (omega arith)) (or_true (has set n))
    where
      or_true : (b : Bool) → (b || true) ≡ true
      or_true true = refl
      or_true false = refl

module _ (n : ℕ) where
  filled_tells : (numbers : List ℕ) (set : StepSet) → has (filled set numbers) n ≡ true → (has set n ≡ true) ⊎ ((n < 64) × Among n numbers)
  filled_tells [] set inside = inl inside
  filled_tells (number ∷ numbers) set inside =
      ⊎_elim
      (λ first. ⊎_elim inl (λ new. inr (new.0, inl new.1)) (with_tells set number n first))
      (λ later. inr (later.0, inr later.1))
      (filled_tells numbers (with_step number set) inside)

  filled_old : (numbers : List ℕ) (set : StepSet) → has set n ≡ true → has (filled set numbers) n ≡ true
  filled_old [] set inside = inside
  filled_old (number ∷ numbers) set inside = filled_old numbers (with_step number set) (with_old set number n inside)

  filled_new : (numbers : List ℕ) (set : StepSet) → n < 64 → Among n numbers → has (filled set numbers) n ≡ true
  filled_new [] set within there = absurd there
  filled_new (number ∷ numbers) set within (inl same) = filled_old numbers (with_step number set) (with_new set number n within same)
  filled_new (number ∷ numbers) set within (inr later) = filled_new numbers (with_step number set) within later

-- a set that is filled from nothing has just the numbers of the list that are below 64
pub has_filled : (numbers : List ℕ) (n : ℕ) → (has (filled none numbers) n ≡ true → (n < 64) × Among n numbers) × ((n < 64) × Among n numbers → has (filled none numbers) n ≡ true)
has_filled numbers n =
    (λ inside. ⊎_elim (λ first. absurd (both_ways (has none n) (has_none n) first)) (λ there. there) (filled_tells n numbers none inside), λ there. filled_new n numbers none there.0 there.1)
