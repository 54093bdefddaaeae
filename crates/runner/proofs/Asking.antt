-- A policy that keeps its laws picks as many different steps of a set as it is asked for.
use Rattle.std.proofs.Common.{◌≡◌, ℕ, zero, suc, ◌+◌, ◌<◌, ◌≤◌, Bool, true, false, not, ◌&&◌, ◌||◌, ltb, List, [], ◌∷◌, length, sym, refl, ap, ◌∙◌, subst, inl, ⊎_elim, arith}
use Rattle.std.proofs.lemmas.Bool.{both_ways, cases_Bool, cases_eq, eqb-true, eq-eqb, ne_eqb, lt-ltb, and_parts, and_from, or_cases, or_right}
use Rattle.certificate.specs.Marking.{total, one_if}
use Rattle.certificate.proofs.Totals.{total_agree}
use Rattle.graph.specs.Sets.{has, none, members, with_step, without_step}
use Rattle.graph.specs.Paths.{Among}
use Rattle.graph.specs.declared.step_set.StepSet.{StepSet}
use Rattle.graph.proofs.Members.{members_none}
use Rattle.graph.proofs.Order.{member_has}
use Rattle.graph.specs.SetLaws.{has_none, has_with, has_without}
use Rattle.runner.specs.Asks.{asks}
use Rattle.runner.specs.Traces.{size}
use Rattle.runner.proofs.Counts.{size_sum}

-- two sums that differ by one in one place
total_bump : (f g : ℕ → ℕ) (a n x : ℕ) → a ≤ x → x < a + n → g x ≡ f x + 1 → ((y : ℕ) → (y ≡ x → ⊥) → g y ≡ f y) → total g a n ≡ total f a n + 1
total_bump f g a zero x low high more same = absurd (omega arith)
total_bump f g a (suc n) x low high more same =
    ⊎_elim
    (λ here.
    let at : g a ≡ f a + 1 = subst (λ y. g y ≡ f y + 1) here more in
    omega (arith, at, total_agree g f (suc a) n (λ y above. same y (λ is. omega (arith, is, here)))))
    (λ other. omega (arith, same a (λ is. other (sym is)), total_bump f g (suc a) n x (omega (arith, other)) (omega arith) more same))
    (cases_eq x a)

sizes : (m n a b : ℕ) → m ≡ a → n ≡ b → a ≡ b + 1 → m ≡ n + 1
sizes m n a b first second bump = omega arith

and_no : (b : Bool) → (b && false) ≡ false
and_no true = refl
and_no false = refl

empty_size : (set : StepSet) → ((n : ℕ) → has set n ≡ false) → size set ≡ 0
empty_size set lacks = ap length (members_none set lacks)

-- a set with one step more, and with one less
module _ (set : StepSet) (step : ℕ) (small : step < 64) where
  pub size_with : has set step ≡ false → size (with_step step set) ≡ size set + 1
  size_with lacks =
      sizes (size (with_step step set)) (size set) _ _ (size_sum (with_step step set)) (size_sum set)
      (total_bump (λ x. one_if (has set x)) (λ x. one_if (has (with_step step set) x)) 0 64 step (omega arith) (omega arith)
      (omega (arith, ap one_if (has_with step set step ∙ or_right _ _ (and_from _ _ (eq-eqb step step refl) (lt-ltb step 64 small))), ap one_if lacks))
      (λ y other. ap one_if (has_with step set y ∙ ap (λ b. has set y || (b && ltb step 64)) (ne_eqb y step other) ∙ or_no (has set y)))) where
        or_no : (b : Bool) → (b || false) ≡ b
        or_no true = refl
        or_no false = refl

  pub size_without : has set step ≡ true → size set ≡ size (without_step step set) + 1
  size_without inside =
      sizes (size set) (size (without_step step set)) _ _ (size_sum set) (size_sum (without_step step set))
      (total_bump (λ x. one_if (has (without_step step set) x)) (λ x. one_if (has set x)) 0 64 step (omega arith) (omega arith)
      (omega (arith, ap one_if (has_without step set step ∙ ap (λ b. has set step && not b) (eq-eqb step step refl) ∙ and_no (has set step)), ap one_if inside))
      (λ y other. sym (ap one_if (has_without step set y ∙ ap (λ b. has set y && not b) (ne_eqb y step other) ∙ and_yes (has set y))))) where
        and_yes : (b : Bool) → (b && true) ≡ b
        and_yes true = refl
        and_yes false = refl

-- a set that is not empty has a step
pub some_step : (set : StepSet) → 1 ≤ size set → (step : ℕ) × (step < 64) × (has set step ≡ true)
some_step set some = by (members set) refl some where
  by : (steps : List ℕ) → members set ≡ steps → 1 ≤ length steps → (step : ℕ) × (step < 64) × (has set step ≡ true)
  by [] is enough = absurd (omega arith)
  by (step ∷ steps) is enough = let known = member_has set step (subst (Among step) (sym is) (inl refl)) in (step, known.1, known.0)

module _ {P : Type 0} (picked : P → StepSet → ℕ) (moved : P → StepSet → P)
    (inside : (state : P) (set : StepSet) (n : ℕ) → n < 64 → has set n ≡ true → (has set (picked state set) ≡ true) × (picked state set < 64)) where
  pub asks_inside : (count : ℕ) (state : P) (left : StepSet) → count ≤ size left → (step : ℕ) → has (asks picked moved count state left).0 step ≡ true → has left step ≡ true
  asks_inside zero state left enough step there = absurd (both_ways _ (has_none step) there)
  asks_inside (suc count) state left enough step there =
      let some = some_step left (omega arith) in
      let pick = inside state left some.0 some.1 some.2 in
      let fewer = size_without left (picked state left) pick.1 pick.0 in
      ⊎_elim
      (λ later.
      let rest = asks_inside count (moved state left) (without_step (picked state left) left) (omega arith) step later in
      (and_parts _ _ (sym (has_without (picked state left) left step) ∙ rest)).0)
      (λ here. ap (has left) (eqb-true step (picked state left) (and_parts _ _ here).0) ∙ pick.0)
      (or_cases _ _ (sym (has_with (picked state left) _ step) ∙ there))

  pub asks_size : (count : ℕ) (state : P) (left : StepSet) → count ≤ size left → size (asks picked moved count state left).0 ≡ count
  asks_size zero state left enough = empty_size none has_none
  asks_size (suc count) state left enough =
      let some = some_step left (omega arith) in
      let pick = inside state left some.0 some.1 some.2 in
      let step = picked state left in
      let fewer = size_without left step pick.1 pick.0 in
      let rest = (asks picked moved count (moved state left) (without_step step left)).0 in
      let gone : has (without_step step left) step ≡ false = has_without step left step ∙ ap (λ b. has left step && not b) (eq-eqb step step refl) ∙ and_no (has left step) in
      let absent : has rest step ≡ false =
      ⊎_elim
      (λ there. absurd (both_ways _ gone (asks_inside count (moved state left) (without_step step left) (omega arith) step there)))
      (λ lacks. lacks)
      (cases_Bool (has rest step)) in
      omega (arith, size_with rest step pick.1 absent, asks_size count (moved state left) (without_step step left) (omega arith))
