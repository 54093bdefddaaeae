-- Lists in rising order, of which a set's steps are one.
use Rattle.std.specs.Prelude.{◌≡◌, ℕ, zero, suc, ◌+◌, ◌<◌, ◌≤◌, Bool, true, false, cond, ◌⊎◌, List, [], ◌∷◌, ◌++◌, length, filter, refl}
use Rattle.std.proofs.Common.{sym, ap, ◌∙◌, inl, inr, ⊎_elim}
use mathlib.Core.List.Memᴰ
use mathlib.Core.List.{Memᴰ}
use native.Mathlib.Omega.{arith}
use Rattle.std.proofs.lemmas.Bool.{both_ways}
use Rattle.std.specs.List.{range_with_len}
use Rattle.graph.specs.Sets.{has, without_step, members, Least}
use Rattle.graph.specs.declared.step_set.StepSet.{StepSet}
use Rattle.graph.proofs.Members.{members_next}
use Rattle.dispatch.specs.Picks.{first_or}

-- each number is at least `low` and above the one before it
unfoldable pub Rising : ℕ → List ℕ → Type 0
Rising low [] = Unit {0}
Rising low (n ∷ ns) = (low ≤ n) × Rising (n + 1) ns

pub lower : (low high : ℕ) (ns : List ℕ) → low ≤ high → Rising high ns → Rising low ns
unfolding Rising
lower low high [] le rising = tt
lower low high (n ∷ ns) le rising = (omega (arith, rising.0), rising.1)

module _ (test : ℕ → Bool) where
  rising_if : (passes : Bool) (low n : ℕ) (ns : List ℕ) → low ≤ n → Rising (n + 1) ns → Rising low (cond passes (n ∷ ns) ns)
  unfolding Rising
  rising_if true low n ns le rising = (le, rising)
  rising_if false low n ns le rising = lower low (n + 1) ns (omega arith) rising

  pub rising_kept : (low : ℕ) (ns : List ℕ) → Rising low ns → Rising low (filter test ns)
  unfolding Rising
  rising_kept low [] rising = tt
  rising_kept low (n ∷ ns) rising =
      rising_if (test n) low n (filter test ns) rising.0 (rising_kept (n + 1) ns rising.1)

  -- what a test keeps is what passes it
  mem_if : (passes : Bool) (m n : ℕ) (ns : List ℕ) → test n ≡ passes → (Memᴰ m ns → test m ≡ true) → Memᴰ m (cond passes (n ∷ ns) ns) → test m ≡ true
  mem_if true m n ns is later inside = ⊎_elim (λ here. ap test here ∙ is) later (Memᴰ.cases_cons inside)
  mem_if false m n ns is later inside = later inside

  pub kept_passes : (m : ℕ) (ns : List ℕ) → Memᴰ m (filter test ns) → test m ≡ true
  kept_passes m [] inside = absurd (Memᴰ.not-nil inside)
  kept_passes m (n ∷ ns) inside = mem_if (test n) m n (filter test ns) refl (kept_passes m ns) inside

  sub_if : (passes : Bool) (m n : ℕ) (ks ns : List ℕ) → (Memᴰ m ks → Memᴰ m ns) → Memᴰ m (cond passes (n ∷ ks) ks) → Memᴰ m (n ∷ ns)
  sub_if true m n ks ns later inside =
      ⊎_elim (λ here. Memᴰ.head here) (λ there. Memᴰ.tail (later there)) (Memᴰ.cases_cons inside)
  sub_if false m n ks ns later inside = Memᴰ.tail (later inside)

  pub kept_inside : (m : ℕ) (ns : List ℕ) → Memᴰ m (filter test ns) → Memᴰ m ns
  kept_inside m [] inside = inside
  kept_inside m (n ∷ ns) inside = sub_if (test n) m n (filter test ns) ns (kept_inside m ns) inside

  keep_head : (passes : Bool) (m n : ℕ) (ns : List ℕ) → passes ≡ true → m ≡ n → Memᴰ m (cond passes (n ∷ ns) ns)
  keep_head true m n ns is here = Memᴰ.head here
  keep_head false m n ns is here = absurd (both_ways false refl is)

  keep_tail : (passes : Bool) (m n : ℕ) (ns : List ℕ) → Memᴰ m ns → Memᴰ m (cond passes (n ∷ ns) ns)
  keep_tail true m n ns there = Memᴰ.tail there
  keep_tail false m n ns there = there

  pub passes_kept : (m : ℕ) (ns : List ℕ) → Memᴰ m ns → test m ≡ true → Memᴰ m (filter test ns)
  passes_kept m [] inside passes = inside
  passes_kept m (n ∷ ns) inside passes =
      ⊎_elim (λ here. keep_head (test n) m n (filter test ns) (ap test (sym here) ∙ passes) here)
      (λ there. keep_tail (test n) m n (filter test ns) (passes_kept m ns there passes))
      (Memᴰ.cases_cons inside)

rising_counting : (from count : ℕ) → Rising from (range_with_len from count)
unfolding Rising
rising_counting from zero = tt
rising_counting from (suc count) = (omega arith, rising_counting (from + 1) count)

pub rising_members : (set : StepSet) → Rising 0 (members set)
unfolding members
rising_members set = rising_kept (has set) 0 (range_with_len 0 64) (rising_counting 0 64)

pub above : (low n : ℕ) (ns : List ℕ) → Rising low ns → Memᴰ n ns → low ≤ n
unfolding Rising
above low n [] rising inside = absurd (Memᴰ.not-nil inside)
above low n (m ∷ ns) rising inside =
    ⊎_elim (λ here. omega (arith, rising.0)) (λ there. omega (arith, rising.0, above (m + 1) n ns rising.1 there)) (Memᴰ.cases_cons inside)

-- the first is in the list, and the least
module _ (default n : ℕ) where
  pub first_in : (ns : List ℕ) → Memᴰ n ns → Memᴰ (first_or default ns) ns
  first_in [] inside = absurd (Memᴰ.not-nil inside)
  first_in (m ∷ ns) inside = Memᴰ.head refl

  pub first_least : (low : ℕ) (ns : List ℕ) → Rising low ns → Memᴰ n ns → first_or default ns ≤ n
  unfolding Rising
  first_least low [] rising inside = absurd (Memᴰ.not-nil inside)
  first_least low (m ∷ ns) rising inside = above m n (m ∷ ns) (omega arith, rising.1) inside

  pub first_append : (ns ms : List ℕ) → Memᴰ n ns → first_or default (ns ++ ms) ≡ first_or default ns
  first_append [] ms inside = absurd (Memᴰ.not-nil inside)
  first_append (m ∷ ns) ms inside = refl

pub first_same : (n default other : ℕ) (ns : List ℕ) → Memᴰ n ns → first_or default ns ≡ first_or other ns
first_same n default other [] inside = absurd (Memᴰ.not-nil inside)
first_same n default other (m ∷ ns) inside = refl

pub empty_or_not : (ns : List ℕ) → (ns ≡ []) ⊎ ((n : ℕ) × Memᴰ n ns)
empty_or_not [] = inl refl
empty_or_not (n ∷ ns) = inr (n, Memᴰ.head refl)

pub no_elements : (ns : List ℕ) → ((n : ℕ) → Memᴰ n ns → ⊥) → ns ≡ []
no_elements [] none = refl
no_elements (n ∷ ns) none = absurd (none n (Memᴰ.head refl))

-- without its least step a set has fewer
pub fewer : (set less : StepSet) (step : ℕ) → Least set step → step < 64 → less ≡ without_step step set → length (members less) < length (members set)
fewer set less step least within is =
    let shorter = ap (λ (s : StepSet). length (members s)) is in
    let next = ap length (members_next set step least within) in
    omega arith
