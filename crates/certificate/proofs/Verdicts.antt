-- What the least yield decides.
use Rattle.std.proofs.Common.{◌≡◌, ℕ, zero, suc, ◌+◌, ◌<◌, ◌≤◌, leb, List, Some, None, MatchOption, Option, slice_index, sym, refl, ap, ◌∙◌, ⊎_elim, arith}
use mathlib.Core.Path.{fun_ext}
use Rattle.std.proofs.lemmas.Bool.{cases_eq, cases_lt, le-leb, lt-leb, cond-true, cond-false}
use Rattle.certificate.specs.Allowance.{allowance}
use Rattle.certificate.specs.Marking.{ticks, offered, least, least_yield, LeastYield, Passes, Fails, first_enough, least_ceiling, Smallest, LeastCeiling}
use Rattle.certificate.proofs.Heights.{reaching, stacked}
use Rattle.certificate.specs.declared.marking_test.MarkingTest.{MarkingTest}
use Rattle.certificate.proofs.Choosing.{least_bounds, least_reached}
use Rattle.certificate.proofs.Stacking.{stacked_is_least, stacked_rises}

module _ (width : ℕ → ℕ) (test : MarkingTest) where
  -- the least yield as the sum of the levels
  by_levels : (ceiling : ℕ) → stacked (reaching width test.first (ticks test)) (allowance test.length) ceiling ≡ least_yield width test ceiling
  by_levels ceiling = stacked_is_least width (allowance test.length) ceiling test.first (ticks test)

  pub least_rises : (lower ceiling : ℕ) → lower ≤ ceiling → least_yield width test lower ≤ least_yield width test ceiling
  least_rises lower ceiling le =
      omega (arith, by_levels lower, by_levels ceiling, stacked_rises (reaching width test.first (ticks test)) (allowance test.length) lower ceiling le)

  -- under a ceiling of at least 64 every width is offered whole
  pub least_capped : ((tick : ℕ) → width tick ≤ 64) → (ceiling : ℕ) → 64 ≤ ceiling → least_yield width test ceiling ≡ least_yield width test 64
  least_capped narrow ceiling wide =
      let same : offered width ceiling ≡ offered width 64 = fun_ext (λ tick. omega (arith, narrow tick)) in
      ap (λ offer. least offer (allowance test.length) test.first (ticks test)) same

  pub least_is_least : ((tick : ℕ) → width tick ≤ 64) → (ceiling : ℕ) → LeastYield width test ceiling (least_yield width test ceiling)
  least_is_least narrow ceiling = record {
    bounds = λ marking allowed. least_bounds (offered width ceiling) marking (allowance test.length) test.first (ticks test) allowed;
    reached = least_reached (offered width ceiling) (allowance test.length) test.first (ticks test);
    under_0 = λ none. ap (least_yield width test) none ∙ sym (by_levels 0);
    above_64 = least_capped narrow ceiling;
    rises = λ lower le. least_rises lower ceiling le;
  }

  module _ (ceiling work : ℕ) where
    pub passes_from : work ≤ least_yield width test ceiling → Passes width test ceiling work
    passes_from enough marking allowed =
        omega (arith, enough, least_bounds (offered width ceiling) marking (allowance test.length) test.first (ticks test) allowed)

    pub fails_from : least_yield width test ceiling < work → Fails width test ceiling work
    fails_from less =
        let worst = least_reached (offered width ceiling) (allowance test.length) test.first (ticks test) in
        (worst.0, worst.1, omega (arith, worst.2, less))

  smallest_from : (work ceiling : ℕ) → 1 ≤ ceiling → ceiling ≤ 64 → work ≤ least_yield width test ceiling → ((lower : ℕ) → 1 ≤ lower → lower < ceiling → least_yield width test lower < work) → Smallest width test work ceiling
  smallest_from work ceiling one most enough smaller = record {
    at_least_one = one;
    at_most_64 = most;
    passes = passes_from ceiling work enough;
    widest_passes = passes_from 64 work (omega (arith, least_rises ceiling 64 most));
    smaller_fail = λ lower from under. fails_from lower work (smaller lower from under);
    zero_fails = λ some. fails_from 0 work (omega (arith, by_levels 0));
  }

-- what a search finds among the ceilings from one to before another: the first that is enough, or none
abbrev Finds : (ℕ → ℕ) → ℕ → ℕ → ℕ → Option ℕ → Type 0
Finds yields work from end found =
    MatchOption found
    ((k : ℕ) → from ≤ k → k < end → yields k < work)
    (λ i. (from ≤ i) × (i < end) × (work ≤ yields i) × ((k : ℕ) → from ≤ k → k < i → yields k < work))

module _ (yields : ℕ → ℕ) (work : ℕ) where
  not_here : (from count : ℕ) (found : Option ℕ) → yields from < work → Finds yields work from (from + suc count) found → Finds yields work (suc from) (suc from + count) found
  not_here from count None less none = λ k after under. none k (omega arith) (omega arith)
  not_here from count (Some i) less some =
      ⊎_elim
      (λ same. absurd (omega (arith, some.2, ap yields same)))
      (λ other. (omega (arith, some.0, other), omega (arith, some.1), some.2, λ k after under. some.3 k (omega arith) under))
      (cases_eq i from)

  here : (from count : ℕ) (found : Option ℕ) → work ≤ yields from → Finds yields work from (from + suc count) found → found ≡ Some from
  here from count None enough none = absurd (omega (arith, none from (omega arith) (omega arith)))
  here from count (Some i) enough some =
      ap Some (⊎_elim
      (λ before. absurd (omega (arith, some.3 from (omega arith) before)))
      (λ not_before. omega (arith, some.0))
      (cases_lt from i))

  first_is : (from count : ℕ) (found : Option ℕ) → Finds yields work from (from + count) found → found ≡ first_enough yields work from count
  unfolding first_enough
  first_is from zero None none = refl
  first_is from zero (Some i) some = absurd (omega (arith, some.0, some.1))
  first_is from (suc count) found is =
      ⊎_elim
      (λ less. first_is (suc from) count found (not_here from count found less is) ∙ sym (cond-false (leb work (yields from)) _ _ (lt-leb work (yields from) less)))
      (λ enough. here from count found enough is ∙ sym (cond-true (leb work (yields from)) _ _ (le-leb work (yields from) enough)))
      (cases_lt (yields from) work)

-- what a search of a list of the least yields finds is the least ceiling
module _ (width : ℕ → ℕ) (test : MarkingTest) (yields : List ℕ) (known : (ceiling : ℕ) → ceiling ≤ 64 → slice_index yields ceiling ≡ least_yield width test ceiling) (work : ℕ) where
  pub found_is_least : (found : Option ℕ) → Finds (slice_index yields) work 1 65 found → (found ≡ least_ceiling width test work) × LeastCeiling width test work found
  found_is_least None none =
      let less : (k : ℕ) → 1 ≤ k → k < 65 → least_yield width test k < work = λ k from under. omega (arith, known k (omega arith), none k from under) in
      (first_is (least_yield width test) work 1 64 None less, fails_from width test 64 work (less 64 (omega arith) (omega arith)))
  found_is_least (Some ceiling) some =
      let less : (k : ℕ) → 1 ≤ k → k < ceiling → least_yield width test k < work = λ k from under. omega (arith, known k (omega (arith, some.1)), some.3 k from under) in
      let enough : work ≤ least_yield width test ceiling = omega (arith, known ceiling (omega (arith, some.1)), some.2) in
      (first_is (least_yield width test) work 1 64 (Some ceiling) (some.0, some.1, enough, less), smallest_from width test work ceiling some.0 (omega (arith, some.1)) enough less)
