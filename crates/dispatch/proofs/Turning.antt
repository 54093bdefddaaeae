-- The first step above the last pick.
use Rattle.std.proofs.Common.{◌≡◌, ℕ, ◌+◌, ◌^◌, ◌<◌, ◌≤◌, Bool, true, false, List, [], ◌∷◌, Some, None, Option, nat_lt, refl, subst, inl, inr, ⊎_elim, arith, MatchOption}
use mathlib.Core.List.Memᴰ
use mathlib.Core.List.{Memᴰ}
use Rattle.std.specs.List.{find}
use Rattle.std.specs.Option.{option_or}
use Rattle.std.proofs.lemmas.Bool.{both_ways, cases_Bool, ltb-true, lt-ltb}
use Rattle.graph.specs.Sets.{has, members, Least}
use Rattle.graph.specs.SetLaws.{has_below}
use Rattle.graph.specs.declared.step_set.StepSet.{StepSet}
use Rattle.graph.proofs.Members.{members_has, has_members}
use Rattle.dispatch.specs.Picks.{LeastAbove, NoneAbove, NextAfter}
use Rattle.dispatch.specs.Right.{lacks_from}
use Rattle.dispatch.specs.Rising.{Rising, rising_members, above}

-- What `find` gives of rising numbers: the least that passes the test.
module _ (test : ℕ → Bool) where
  record FirstOf (numbers : List ℕ) (first : ℕ) : Type 0 where
    inside : Memᴰ first numbers
    passes : test first ≡ true
    least : (n : ℕ) → Memᴰ n numbers → test n ≡ true → first ≤ n

  find_least : (low : ℕ) (numbers : List ℕ) → Rising low numbers → MatchOption (find test numbers) ((n : ℕ) → Memᴰ n numbers → test n ≡ true → ⊥) (FirstOf numbers)
  unfolding Rising
  find_least low [] rising = λ n there. absurd (Memᴰ.not-nil there)
  find_least low (number ∷ numbers) rising =
      ⊎_elim
      (λ passes. rw passes (record { inside = Memᴰ.head refl; passes = passes; least = λ n there _. above number n (number ∷ numbers) (omega arith, rising.1) there }))
      (λ fails. rw fails (later fails (find test numbers) (find_least (number + 1) numbers rising.1)))
      (cases_Bool (test number))
    where
      later : test number ≡ false → (found : Option ℕ) → MatchOption found ((n : ℕ) → Memᴰ n numbers → test n ≡ true → ⊥) (FirstOf numbers) → MatchOption found ((n : ℕ) → Memᴰ n (number ∷ numbers) → test n ≡ true → ⊥) (FirstOf (number ∷ numbers))
      later fails None none = λ n there passes. ⊎_elim (λ here. both_ways (test number) fails (subst (λ m. test m ≡ true) here passes)) (λ rest. none n rest passes) (Memᴰ.cases_cons there)
      later fails (Some first) known = record {
        inside = Memᴰ.tail known.inside;
        passes = known.passes;
        least = λ n there passes. ⊎_elim (λ here. absurd (both_ways (test number) fails (subst (λ m. test m ≡ true) here passes))) (λ rest. known.least n rest passes) (Memᴰ.cases_cons there);
      }

module _ (last : ℕ) (ready : StepSet) (short : ready.bits < 2 ^ 64) where
  among : (n : ℕ) → has ready n ≡ true → Memᴰ n (members ready)
  among n inside = has_members ready n (has_below ready short n inside) inside

  above_found : (found : Option ℕ) → MatchOption found ((n : ℕ) → Memᴰ n (members ready) → nat_lt last n ≡ true → ⊥) (FirstOf (λ step. nat_lt last step) (members ready)) → MatchOption found (NoneAbove last ready) (λ step. LeastAbove last ready step × (step < 64))
  above_found None none = λ n over. lacks_from ready n (λ inside. none n (among n inside) (lt-ltb last n over))
  above_found (Some step) known =
      let tells = members_has ready step known.inside in (
        record {
          inside = tells.0;
          above = ltb-true last step known.passes;
          first = λ n over under. lacks_from ready n (λ inside. let least = known.least n (among n inside) (lt-ltb last n over) in absurd (omega arith));
        },
        tells.1,
      )

  next_found : (first found : Option ℕ) → MatchOption found (NoneAbove last ready) (λ step. LeastAbove last ready step × (step < 64)) → MatchOption first ((n : ℕ) → has ready n ≡ false) (λ step. Least ready step × (step < 64)) → MatchOption (option_or found first) ((n : ℕ) → has ready n ≡ false) (λ step. NextAfter last ready step × (step < 64))
  next_found None None none empty = empty
  next_found (Some step) None none least = (inr (none, least.0), least.1)
  next_found first (Some step) known empty = (inl known.0, known.1)

  -- the first step above the last pick, or else the first of all, comes next
  pub next_is : (first : Option ℕ) → MatchOption first ((n : ℕ) → has ready n ≡ false) (λ step. Least ready step × (step < 64)) → MatchOption (option_or (find (λ step. nat_lt last step) (members ready)) first) ((n : ℕ) → has ready n ≡ false) (λ step. NextAfter last ready step × (step < 64))
  next_is first least = next_found first (find (λ step. nat_lt last step) (members ready)) (above_found (find (λ step. nat_lt last step) (members ready)) (find_least (λ step. nat_lt last step) 0 (members ready) (rising_members ready))) least
