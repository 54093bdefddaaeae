-- What a run does to each step. A turn picks ready steps only, as many as cores are offered, or all of them where these are fewer.
use Rattle.std.proofs.Common.{◌≡◌, ℕ, zero, suc, ◌+◌, ◌<◌, ◌≤◌, min, Bool, true, false, cond, eqb, ◌⊎◌, List, [], ◌∷◌, is_some, Some, None, Option, sym, refl, ap, ◌∙◌, ap₂, inl, inr, ⊎_elim, arith}
use Rattle.std.specs.Option.{option_or}
use Rattle.std.proofs.lemmas.Bool.{both_ways, cases_Bool, cases_lt, cases_eq, eq-eqb, ne_eqb, ltb-true, lt-ltb, and_parts, and_from, and_cases, not-true, not_from_false}
use Rattle.certificate.specs.Marking.{total, one_if}
use Rattle.graph.specs.Paths.{Among}
use Rattle.graph.specs.Sets.{has}
use Rattle.runner.specs.Traces.{Tick, size, clock, ran, finish_of, finished, all_finished, is_ready, ready, work, offer}
use Rattle.runner.proofs.Counts.{size_sum, gathered_has, has_gathered, total_plus, total_zero}

-- the first of two that may be absent
pub some_or : {X : Type 0} (first second : Option X) → is_some first ≡ true → is_some (option_or first second) ≡ true
some_or None second is = absurd (both_ways false refl is)
some_or (Some x) second is = refl

pub none_or : {X : Type 0} (first second : Option X) → is_some first ≡ false → option_or first second ≡ second
none_or None second is = refl
none_or (Some x) second is = absurd (both_ways true is refl)

module _ (width : ℕ → ℕ) (count : ℕ) (few : count ≤ 64) (before : ℕ → List ℕ) (actual : ℕ → ℕ) where
  pub record Turn (tick : Tick) (earlier : List Tick) : Type 0 where
    pub inside : (step : ℕ) → has tick.picked step ≡ true → is_ready count before actual earlier step ≡ true
    pub amount : size tick.picked ≡ min (offer width tick earlier) (size (ready count before actual earlier))

  abbrev pub Run : List Tick → Type 0
  Run [] = Unit {0}
  Run (tick ∷ earlier) = Run earlier × Turn tick earlier

  -- the parts of being ready
  pub ready_parts : (trace : List Tick) (step : ℕ) → is_ready count before actual trace step ≡ true
      → (step < count) × (finished actual trace step ≡ false) × (all_finished actual trace (before step) ≡ true)
  ready_parts trace step is =
      let parts = and_parts _ _ is in
      let rest = and_parts _ _ parts.1 in
      (ltb-true step count parts.0, not-true _ rest.0, rest.1)

  pub ready_from : (trace : List Tick) (step : ℕ) → step < count → finished actual trace step ≡ false → all_finished actual trace (before step) ≡ true
      → is_ready count before actual trace step ≡ true
  ready_from trace step there unfinished whole = and_from _ _ (lt-ltb step count there) (and_from _ _ (not_from_false _ unfinished) whole)

  -- the ready steps as a set
  pub has_ready : (trace : List Tick) (step : ℕ) → has (ready count before actual trace) step ≡ true → is_ready count before actual trace step ≡ true
  unfolding ready
  has_ready trace step inside = (gathered_has (is_ready count before actual trace) 0 64 step inside).0

  pub ready_has : (trace : List Tick) (step : ℕ) → is_ready count before actual trace step ≡ true → has (ready count before actual trace) step ≡ true
  unfolding ready
  ready_has trace step is =
      let there = (ready_parts trace step is).0 in
      has_gathered (is_ready count before actual trace) 0 64 step is (omega arith) (omega arith) (omega arith)

  -- a step has run its actual time, or less of it
  abbrev pub Whole : List Tick → ℕ → Type 0
  Whole trace step = (finished actual trace step ≡ true) × (ran trace step ≡ actual step)

  abbrev pub Part : List Tick → ℕ → Type 0
  Part trace step = (finished actual trace step ≡ false) × (ran trace step < actual step)

  module _ (positive : (step : ℕ) → step < count → 1 ≤ actual step) where
    pub known : (trace : List Tick) → Run trace → (step : ℕ) → step < count → Whole trace step ⊎ Part trace step
    known [] run step there = inr (refl, omega (arith, positive step there))
    known (tick ∷ earlier) run step there = by (known earlier run.0 step there) where
      more : Option ℕ
      more = cond (eqb (ran (tick ∷ earlier) step) (actual step)) (Some (clock earlier + 1)) None

      not_picked : finished actual earlier step ≡ true → has tick.picked step ≡ false
      not_picked done =
          ⊎_elim
          (λ inside. absurd (both_ways _ (ready_parts earlier step (run.1.inside step inside)).1 done))
          (λ outside. outside)
          (cases_Bool (has tick.picked step))

      by : Whole earlier step ⊎ Part earlier step → Whole (tick ∷ earlier) step ⊎ Part (tick ∷ earlier) step
      by (inl whole) =
          inl (
            some_or (finish_of actual earlier step) (cond (eqb (ran (tick ∷ earlier) step) (actual step)) (Some (clock earlier + 1)) None) whole.0,
            omega (arith, whole.1, ap one_if (not_picked whole.0)),
          )
      by (inr part) =
          ⊎_elim
          (λ now. inl (
            ap is_some (none_or (finish_of actual earlier step) _ part.0) ∙ ap (λ b. is_some (cond b (Some (clock earlier + 1)) None)) (eq-eqb _ _ now),
            now,
          ))
          (λ other. inr (
            ap is_some (none_or (finish_of actual earlier step) _ part.0) ∙ ap (λ b. is_some (cond b (Some (clock earlier + 1)) None)) (ne_eqb _ _ other),
            not_yet other,
          ))
          (cases_eq (ran (tick ∷ earlier) step) (actual step)) where
            at_most_one : (b : Bool) → one_if b ≤ 1
            at_most_one true = omega arith
            at_most_one false = omega arith

            not_yet : (ran (tick ∷ earlier) step ≡ actual step → ⊥) → ran (tick ∷ earlier) step < actual step
            not_yet other = omega (arith, other, part.1, at_most_one (has tick.picked step))

    -- no number that is no step runs
    pub never_ran : (trace : List Tick) → Run trace → (step : ℕ) → count ≤ step → ran trace step ≡ 0
    never_ran [] run step past = refl
    never_ran (tick ∷ earlier) run step past =
        omega (arith, never_ran earlier run.0 step past, ap one_if (outside (has tick.picked step) refl)) where
          outside : (b : Bool) → has tick.picked step ≡ b → has tick.picked step ≡ false
          outside true is = absurd (let there = (ready_parts earlier step (run.1.inside step is)).0 in omega arith)
          outside false is = is

    pub ran_bound : (trace : List Tick) → Run trace → (step : ℕ) → ran trace step ≤ actual step
    ran_bound trace run step =
        ⊎_elim
        (λ there. ⊎_elim (λ whole. omega (arith, whole.1)) (λ part. omega (arith, part.1)) (known trace run step there))
        (λ past. omega (arith, never_ran trace run step past))
        (cases_lt step count)

    -- the work is what the steps have run
    pub work_sum : (trace : List Tick) → Run trace → work trace ≡ total (ran trace) 0 64
    work_sum [] run = sym (total_zero 0 64)
    work_sum (tick ∷ earlier) run =
        ap₂ ◌+◌ (work_sum earlier run.0) (size_sum tick.picked)
        ∙ sym (total_plus (ran earlier) (λ x. one_if (has tick.picked x)) 0 64)

    -- a job with an unfinished step has a ready one
    pub first_unfinished : (trace : List Tick) (steps : List ℕ) → all_finished actual trace steps ≡ false → (step : ℕ) × Among step steps × (finished actual trace step ≡ false)
    first_unfinished trace [] is = absurd (both_ways true is refl)
    first_unfinished trace (step ∷ steps) is = by (and_cases _ _ is) (first_unfinished trace steps) where
      by : (finished actual trace step ≡ false) ⊎ (all_finished actual trace steps ≡ false)
          → (all_finished actual trace steps ≡ false → (found : ℕ) × Among found steps × (finished actual trace found ≡ false))
          → (found : ℕ) × Among found (step ∷ steps) × (finished actual trace found ≡ false)
      by (inl here) later = (step, inl refl, here)
      by (inr rest) later = let found = later rest in (found.0, inr found.1, found.2)

    module _ (rising : (step from : ℕ) → Among from (before step) → from < step) where
      some_ready : (trace : List Tick) (bound step : ℕ) → step < bound → step < count → finished actual trace step ≡ false → (found : ℕ) × (is_ready count before actual trace found ≡ true)
      some_ready trace zero step under there unfinished = absurd (omega arith)
      some_ready trace (suc bound) step under there unfinished =
          ⊎_elim
          (λ whole. (step, ready_from trace step there unfinished whole))
          (λ waits.
          let found = first_unfinished trace (before step) waits in
          let lower = rising step found.0 found.1 in
          some_ready trace bound found.0 (omega arith) (omega arith) found.2)
          (cases_Bool (all_finished actual trace (before step)))

      pub ready_one : (trace : List Tick) (step : ℕ) → step < count → finished actual trace step ≡ false → (found : ℕ) × (is_ready count before actual trace found ≡ true)
      ready_one trace step there unfinished = some_ready trace (suc step) step (omega arith) there unfinished
