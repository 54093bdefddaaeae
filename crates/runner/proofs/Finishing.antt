-- When steps finish, and that none starts before its predecessors have.
use Rattle.std.proofs.Common.{◌≡◌, ℕ, ◌+◌, ◌<◌, ◌≤◌, Bool, true, false, cond, eqb, ◌⊎◌, List, [], ◌∷◌, is_some, Some, None, Option, refl, ap, inl, inr, arith}
use Rattle.std.specs.Option.{option_or}
use Rattle.std.proofs.lemmas.Bool.{both_ways}
use Rattle.graph.specs.Paths.{Among}
use Rattle.graph.specs.Sets.{has}
use Rattle.runner.specs.Traces.{Tick, clock, ran, start_of, finish_of, finished, all_finished}
use Rattle.runner.proofs.Steps.{Run, ready_parts}
use Rattle.runner.proofs.Timing.{each_finished}

abbrev value_of : Option ℕ → ℕ → ℕ
value_of None other = other
value_of (Some n) other = n

some_same : {m n : ℕ} → Some m ≡ Some n → m ≡ n
some_same {m} is = ap (λ o. value_of o m) is

-- one of two that may be absent
either : (first second : Option ℕ) (n : ℕ) → option_or first second ≡ Some n → (first ≡ Some n) ⊎ ((first ≡ None) × (second ≡ Some n))
either None second n is = inr (refl, is)
either (Some m) second n is = inl is

only_if : (test : Bool) (m n : ℕ) → cond test (Some m) None ≡ Some n → (test ≡ true) × (m ≡ n)
only_if true m n is = (refl, some_same is)
only_if false m n is = absurd (both_ways false refl (ap is_some is))

kept_first : (first second : Option ℕ) (n : ℕ) → first ≡ Some n → option_or first second ≡ Some n
kept_first first second n is = ap (λ o. option_or o second) is

module _ (actual : ℕ → ℕ) where
  -- no step finishes after the present clock
  pub finish_past : (trace : List Tick) (step finish : ℕ) → finish_of actual trace step ≡ Some finish → finish ≤ clock trace
  finish_past [] step finish is = absurd (both_ways false refl (ap is_some is))
  finish_past (tick ∷ earlier) step finish is = by (either (finish_of actual earlier step) _ finish is) (finish_past earlier step finish) where
    by : (finish_of actual earlier step ≡ Some finish) ⊎ ((finish_of actual earlier step ≡ None) × (cond (eqb (ran (tick ∷ earlier) step) (actual step)) (Some (clock earlier + 1)) None ≡ Some finish))
        → (finish_of actual earlier step ≡ Some finish → finish ≤ clock earlier) → finish ≤ clock (tick ∷ earlier)
    by (inl before) rest = omega (arith, rest before)
    by (inr (none, now)) rest = omega (arith, (only_if _ (clock earlier + 1) finish now).1)

  -- nor after a deadline that every tick was before
  abbrev pub EachBefore : ℕ → List Tick → Type 0
  EachBefore due [] = Unit {0}
  EachBefore due (tick ∷ earlier) = EachBefore due earlier × (clock earlier < due)

  pub finish_due : (due : ℕ) (trace : List Tick) → EachBefore due trace → (step finish : ℕ) → finish_of actual trace step ≡ Some finish → finish ≤ due
  finish_due due [] each step finish is = absurd (both_ways false refl (ap is_some is))
  finish_due due (tick ∷ earlier) each step finish is = let past = finish_past (tick ∷ earlier) step finish is in omega (arith, past, each.1)

  -- every predecessor of a step with a start has a finish no later than that start
  module _ (width : ℕ → ℕ) (count : ℕ) (few : count ≤ 64) (before : ℕ → List ℕ) where
    abbrev FinishedBy : List Tick → ℕ → ℕ → Type 0
    FinishedBy trace step start = (finish : ℕ) × (finish_of actual trace step ≡ Some finish) × (finish ≤ start)

    some_finish : (found : Option ℕ) → is_some found ≡ true → (n : ℕ) × (found ≡ Some n)
    some_finish None is = absurd (both_ways false refl is)
    some_finish (Some n) is = (n, refl)

    pub predecessors_first : (trace : List Tick) → Run width count few before actual trace → (step start : ℕ) → start_of trace step ≡ Some start
        → (from : ℕ) → Among from (before step) → FinishedBy trace from start
    predecessors_first [] run step start is from edge = absurd (both_ways false refl (ap is_some is))
    predecessors_first (tick ∷ earlier) run step start is from edge =
        by (either (start_of earlier step) _ start is) (λ known. predecessors_first earlier run.0 step start known from edge) where
          on : FinishedBy earlier from start → FinishedBy (tick ∷ earlier) from start
          on (finish, known, past) = (finish, kept_first (finish_of actual earlier from) _ finish known, past)

          by : (start_of earlier step ≡ Some start) ⊎ ((start_of earlier step ≡ None) × (cond (has tick.picked step) (Some (clock earlier)) None ≡ Some start))
              → (start_of earlier step ≡ Some start → FinishedBy earlier from start) → FinishedBy (tick ∷ earlier) from start
          by (inl known) rest = on (rest known)
          by (inr (none, now)) rest =
              let picked = only_if _ (clock earlier) start now in
              let ready = ready_parts width count few before actual earlier step (run.1.inside step picked.0) in
              let done = some_finish (finish_of actual earlier from) (each_finished_here ready.2) in
              on (done.0, done.1, omega (arith, finish_past earlier from done.0 done.1, picked.1)) where
                each_finished_here : all_finished actual earlier (before step) ≡ true → finished actual earlier from ≡ true
                each_finished_here all = each_finished actual earlier (before step) all from edge
