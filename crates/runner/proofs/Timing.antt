-- Why a job that passed the test is not late.
use Rattle.std.proofs.Common.{◌≡◌, ℕ, suc, ◌+◌, ◌-◌, ◌<◌, ◌≤◌, Bool, true, false, cond, eqb, ltb, List, [], ◌∷◌, length, Some, None, sym, refl, ap, ◌∙◌, subst, ap₂, inl, inr, ⊎_elim, arith}
use Rattle.std.proofs.lemmas.Bool.{both_ways, cases_Bool, cases_lt, eq-eqb, ne_eqb, ltb-true, ltb-false, and_parts}
use Rattle.certificate.specs.Allowance.{allowance}
use Rattle.certificate.specs.Marking.{total, one_if, offered, Marking, marks, yield, Passes}
use Rattle.certificate.specs.declared.marking_test.MarkingTest.{MarkingTest}
use Rattle.certificate.proofs.Totals.{total_agree}
use Rattle.graph.specs.Lengths.{path_time}
use Rattle.graph.specs.Paths.{Among, IsPath, EndsAt}
use Rattle.graph.specs.Sets.{has}
use Rattle.runner.specs.Traces.{Tick, size, clock, ran, finish_of, finished, all_finished, is_ready, ready, work, offer, idle}
use Rattle.runner.proofs.Counts.{total_less, same_size_has, size_some}
use Rattle.runner.proofs.Roads.{longer, some_path}
use Rattle.runner.proofs.Steps.{Turn, Run, ready_parts, ready_from, ready_has, known, ran_bound, work_sum, ready_one, first_unfinished, some_or}

-- the test of what is left of a job, under a deadline
abbrev pub left_test : (ℕ → ℕ) → ℕ → ℕ → List Tick → MarkingTest
left_test width due length trace = record { first = clock trace; deadline = due; length = length - idle width trace }

-- every tick of the length may be marked
allowance_is : (length : ℕ) → allowance length ≡ length
unfolding allowance
allowance_is length = refl

at_most_one : (b : Bool) → one_if b ≤ 1
at_most_one true = omega arith
at_most_one false = omega arith

-- more ticks run along a path, and one more where its end ran
module _ (tick : Tick) (earlier : List Tick) where
  ran_more : (path : List ℕ) → path_time (ran earlier) path ≤ path_time (ran (tick ∷ earlier)) path
  ran_more [] = omega arith
  ran_more (step ∷ way) = omega (arith, ran_more way)

  end_ran : (path : List ℕ) (step : ℕ) → EndsAt step path → has tick.picked step ≡ true → path_time (ran earlier) path + 1 ≤ path_time (ran (tick ∷ earlier)) path
  end_ran [] step end picked = absurd end
  end_ran (last ∷ way) step end picked =
      omega (arith, ran_more way, ap one_if (ap (has tick.picked) end ∙ picked))

-- each of some steps that are all finished is
pub each_finished : (actual : ℕ → ℕ) (trace : List Tick) (steps : List ℕ) → all_finished actual trace steps ≡ true → (step : ℕ) → Among step steps → finished actual trace step ≡ true
each_finished actual trace [] all step there = absurd there
each_finished actual trace (first ∷ steps) all step (inl same) = ap (finished actual trace) same ∙ (and_parts _ _ all).0
each_finished actual trace (first ∷ steps) all step (inr later) = each_finished actual trace steps (and_parts _ _ all).1 step later

module _ (width : ℕ → ℕ) (count : ℕ) (few : count ≤ 64) (before : ℕ → List ℕ) (actual : ℕ → ℕ)
    (positive : (step : ℕ) → step < count → 1 ≤ actual step)
    (rising : (step from : ℕ) → Among from (before step) → from < step) where
  -- a path on which steps ran in as many ticks as were idle
  abbrev pub Busy : List Tick → ℕ → Type 0
  Busy trace step = (path : List ℕ) × IsPath before path × EndsAt step path × (idle width trace ≤ path_time (ran trace) path)

  abbrev pub BusyPaths : List Tick → Type 0
  BusyPaths trace = (step : ℕ) → is_ready count before actual trace step ≡ true → Busy trace step

  pub busy_start : BusyPaths []
  busy_start step is = let found = some_path before rising (suc step) step (omega arith) in (found.0, found.1, found.2, omega arith)

  module _ (tick : Tick) (earlier : List Tick) (run : Run width count few before actual (tick ∷ earlier)) where
    turn : Turn width count few before actual tick earlier
    turn = run.1

    -- in an idle tick every ready step runs
    pub idle_all : size tick.picked < offer width tick earlier → (step : ℕ) → is_ready count before actual earlier step ≡ true → has tick.picked step ≡ true
    idle_all spare step is =
        let there = (ready_parts width count few before actual earlier step is).0 in
        same_size_has tick.picked (ready count before actual earlier)
        (λ x inside. ready_has width count few before actual earlier x (turn.inside x inside))
        (omega (arith, turn.amount, spare)) step (omega arith) (ready_has width count few before actual earlier step is)

    -- a predecessor that finishes in this tick ran in it
    just_ran : (step : ℕ) → step < count → finished actual earlier step ≡ false → finished actual (tick ∷ earlier) step ≡ true → has tick.picked step ≡ true
    just_ran step there not_yet now =
        ⊎_elim
        (λ inside. inside)
        (λ outside. absurd (⊎_elim
        (λ whole. both_ways _ not_yet whole.0)
        (λ part.
        ⊎_elim
        (λ whole. omega (arith, whole.1, part.1, ap one_if outside))
        (λ still. both_ways _ still.0 now)
        (known width count few before actual positive (tick ∷ earlier) run step there))
        (known width count few before actual positive earlier run.0 step there)))
        (cases_Bool (has tick.picked step))

    -- an unfinished step was unfinished before
    still : (step : ℕ) → finished actual (tick ∷ earlier) step ≡ false → finished actual earlier step ≡ false
    still step is =
        ⊎_elim
        (λ done. absurd (both_ways _ is (some_or (finish_of actual earlier step) (cond (eqb (ran (tick ∷ earlier) step) (actual step)) (Some (clock earlier + 1)) None) done)))
        (λ not_done. not_done)
        (cases_Bool (finished actual earlier step))

    -- busy paths stay, and grow with the idle ticks
    pub busy_more : BusyPaths earlier → BusyPaths (tick ∷ earlier)
    busy_more busy step is =
        let parts = ready_parts width count few before actual (tick ∷ earlier) step is in
        let not_done = still step parts.1 in
        ⊎_elim
        (λ whole. kept (busy step (ready_from width count few before actual earlier step parts.0 not_done whole)) (ready_from width count few before actual earlier step parts.0 not_done whole))
        (λ waited. joined parts (first_unfinished width count few before actual positive earlier (before step) waited))
        (cases_Bool (all_finished actual earlier (before step))) where
          -- it was ready before
          kept : Busy earlier step → is_ready count before actual earlier step ≡ true → Busy (tick ∷ earlier) step
          kept found was = (
            found.0,
            found.1,
            found.2,
            ⊎_elim
                (λ spare. omega (arith, found.3, end_ran tick earlier found.0 step found.2 (idle_all (ltb-true _ _ spare) step was), at_most_one (ltb (size tick.picked) (offer width tick earlier))))
                (λ full. omega (arith, found.3, ran_more tick earlier found.0, ap one_if full))
                (cases_Bool (ltb (size tick.picked) (offer width tick earlier))),
          )

          -- or a predecessor has just finished
          joined : (step < count) × (finished actual (tick ∷ earlier) step ≡ false) × (all_finished actual (tick ∷ earlier) (before step) ≡ true)
              → (from : ℕ) × Among from (before step) × (finished actual earlier from ≡ false) → Busy (tick ∷ earlier) step
          joined parts (from, edge, not_yet) =
              let lower = rising step from edge in
              let there : from < count = omega arith in
              let now = each_finished actual (tick ∷ earlier) (before step) parts.2 from edge in
              let picked = just_ran from there not_yet now in
              let found = busy from (turn.inside from picked) in (
                step ∷ found.0,
                longer before rising step from found.0 edge found.1 found.2,
                refl,
                omega (arith, found.3, end_ran tick earlier found.0 from found.2 picked, at_most_one (ltb (size tick.picked) (offer width tick earlier))),
              )

  -- against the worst-case times
  module _ (worst : ℕ → ℕ) (bounded : (step : ℕ) → actual step ≤ worst step) (length : ℕ)
      (longest : (step : ℕ) (path : List ℕ) → step < count → IsPath before path → EndsAt step path → path_time worst path ≤ length)
      (volume : ℕ) (summed : total worst 0 64 ≡ volume) where
    ran_worst : (trace : List Tick) → Run width count few before actual trace → (step : ℕ) → ran trace step ≤ worst step
    ran_worst trace run step = omega (arith, ran_bound width count few before actual positive trace run step, bounded step)

    path_worst : (trace : List Tick) → Run width count few before actual trace → (path : List ℕ) → path_time (ran trace) path ≤ path_time worst path
    path_worst trace run [] = omega arith
    path_worst trace run (step ∷ way) = omega (arith, path_worst trace run way, ran_worst trace run step)

    module _ (trace : List Tick) (run : Run width count few before actual trace) (step : ℕ) (there : step < count) (unfinished : finished actual trace step ≡ false) where
      less_ran : (x : ℕ) → x < count → finished actual trace x ≡ false → ran trace x < worst x
      less_ran x within open_step =
          ⊎_elim
          (λ whole. absurd (both_ways _ open_step whole.0))
          (λ part. omega (arith, part.1, bounded x))
          (known width count few before actual positive trace run x within)

      -- while a step is unfinished, fewer ticks were idle than the longest path has, and less work is done than there is
      pub idle_short : BusyPaths trace → idle width trace < length
      idle_short busy = by (ready_one width count few before actual positive rising trace step there unfinished) where
        by : (found : ℕ) × (is_ready count before actual trace found ≡ true) → idle width trace < length
        by (found, is) =
            let parts = ready_parts width count few before actual trace found is in
            on (busy found is) parts where
              on : Busy trace found → (found < count) × (finished actual trace found ≡ false) × (all_finished actual trace (before found) ≡ true) → idle width trace < length
              on ([], path, end, enough) parts = absurd path
              on (last ∷ way, path, end, enough) parts =
                  let lessened : ran trace last < worst last = subst (λ x. ran trace x < worst x) (sym end) (less_ran found parts.0 parts.1) in
                  omega (arith, enough, path_worst trace run way, lessened, longest found (last ∷ way) parts.0 path end)

      pub work_short : work trace < volume
      work_short =
          under _ _ (work_sum width count few before actual positive trace run) summed
          (total_less (ran trace) worst 0 64 step (λ x low high. ran_worst trace run x) (omega arith) (omega arith) (less_ran step there unfinished)) where
            under : {a b : ℕ} (c d : ℕ) → a ≡ c → d ≡ b → c < d → a < b
            under c d is also less = omega arith

      -- so the clock is below every deadline under which the test passes
      pub in_time : (due ceiling : ℕ) → Passes width (left_test width due length trace) ceiling (volume - work trace) → clock trace < due
      in_time due ceiling passes =
          ⊎_elim
          (λ below. below)
          (λ past.
          let none : due - clock trace ≡ 0 = omega arith in
          let few_marks : marks (left_test width due length trace) (λ n. false) ≡ 0 = ap (λ k. total (λ n. 0) (clock trace) k) none in
          let no_yield : yield width (left_test width due length trace) ceiling (λ n. false) ≡ 0 = ap (λ k. total (λ n. offered width ceiling n) (clock trace) k) none in
          absurd (omega (arith, passes (λ n. false) (omega (arith, few_marks)), no_yield, work_short)))
          (cases_lt (clock trace) due)

    -- one tick more keeps the test
    module _ (tick : Tick) (earlier : List Tick) (run : Run width count few before actual (tick ∷ earlier)) (step : ℕ) (there : step < count)
        (unfinished : finished actual earlier step ≡ false) (busy : BusyPaths earlier) (due : ℕ) where
      -- some step runs in every tick that has a core to offer
      some_picked : size tick.picked < offer width tick earlier → 1 ≤ size tick.picked
      some_picked spare =
          let found = ready_one width count few before actual positive rising earlier step there unfinished in
          let within = (ready_parts width count few before actual earlier found.0 found.1).0 in
          let one = size_some (ready count before actual earlier) found.0 (omega arith) (ready_has width count few before actual earlier found.0 found.1) in
          omega (arith, run.1.amount, spare, one)

      pub passes_on : Passes width (left_test width due length earlier) tick.ceiling (volume - work earlier)
          → Passes width (left_test width due length (tick ∷ earlier)) tick.ceiling (volume - work (tick ∷ earlier))
      passes_on passes marking allowed =
          let now = clock earlier in
          let before_due = in_time earlier run.0 step there unfinished due tick.ceiling passes in
          let spent = idle_short earlier run.0 step there unfinished busy in
          kept now before_due spent (ltb (size tick.picked) (offer width tick earlier)) refl where
            left : ℕ
            left = due - suc (clock earlier)

            -- the same marking, with this tick marked where it is idle
            with_now : Bool → Marking
            with_now mark n = cond (eqb n (clock earlier)) mark (marking n)

            at_now : (mark : Bool) → with_now mark (clock earlier) ≡ mark
            at_now mark = ap (λ b. cond b mark (marking (clock earlier))) (eq-eqb (clock earlier) (clock earlier) refl)

            after_now : (mark : Bool) (n : ℕ) → suc (clock earlier) ≤ n → with_now mark n ≡ marking n
            after_now mark n later = ap (λ b. cond b mark (marking n)) (ne_eqb n (clock earlier) (λ same. omega arith))

            marks_now : (mark : Bool) → due - clock earlier ≡ suc left
                → marks (left_test width due length earlier) (with_now mark) ≡ one_if mark + total (λ n. one_if (marking n)) (suc (clock earlier)) left
            marks_now mark more =
                ap (total (λ n. one_if (with_now mark n)) (clock earlier)) more
                ∙ ap₂ (λ b rest. one_if b + rest) (at_now mark)
                (total_agree (λ n. one_if (with_now mark n)) (λ n. one_if (marking n)) (suc (clock earlier)) left (λ n later. ap one_if (after_now mark n later)))

            yield_now : (mark : Bool) → due - clock earlier ≡ suc left
                → yield width (left_test width due length earlier) tick.ceiling (with_now mark)
                ≡ cond mark 1 (offer width tick earlier) + total (λ n. cond (marking n) 1 (offered width tick.ceiling n)) (suc (clock earlier)) left
            yield_now mark more =
                ap (total (λ n. cond (with_now mark n) 1 (offered width tick.ceiling n)) (clock earlier)) more
                ∙ ap₂ (λ b rest. cond b 1 (offer width tick earlier) + rest) (at_now mark)
                (total_agree (λ n. cond (with_now mark n) 1 (offered width tick.ceiling n)) (λ n. cond (marking n) 1 (offered width tick.ceiling n)) (suc (clock earlier)) left
                (λ n later. ap (λ b. cond b 1 (offered width tick.ceiling n)) (after_now mark n later)))

            kept : (now : ℕ) → clock earlier < due → idle width earlier < length → (mark : Bool) → ltb (size tick.picked) (offer width tick earlier) ≡ mark
                → volume - work (tick ∷ earlier) ≤ yield width (left_test width due length (tick ∷ earlier)) tick.ceiling marking
            kept now in_due short true is =
                let more : due - clock earlier ≡ suc left = omega arith in
                let rest = total (λ n. one_if (marking n)) (suc (clock earlier)) left in
                let behind = total (λ n. cond (marking n) 1 (offered width tick.ceiling n)) (suc (clock earlier)) left in
                let fewer : rest ≤ length - (idle width earlier + 1) = subst (λ k. rest ≤ k) (allowance_is (length - (idle width earlier + 1))) (subst (λ b. rest ≤ allowance (length - (idle width earlier + one_if b))) is allowed) in
                let fits : marks (left_test width due length earlier) (with_now true) ≤ allowance (length - idle width earlier) =
                subst (λ k. marks (left_test width due length earlier) (with_now true) ≤ k) (sym (allowance_is (length - idle width earlier))) (omega (arith, marks_now true more, fewer, short)) in
                let enough : volume - work earlier ≤ 1 + behind = subst (λ y. volume - work earlier ≤ y) (yield_now true more) (passes (with_now true) fits) in
                omega (arith, enough, some_picked (ltb-true _ _ is))
            kept now in_due short false is =
                let more : due - clock earlier ≡ suc left = omega arith in
                let rest = total (λ n. one_if (marking n)) (suc (clock earlier)) left in
                let behind = total (λ n. cond (marking n) 1 (offered width tick.ceiling n)) (suc (clock earlier)) left in
                let fewer : rest ≤ allowance (length - idle width earlier) =
                subst (λ k. rest ≤ allowance (length - k)) none_more (subst (λ b. rest ≤ allowance (length - (idle width earlier + one_if b))) is allowed) in
                let fits : marks (left_test width due length earlier) (with_now false) ≤ allowance (length - idle width earlier) = omega (arith, marks_now false more, fewer) in
                let enough : volume - work earlier ≤ offer width tick earlier + behind = subst (λ y. volume - work earlier ≤ y) (yield_now false more) (passes (with_now false) fits) in
                omega (arith, enough, ltb-false _ _ is) where
                  none_more : idle width earlier + 0 ≡ idle width earlier
                  none_more = omega arith
