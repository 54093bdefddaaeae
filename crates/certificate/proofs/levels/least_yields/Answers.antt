use Rattle.std.proofs.Common.{◌≡◌, ℕ, zero, suc, ◌+◌, ◌-◌, ◌≤◌, List, get_or, set, replicate, refl, ap, ◌∙◌, arith, length-set}
use Rattle.std.proofs.lemmas.List.Edits.{fill_by_more}
use Rattle.certificate.specs.Allowance.{allowance}
use Rattle.certificate.proofs.Heights.{reaching, stacked}
use Rattle.certificate.specs.Marking.{ticks}
use Rattle.certificate.proofs.Counting.{reaching_all, reaching_next}
use Rattle.certificate.proofs.Stacking.{stacked_is_least, stacked_next}
use Rattle.certificate.proofs.levels.least_yields.Goals as goal

-- no cores yield nothing, and one core the first level
up_to_one : (yields : List ℕ) (level : ℕ → ℕ) (allowed : ℕ) → get_or yields 0 0 ≡ 0 → get_or yields 1 0 ≡ level 1 → (ceiling : ℕ) → ceiling ≤ 1 → get_or yields ceiling 0 ≡ stacked level allowed ceiling
up_to_one yields level allowed none one zero within = none
up_to_one yields level allowed none one (suc zero) within = one
up_to_one yields level allowed none one (suc (suc ceiling)) within = absurd (omega arith)

pub overflow_sub-level : goal.overflow_sub-level
overflow_sub-level g c =
    let width = g.S.Supply.width c.args.supply.now in
    let test = c.args.test.now in
    omega (arith, c.histogram-counts.ensures.counts 0 (omega arith), reaching_all width test.first (ticks test), reaching_next width test.first (ticks test) 0)

pub loop-cores-init : goal.loop-cores-init
loop-cores-init g c =
    let width = g.S.Supply.width c.args.supply.now in
    let test = c.args.test.now in
    let level = reaching width test.first (ticks test) in
    let one : c.from-sum.result ≡ level 1 =
    omega (arith, c.histogram-counts.ensures.counts 0 (omega arith), reaching_all width test.first (ticks test), reaching_next width test.first (ticks test) 0) in
    record { size = refl; reached = omega arith; sum = one; fits = omega arith; yields = up_to_one (set (replicate 65 0) 1 c.from-sum.result) level c.marks_allowed-allowed.result refl one }

pub overflow_sub-level-in-loop-cores : goal.overflow_sub-level-in-loop-cores
overflow_sub-level-in-loop-cores g c =
    let width = g.S.Supply.width c.args.supply.now in
    let test = c.args.test.now in
    let cores = c.loop-cores.cores in
    omega (arith, c.histogram-counts.ensures.counts cores (omega arith), reaching_next width test.first (ticks test) cores)

pub loop-cores-preserved : goal.loop-cores-preserved
loop-cores-preserved g c =
    let width = g.S.Supply.width c.args.supply.now in
    let test = c.args.test.now in
    let level = reaching width test.first (ticks test) in
    let allowed = c.marks_allowed-allowed.result in
    let cores = c.loop-cores.cores in
    let counted = c.histogram-counts.ensures.counts cores (omega arith) in
    let place : suc cores ≡ cores + 1 = omega arith in
    let next : c.loop-cores.level - get_or c.histogram-counts.result cores 0 ≡ level (cores + 1) =
    omega (arith, reaching_next width test.first (ticks test) cores, ap level place) in
    let more : c.loop-cores.sum + c.from-sum-in-loop-cores.result ≡ stacked level allowed (cores + 1) =
    omega (arith, stacked_next level allowed cores (omega arith)) in
    record {
      size = length-set _ _ _ ∙ c.loop-cores.invariant.size;
      reached = next;
      sum = more;
      fits = omega arith;
      yields = λ ceiling within.
          rw more
          (fill_by_more (stacked level allowed) c.loop-cores.yields (cores + 1) 0 (omega (arith, c.loop-cores.invariant.size)) (λ lower under. c.loop-cores.invariant.yields lower (omega arith)) ceiling (omega arith));
    }

pub returns : goal.returns
returns g c =
    let width = g.S.Supply.width c.args.supply.now in
    let test = c.args.test.now in
    record {
      size = c.loop-cores.invariant.size;
      yields = λ ceiling within.
          rw (c.loop-cores.invariant.yields ceiling (omega arith), c.marks_allowed-allowed.ensures) (stacked_is_least width (allowance test.length) ceiling test.first (ticks test));
    }
