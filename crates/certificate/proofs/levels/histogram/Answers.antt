use Rattle.std.proofs.Common.{◌≡◌, ◌-◌, sym, refl, ap, ◌∙◌, arith, length-set}
use native.Mathlib.Nat.{sub_self}
use Rattle.std.proofs.lemmas.List.{get_or-replicate}
use Rattle.certificate.specs.Widths.{exactly}
use Rattle.certificate.specs.Marking.{ticks}
use Rattle.certificate.proofs.Counting.{counted_more, exactly_few}
use Rattle.certificate.proofs.levels.histogram.Goals as goal

pub loop-tick-init : goal.loop-tick-init
loop-tick-init g c =
    let first = c.args.test.now.first in
    record {
      size = refl;
      counts = λ cores in_width. get_or-replicate 65 cores 0 0 (omega arith) ∙ sym (ap (λ count. exactly (g.S.Supply.width c.args.supply.now) first count cores) (sub_self first));
      within = omega arith;
    }

pub overflow_add-counts : goal.overflow_add-counts
overflow_add-counts g c =
    let width = g.S.Supply.width c.args.supply.now in
    let first = c.args.test.now.first in
    let at = c.from.result in
    let narrow = g.S.Supply.narrow c.args.supply.now c.loop-tick.tick in
    let counted = c.loop-tick.invariant.counts at (omega (arith, narrow)) in
    record { fits = omega (arith, counted, exactly_few width first (c.loop-tick.tick - first) at) }

pub loop-tick-preserved : goal.loop-tick-preserved
loop-tick-preserved g c =
    let width = g.S.Supply.width c.args.supply.now in
    let tick = c.loop-tick.tick in
    let narrow = g.S.Supply.narrow c.args.supply.now tick in
    record {
      size = length-set _ _ _ ∙ c.loop-tick.invariant.size;
      counts = λ cores in_width.
          counted_more width c.args.test.now.first c.loop-tick.counts tick c.from.result cores c.loop-tick.auto.tick (c.from.ensures ∙ c.width_at.ensures) (omega (arith, narrow)) (c.loop-tick.invariant.counts cores in_width);
      within = omega arith;
    }

pub returns : goal.returns
returns g c =
    let width = g.S.Supply.width c.args.supply.now in
    let first = c.args.test.now.first in
    let all : c.loop-tick.tick - first ≡ ticks c.args.test.now = omega arith in
    record {
      size = c.loop-tick.invariant.size;
      counts = λ cores in_width. c.loop-tick.invariant.counts cores in_width ∙ ap (λ count. exactly width first count cores) all;
    }
