use Rattle.std.proofs.Common.{◌≡◌, ℕ, ◌-◌, ◌≤◌, length, get_or}
use Rattle.certificate.specs.Widths.{exactly}
use Rattle.certificate.proofs.levels.histogram.Given as goal

-- the ticks before this one are counted, and none past the deadline
abbrev pub invariant-loop-tick : goal.invariant-loop-tick
invariant-loop-tick g l =
    let counted = l.tick - l.initial.tick in
    record {
      size : length l.counts ≡ 65;
      counts : (cores : ℕ) → cores ≤ 64 → get_or l.counts cores 0 ≡ exactly (g.S.Supply.width l.supply) l.initial.tick counted cores;
      within : counted ≤ l.tick-end - l.initial.tick;
    }
