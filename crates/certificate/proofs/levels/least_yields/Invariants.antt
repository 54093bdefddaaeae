use Rattle.std.proofs.Common.{◌≡◌, ℕ, ◌*◌, ◌^◌, ◌≤◌, length, get_or}
use Rattle.certificate.proofs.Heights.{reaching, stacked}
use Rattle.certificate.specs.Marking.{ticks}
use Rattle.certificate.proofs.levels.least_yields.Given as goal

-- the sums of the levels up to this one stand in their places
abbrev pub invariant-loop-cores : goal.invariant-loop-cores
invariant-loop-cores g l =
    let level : ℕ → ℕ = reaching (g.S.Supply.width l.supply) l.test.first (ticks l.test) in
    record {
      size : length l.yields ≡ 65;
      reached : l.level ≡ level l.cores;
      sum : l.sum ≡ stacked level l.allowed l.cores;
      fits : l.sum ≤ 2 ^ 32 * l.cores;
      yields : (ceiling : ℕ) → ceiling ≤ l.cores → get_or l.yields ceiling 0 ≡ stacked level l.allowed ceiling;
    }
