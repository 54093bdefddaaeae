-- The width of a supply, a number of cores from 0 to 64, as a function of the tick. A difference stops at 0.
use Rattle.std.specs.Prelude.{ℕ, ◌+◌, ◌-◌, ◌^◌, min, if◌then◌else◌, nat_lt}
use Rattle.cores.specs.Windows.{within}
use Rattle.cores.specs.declared.window.Window.{Window}

-- A number of cores counts as 64 where it is more.
abbrev pub capped : ℕ → ℕ
capped cores = min cores 64

-- Hold-back: in its window the width below less the window's cores, or 0 where they are more; elsewhere the width below.
abbrev pub held : (ℕ → ℕ) → Window → ℕ → ℕ
held below window tick = if within window tick then below tick - window.cores else below tick

-- A late start: the width below so many ticks on, or 0 where that tick has no 32-bit number.
abbrev pub delayed : (ℕ → ℕ) → ℕ → ℕ → ℕ
delayed below by tick = if nat_lt (tick + by) (2 ^ 32) then below (tick + by) else 0
