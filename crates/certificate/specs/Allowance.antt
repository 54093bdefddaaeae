-- How many ticks a marking may choose.
use Rattle.std.specs.Prelude.{ℕ}

-- While a step is unfinished, some path to it had a step running in every tick that left a core unused: so there are no more such ticks than the path is long.
unfoldable pub allowance : ℕ → ℕ
allowance length = length
