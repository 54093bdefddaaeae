-- Windows of ticks.
use Rattle.std.specs.Prelude.{ℕ, Bool, ◌&&◌, nat_le, nat_lt}
use Rattle.cores.specs.declared.window.Window.{Window}

-- A tick is in a window from its first tick on and before its end.
abbrev pub within : Window → ℕ → Bool
within window tick = nat_le window.from tick && nat_lt tick window.until
