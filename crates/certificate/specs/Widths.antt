-- How often each width comes: what the histogram counts.
use Rattle.std.specs.Prelude.{ℕ, ◌==◌}
use Rattle.certificate.specs.Marking.{one_if, total}

-- How many of `count` ticks from `first` on have just this width.
abbrev pub exactly : (ℕ → ℕ) → ℕ → ℕ → ℕ → ℕ
exactly width first count cores = total (λ tick. one_if (width tick == cores)) first count
