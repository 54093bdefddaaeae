-- The least yield by levels. A tick reaches level j where its width is at least j.
use Rattle.std.proofs.Common.{ℕ, zero, suc, ◌+◌, ◌-◌, leb}
use Rattle.certificate.specs.Marking.{one_if, total}

-- How many of `count` ticks from `first` on reach a level.
abbrev pub reaching : (ℕ → ℕ) → ℕ → ℕ → ℕ → ℕ
reaching width first count level = total (λ tick. one_if (leb level (width tick))) first count

-- The sum of the levels up to the ceiling: the first whole, each other one less the ticks that may be marked.
abbrev pub stacked : (ℕ → ℕ) → ℕ → ℕ → ℕ
stacked level allowed zero = 0
stacked level allowed (suc zero) = level 1
stacked level allowed (suc (suc ceiling)) = stacked level allowed (suc ceiling) + (level (suc (suc ceiling)) - allowed)
