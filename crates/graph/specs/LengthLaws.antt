-- Proofs of laws that the length keeps as a measure, which it hands on beside its meaning.
use Rattle.std.specs.Prelude.{◌≡◌, ℕ, max}
use Rattle.std.proofs.Common.{arith}
use Rattle.graph.specs.Measures.{lengthened}

pub max_groups : (a b c : ℕ) → max (max a b) c ≡ max a (max b c)
max_groups a b c = omega arith

pub lengthened_spreads : (a b step time : ℕ) → lengthened (max a b) step time ≡ max (lengthened a step time) (lengthened b step time)
lengthened_spreads a b step time = omega arith
