-- Proofs that no width is above 64, which each supply hands on beside its meaning.
use Rattle.std.specs.Prelude.{ℕ, ◌+◌, ◌^◌, ◌≤◌, List, nat_lt, slice_index}
use Rattle.std.proofs.Common.{arith}
use Rattle.std.proofs.lemmas.Bool.{cond_both}
use Rattle.cores.specs.Windows.{within}
use Rattle.cores.specs.Widths.{capped, held, delayed}
use Rattle.cores.specs.Ladders.{laid_out, ladder}
use Rattle.cores.specs.declared.ladder.Block.{Block}
use Rattle.cores.specs.declared.window.Window.{Window}

pub capped_narrow : (cores : ℕ) → capped cores ≤ 64
capped_narrow cores = omega arith

pub ladder_narrow : (blocks : List Block) (tick : ℕ) → ladder blocks tick ≤ 64
ladder_narrow blocks tick = capped_narrow (slice_index (laid_out blocks) tick)

module _ (below : ℕ → ℕ) (narrow : (tick : ℕ) → below tick ≤ 64) where
  pub held_narrow : (window : Window) (tick : ℕ) → held below window tick ≤ 64
  held_narrow window tick =
      cond_both (within window tick) _ _ (λ width. width ≤ 64) (λ _. omega (arith, narrow tick)) (λ _. narrow tick)

  pub delayed_narrow : (by tick : ℕ) → delayed below by tick ≤ 64
  delayed_narrow by tick =
      cond_both (nat_lt (tick + by) (2 ^ 32)) _ _ (λ width. width ≤ 64) (λ _. narrow (tick + by)) (λ _. omega arith)
