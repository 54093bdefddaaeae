-- A ladder by its first block.
use Rattle.std.proofs.Common.{◌≡◌, ℕ, ◌-◌, ◌<◌, ◌≤◌, List, ◌∷◌, ap, ◌∙◌}
use lib.ListN.{length-replicate}
use Rattle.std.proofs.lemmas.List.{get_or_append_left, get_or-append_right, get_or-replicate}
use Rattle.cores.specs.Widths.{capped}
use Rattle.cores.specs.Ladders.{laid_out, ladder}
use Rattle.cores.specs.declared.ladder.Block.{Block}

module _ (block : Block) (blocks : List Block) (tick : ℕ) where
  -- a tick of the first block
  pub in_first : tick < block.ticks → ladder (block ∷ blocks) tick ≡ capped block.cores
  in_first within =
      ap capped
      (get_or_append_left _ (laid_out blocks) 0 tick (simp length-replicate within)
      ∙ get_or-replicate block.ticks tick block.cores 0 within)

  -- a tick after it
  pub after_first : block.ticks ≤ tick → ladder (block ∷ blocks) tick ≡ ladder blocks (tick - block.ticks)
  after_first past =
      ap capped (get_or-append_right _ (laid_out blocks) block.ticks tick 0 (length-replicate block.ticks block.cores) past)
