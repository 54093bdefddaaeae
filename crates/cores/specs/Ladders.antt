-- The widths of a ladder of blocks.
use Rattle.std.specs.Prelude.{ℕ, List, [], ◌∷◌, ◌++◌, replicate, slice_index}
use Rattle.cores.specs.Widths.{capped}
use Rattle.cores.specs.declared.ladder.Block.{Block}

-- The cores of each tick, block after block from tick 0.
abbrev pub laid_out : List Block → List ℕ
laid_out [] = []
laid_out (block ∷ blocks) = replicate block.ticks block.cores ++ laid_out blocks

-- The width at a tick: the cores that the blocks have there, and none after the last block.
abbrev pub ladder : List Block → ℕ → ℕ
ladder blocks tick = capped (slice_index (laid_out blocks) tick)
