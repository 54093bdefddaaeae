use Rattle.std.proofs.Common.{◌≡◌, drop}
use Rattle.cores.specs.Ladders.{ladder}
use Rattle.cores.proofs.ladder.LadderSupply.width_at.Given as goal

-- the ticks that are left fall into the blocks that are left as the tick does into all
abbrev pub invariant-loop-block : goal.invariant-loop-block
invariant-loop-block l = ladder (drop l.block-index l.block-items) l.left ≡ ladder l.self.blocks.now l.tick
