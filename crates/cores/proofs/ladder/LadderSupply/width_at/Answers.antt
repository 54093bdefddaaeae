use Rattle.std.proofs.Common.{◌≡◌, ◌+◌, ◌-◌, get_or, drop, sym, ap, ◌∙◌, arith, rules}
use Rattle.std.proofs.lemmas.List.{at_drop_more, at_drop_all}
use Rattle.cores.specs.Ladders.{ladder}
use Rattle.cores.specs.declared.ladder.Block.{Block}
use Rattle.cores.proofs.Ladders.{in_first, after_first}
use Rattle.cores.proofs.ladder.LadderSupply.width_at.Goals as goal

-- what `get_or` gives past the list's end
abbrev no_block : Block
no_block = record { cores = 0; ticks = 0 }

pub returns-then-left-ticks : goal.returns-then-left-ticks
returns-then-left-ticks c =
    let blocks = c.args.self.now.blocks.now in
    let i = c.loop-block.block-index in
    let left = c.loop-block.left in
    let next = at_drop_more (λ rest. ladder rest left) blocks i no_block c.loop-block-test.true in
    let here = in_first (get_or blocks i no_block) (drop (i + 1) blocks) left (search rules) in
    c.min.ensures ∙ sym here ∙ sym next ∙ c.loop-block.invariant

pub loop-block-preserved : goal.loop-block-preserved
loop-block-preserved c =
    let blocks = c.args.self.now.blocks.now in
    let i = c.loop-block.block-index in
    let left = c.loop-block.left in
    let next = at_drop_more (λ rest. ladder rest left) blocks i no_block c.loop-block-test.true in
    let later = after_first (get_or blocks i no_block) (drop (i + 1) blocks) left (search rules) in
    let less : left - c.from-ticks.result ≡ left - (get_or blocks i no_block).ticks = omega arith in
    ap (ladder (drop (i + 1) blocks)) less ∙ sym later ∙ sym next ∙ c.loop-block.invariant

pub returns : goal.returns
returns c =
    let end = at_drop_all (λ rest. ladder rest c.loop-block.left) c.args.self.now.blocks.now c.loop-block.block-index c.loop-block-test.false in
    sym end ∙ c.loop-block.invariant
