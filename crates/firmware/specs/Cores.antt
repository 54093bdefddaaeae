-- The cores that a file grants at each tick.
use Rattle.std.specs.Prelude.{ℕ, ◌≤◌, List}
use Rattle.std.specs.Option.{unwrap_or}
use Rattle.cores.specs.Ladders.{ladder}
use Rattle.cores.specs.Narrow.{ladder_narrow, held_narrow, delayed_narrow}
use Rattle.cores.specs.Widths.{held, delayed}
use Rattle.cores.specs.declared.ladder.Block.{Block}
use Rattle.cores.specs.declared.window.Window.{Window}
use Rattle.planfile.specs.declared.layers.Layers.{Layers}
use Rattle.firmware.specs.declared.file_cores.FileCores.{FileCores}

-- Nothing is held back.
abbrev pub no_window : Window
no_window = record { cores = 0; from = 0; until = 0 }

-- Hold-back over late over the ladder of the blocks, with 0 cores or 0 ticks for a layer that is absent.
unfoldable pub granted : List Block → Layers → ℕ → ℕ
granted blocks layers tick =
    held (delayed (ladder blocks) (unwrap_or layers.late 0)) (unwrap_or layers.hold_back no_window) tick

-- The same of the stack that is built.
abbrev pub width_of : FileCores → ℕ → ℕ
width_of cores tick =
    held (delayed (ladder cores.stack.below.below.blocks.now) cores.stack.below.by) cores.stack.window tick

pub width_narrow : (cores : FileCores) (tick : ℕ) → width_of cores tick ≤ 64
width_narrow cores tick =
    let blocks = cores.stack.below.below.blocks.now in
    held_narrow (delayed (ladder blocks) cores.stack.below.by) (delayed_narrow (ladder blocks) (ladder_narrow blocks) cores.stack.below.by)
    cores.stack.window tick
