-- The stack of a file's layers has the widths that the file grants.
use Rattle.std.proofs.Common.{◌≡◌, ℕ, zero, suc, List, [], ◌∷◌, ◌++◌, get_or, replicate, Option, Some, None, unwrap_or, refl, ap}
use Rattle.std.specs.Option.{UnwrapsOrElse}
use Rattle.cores.specs.Ladders.{ladder, laid_out}
use Rattle.cores.specs.Widths.{capped, held, delayed}
use Rattle.cores.specs.declared.ladder.Block.{Block}
use Rattle.cores.specs.declared.window.Window.{Window}
use Rattle.planfile.specs.Files.{no_block}
use Rattle.planfile.specs.declared.layers.Layers.{Layers}
use Rattle.firmware.specs.Cores.{granted, no_window}

pub same_widths : {blocks blocks' : List Block} {by by' : ℕ} {window window' : Window} (tick : ℕ)
    → blocks ≡ blocks' → by ≡ by' → window ≡ window'
    → held (delayed (ladder blocks) by) window tick ≡ held (delayed (ladder blocks') by') window' tick
same_widths tick b k w = λ i. held (delayed (ladder (b i)) (k i)) (w i) tick

-- what is absent counts as its type's default
pub or_default : {T : Type 0} {IsDefault : T → Type 0} {default : T} → ((value : T) → IsDefault value → value ≡ default)
    → (held : Option T) (value : T) → UnwrapsOrElse held IsDefault value → value ≡ unwrap_or held default
or_default same None value is = same value is
or_default same (Some other) value is = is

-- places that no block fills add no tick
laid_zeros : (count : ℕ) → laid_out (replicate count no_block) ≡ []
laid_zeros zero = refl
laid_zeros (suc count) = laid_zeros count

laid_with_zeros : (blocks : List Block) (count : ℕ) → laid_out (blocks ++ replicate count no_block) ≡ laid_out blocks
laid_with_zeros [] count = laid_zeros count
laid_with_zeros (block ∷ blocks) count = ap (λ l. replicate block.ticks block.cores ++ l) (laid_with_zeros blocks count)

pub granted_with_zeros : (blocks : List Block) (count : ℕ) (layers : Layers) (tick : ℕ) → granted (blocks ++ replicate count no_block) layers tick ≡ granted blocks layers tick
unfolding granted
granted_with_zeros blocks count layers tick =
    let same : ladder (blocks ++ replicate count no_block) ≡ ladder blocks = λ i at. capped (get_or (laid_with_zeros blocks count i) at 0) in
    ap (λ width. held (delayed width (unwrap_or layers.late 0)) (unwrap_or layers.hold_back no_window) tick) same
