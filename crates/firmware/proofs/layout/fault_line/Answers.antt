use Rattle.std.proofs.Common.{append_assoc, refl}
use Rattle.firmware.specs.Text.{fault_text}
use Rattle.firmware.proofs.Cutting.{written-written}
use Rattle.firmware.proofs.layout.fault_line.Goals as goal

pub returns : goal.returns
unfolding fault_text
returns c = simp (c.line.ensures, c.number-2.ensures, c.from.ensures, c.number.ensures, c.word.ensures, written-written, append_assoc) refl
