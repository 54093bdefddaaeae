use Rattle.std.proofs.Common.{refl}
use Rattle.firmware.proofs.Cutting.{written-written}
use Rattle.firmware.proofs.text.Text.line.Goals as goal

pub returns : goal.returns
returns c = simp (c.word-2.ensures, c.number.ensures, c.word.ensures, written-written) refl
