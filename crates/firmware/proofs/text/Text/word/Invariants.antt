use Rattle.std.proofs.Common.{◌≡◌, take}
use Rattle.firmware.specs.Text.{content, written}
use Rattle.firmware.proofs.text.Text.word.Given as goal

-- the bytes before this one are written
abbrev pub invariant-loop-byte : goal.invariant-loop-byte
invariant-loop-byte l = content l.self ≡ written (content l.fn.self) (take l.byte-index l.word)
