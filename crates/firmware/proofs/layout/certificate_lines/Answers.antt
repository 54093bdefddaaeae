use Rattle.std.proofs.Common.{◌≡◌, ℕ, List, ◌++◌, append_assoc, codes, Some, None, refl}
use Rattle.firmware.specs.Text.{content, line, verdict, written, certificate_text}
use Rattle.firmware.proofs.Cutting.{written-written}
use Rattle.firmware.proofs.layout.certificate_lines.Goals as goal

-- five pieces, one after the other, are one piece
five_written : (text a b c d e : List ℕ) → written (written (written (written (written text a) b) c) d) e ≡ written text (a ++ b ++ c ++ d ++ e)
five_written text a b c d e = simp (written-written, append_assoc) refl

pub returns-in-None : goal.returns-in-None
unfolding certificate_text
returns-in-None c =
    let certificate = c.args.certificate in
    rw (c.word.ensures, c.line-4.ensures, c.line-3.ensures, c.line-2.ensures, c.line.ensures, c.from.ensures, c.from-2.ensures, c.from-3.ensures, ← c.refusal.ensures, c.in-None.is)
    (five_written (content c.args.text.now) (line (codes "volume ") certificate.volume) (line (codes "length ") certificate.length) (line (codes "deadline ") certificate.deadline) (line (codes "least ") certificate.least) (verdict None))

pub returns-in-Some : goal.returns-in-Some
unfolding certificate_text
returns-in-Some c =
    let certificate = c.args.certificate in
    rw (c.line-in-Some.ensures, c.line-4.ensures, c.line-3.ensures, c.line-2.ensures, c.line.ensures, c.from.ensures, c.from-2.ensures, c.from-3.ensures, c.from-in-Some.ensures, c.number.ensures, ← c.refusal.ensures, c.in-Some.is)
    (five_written (content c.args.text.now) (line (codes "volume ") certificate.volume) (line (codes "length ") certificate.length) (line (codes "deadline ") certificate.deadline) (line (codes "least ") certificate.least) (verdict (Some c.in-Some.refusal)))
