use Rattle.std.proofs.Common.{◌≡◌, ℕ, ◌^◌, ◌<◌, ◌≤◌, List, [], length, Ok, Err, Result, ap, ◌∙◌, arith}
use Rattle.std.specs.List.{All}
use Rattle.std.proofs.lemmas.Fmt.{decimal_is_IsNumeral, first_decimal}
use Rattle.std.proofs.lemmas.List.{take_all}
use Rattle.std.proofs.lemmas.List.Elements.{All-from_recursion}
use Rattle.certificate.specs.declared.certificate.Certificate.{Certificate}
use Rattle.planfile.specs.declared.cause.Fault.{Fault}
use Rattle.firmware.specs.Text.{bytes_of, content, written, text_of, laid_out, Legible}
use Rattle.firmware.proofs.Sizes.{Clear, certificate_clear, fault_clear}
use Rattle.firmware.proofs.layout.lay_out.Goals as goal

legible : (number : ℕ) → number < 2 ^ 64 → Legible number
legible number small = ((decimal_is_IsNumeral number small).0, (decimal_is_IsNumeral number small).1, λ some. first_decimal number some small)

-- a text that is written from nothing is whole, as it fits
laid : (answer : Result Certificate Fault) (text : List ℕ) → text ≡ written [] (text_of answer) → Clear 128 (text_of answer)
    → record { bytes : bytes_of text ≡ laid_out answer; content : text ≡ text_of answer; fits : length (text_of answer) ≤ 128; whole : All (λ byte. 0 < byte) (text_of answer); legible : (number : ℕ) → number < 2 ^ 64 → Legible number }
unfolding laid_out
laid answer text is clear =
    let content = is ∙ take_all 128 (text_of answer) clear.fits in
    record { bytes = ap bytes_of content; content = content; fits = clear.fits; whole = All-from_recursion (λ byte. 0 < byte) (text_of answer) clear.whole; legible = legible }

pub returns-in-Ok : goal.returns-in-Ok
returns-in-Ok c =
    rw c.in-Ok.is (laid (Ok c.in-Ok.certificate) (content c.certificate_lines.new.text) (rw c.new-text.ensures at c.certificate_lines.ensures) (certificate_clear c.in-Ok.certificate (omega arith) (omega arith) (omega arith) (omega arith)))

pub returns-in-Err : goal.returns-in-Err
returns-in-Err c =
    rw c.in-Err.is (laid (Err c.in-Err.fault) (content c.fault_line.new.text) (rw c.new-text.ensures at c.fault_line.ensures) (fault_clear c.in-Err.fault (omega arith)))
