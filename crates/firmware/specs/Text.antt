-- The text of an answer, and how it lies in 128 bytes.
use Rattle.std.specs.Prelude.{◌≡◌, ℕ, ◌<◌, List, [], ◌∷◌, ◌++◌, take, Some, None, Ok, Err, codes, decimal, Option, Result, slice_index}
use Rattle.std.specs.Str.Parse.{IsNumeral, digits_value}
use Rattle.certificate.specs.Refusals.{number_of, refusal_of}
use Rattle.certificate.specs.declared.certificate.Certificate.{Certificate}
use Rattle.certificate.specs.declared.certificate.NotCertified.{NotCertified}
use Rattle.planfile.specs.Causes.{cause_number}
use Rattle.planfile.specs.declared.cause.Fault.{Fault}
use Rattle.fixed.specs.Filled.{filled}
use Rattle.fixed.specs.Values.{values}
use Rattle.firmware.specs.declared.text.Text.{Text}

-- What a text holds: its bytes before the zeros.
abbrev pub content : Text → List ℕ
content text = values text.list

-- The 128 bytes in which a text lies: the text, and then zeros.
abbrev pub bytes_of : List ℕ → List ℕ
bytes_of text = filled 128 0 text

-- A text after a piece is written to it: as many bytes of both as have room.
abbrev pub written : List ℕ → List ℕ → List ℕ
written text piece = take 128 (text ++ piece)

-- A word, a number in decimal and a line feed.
abbrev pub line : List ℕ → ℕ → List ℕ
line word number = word ++ decimal number ++ (10 ∷ [])

abbrev pub verdict : Option NotCertified → List ℕ
verdict None = codes "certified" ++ (10 ∷ [])
verdict (Some refusal) = line (codes "refused ") (number_of refusal)

unfoldable pub certificate_text : Certificate → List ℕ
certificate_text certificate =
    line (codes "volume ") certificate.volume
    ++ line (codes "length ") certificate.length
    ++ line (codes "deadline ") certificate.deadline
    ++ line (codes "least ") certificate.least
    ++ verdict (refusal_of certificate.certified)

unfoldable pub fault_text : Fault → List ℕ
fault_text fault = codes "refused " ++ decimal (cause_number fault.cause) ++ line (codes " at ") fault.place

abbrev pub text_of : Result Certificate Fault → List ℕ
text_of (Ok certificate) = certificate_text certificate
text_of (Err fault) = fault_text fault

-- The text of an answer in its 128 bytes.
unfoldable pub laid_out : Result Certificate Fault → List ℕ
laid_out answer = bytes_of (text_of answer)

-- The decimal digits of a number are digits and read back as the number, and only 0 begins with the digit 0, which is 48.
abbrev pub Legible : ℕ → Type 0
Legible number = IsNumeral 10 (decimal number) × (digits_value 10 (decimal number) ≡ number) × (0 < number → 48 < slice_index (decimal number) 0)
