-- How long the text of an answer is at most, and that no byte of it is 0.
use Rattle.std.proofs.Common.{ℕ, ◌+◌, ◌^◌, ◌<◌, ◌≤◌, Bool, true, false, List, [], ◌∷◌, ◌++◌, length, codes, decimal, arith, length-append, rules}
use Rattle.std.specs.List.{AllByRecursion as All}
use Rattle.std.proofs.lemmas.Fmt.{length-decimal-le, decimal_by_steps}
use Rattle.std.proofs.ByRecursion.{All-append}
use Rattle.certificate.specs.Refusals.{refusal_of}
use Rattle.certificate.specs.declared.certificate.Certificate.{Certificate}
use Rattle.planfile.specs.Causes.{cause_number}
use Rattle.planfile.specs.declared.cause.Cause.{Cause}
use Rattle.planfile.specs.declared.cause.Cause.TheVariants.{CutShort, UnknownKind, BodyLength, OutOfOrder, NoRoom, OutOfRange, NotRising, EdgeTwice, Incomplete, ImpliedEdge}
use Rattle.planfile.specs.declared.cause.Fault.{Fault}
use Rattle.firmware.specs.Text.{line, verdict, certificate_text, fault_text}

-- at most so many bytes, and none of them 0
pub record Clear (most : ℕ) (text : List ℕ) : Type 0 where
  pub fits : length text ≤ most
  pub whole : All (λ byte. 0 < byte) text

wider : {most more : ℕ} {text : List ℕ} → most ≤ more → Clear most text → Clear more text
wider least clear = record { fits = omega (arith, clear.fits); whole = clear.whole }

joined : {m n : ℕ} (first second : List ℕ) → Clear m first → Clear n second → Clear (m + n) (first ++ second)
joined first second one two = record {
  fits = omega (arith, length-append first second, one.fits, two.fits);
  whole = All-append _ first second one.whole two.whole;
}

decimal_clear : (most n : ℕ) → 0 < most → n < 10 ^ most → n < 2 ^ 64 → Clear most (decimal n)
decimal_clear most n some short small = record {
  fits = length-decimal-le most n some short small;
  whole = decimal_by_steps (λ _ ds. All (λ byte. 0 < byte) ds) (λ m under. (omega arith, tt)) (λ m ds more before. All-append _ ds _ before (omega arith, tt)) n small;
}

line_clear : {m : ℕ} (word : List ℕ) (most n : ℕ) → Clear m word → 0 < most → n < 10 ^ most → n < 2 ^ 64 → Clear (m + most + 1) (line word n)
line_clear word most n clear some short small =
    let feed : Clear 1 (10 ∷ []) = search rules in
    joined (word ++ decimal n) (10 ∷ []) (joined word (decimal n) clear (decimal_clear most n some short small)) feed

verdict_clear : (certified : Bool) → Clear 11 (verdict (refusal_of certified))
verdict_clear true = search rules
verdict_clear false =
    let word : Clear 8 (codes "refused ") = search rules in
    line_clear (codes "refused ") 2 11 word (omega arith) (omega arith) (omega arith)

pub certificate_clear : (certificate : Certificate) → certificate.volume < 2 ^ 32 → certificate.length < 2 ^ 32 → certificate.deadline < 2 ^ 16 → certificate.least < 2 ^ 64 → Clear 128 (certificate_text certificate)
unfolding certificate_text
certificate_clear certificate volume long deadline least =
    let volume_word : Clear 7 (codes "volume ") = search rules in
    let length_word : Clear 7 (codes "length ") = search rules in
    let deadline_word : Clear 9 (codes "deadline ") = search rules in
    let least_word : Clear 6 (codes "least ") = search rules in
    let one = line_clear (codes "volume ") 10 certificate.volume volume_word (omega arith) (omega arith) (omega arith) in
    let two = line_clear (codes "length ") 10 certificate.length length_word (omega arith) (omega arith) (omega arith) in
    let three = line_clear (codes "deadline ") 5 certificate.deadline deadline_word (omega arith) (omega arith) (omega arith) in
    let four = line_clear (codes "least ") 20 certificate.least least_word (omega arith) (omega arith) (omega arith) in
    wider (omega arith) (joined _ _ (joined _ _ (joined _ _ (joined _ _ one two) three) four) (verdict_clear certificate.certified))

-- the causes are numbered from 1 to 10
pub cause_from : (cause : Cause) → (1 ≤ cause_number cause) × (cause_number cause ≤ 10)
cause_from CutShort = search rules
cause_from UnknownKind = search rules
cause_from BodyLength = search rules
cause_from OutOfOrder = search rules
cause_from NoRoom = search rules
cause_from OutOfRange = search rules
cause_from NotRising = search rules
cause_from EdgeTwice = search rules
cause_from Incomplete = search rules
cause_from ImpliedEdge = search rules

pub fault_clear : (fault : Fault) → fault.place < 2 ^ 64 → Clear 128 (fault_text fault)
unfolding fault_text
fault_clear fault place =
    let few = (cause_from fault.cause).1 in
    let refused_word : Clear 8 (codes "refused ") = search rules in
    let at_word : Clear 4 (codes " at ") = search rules in
    let number = decimal_clear 2 (cause_number fault.cause) (omega arith) (omega arith) (omega arith) in
    let at = line_clear (codes " at ") 20 fault.place at_word (omega arith) (omega arith) (omega arith) in
    wider (omega arith) (joined _ _ (joined _ _ refused_word number) at)
