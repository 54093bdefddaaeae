-- What a place of 128 bytes keeps of what is written to it, one piece after another.
use Rattle.std.proofs.Common.{◌≡◌, ℕ, zero, suc, false, ◌<◌, ◌≤◌, ◌↔◌, List, [], ◌∷◌, ◌++◌, length, take, Ok, Err, Result, IsOk, OnOk, OnErr, sym, refl, ap, ◌∙◌, ⊎_elim, append_assoc, arith}
use Rattle.std.proofs.lemmas.List.{take_all, take-append-le, length_push}
use Rattle.std.proofs.lemmas.Bool.{both_ways, cases_lt}
use Rattle.firmware.specs.Text.{written}

cut_again : (n : ℕ) (xs ys : List ℕ) → take n (take n xs ++ ys) ≡ take n (xs ++ ys)
cut_again zero xs ys = refl
cut_again (suc n) [] ys = refl
cut_again (suc n) (x ∷ xs) ys = ap (λ zs. x ∷ zs) (cut_again n xs ys)

-- two pieces, one after the other, are one piece
pub written-written : (text first second : List ℕ) → written (written text first) second ≡ written text (first ++ second)
written-written text first second = cut_again 128 (text ++ first) second ∙ ap (take 128) (append_assoc text first second)

-- a byte more in what is seen of a list, or the same where there is no room for it
pub pushed : {E A : Type 0} (seen : A → List ℕ) (before after : A) (byte : ℕ) (answer : Result Unit E) → length (seen before) ≤ 128
    → IsOk answer ↔ (length (seen before) < 128) → OnOk answer (seen after ≡ seen before ++ byte ∷ []) → OnErr answer (after ≡ before) → seen after ≡ written (seen before) (byte ∷ [])
pushed seen before after byte (Ok done) few room ok err = ok ∙ sym (take_all 128 (seen before ++ byte ∷ []) (omega (arith, length_push (seen before) byte, room.0 refl)))
pushed seen before after byte (Err e) few room ok err =
    let text = seen before in
    ap seen err ∙ sym (take_all 128 text few) ∙ sym (take-append-le 128 text (byte ∷ []) (⊎_elim (λ less. absurd (both_ways false refl (room.1 less))) (λ full. full) (cases_lt (length text) 128)))
