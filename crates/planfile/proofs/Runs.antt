-- Reading record after record.
use Rattle.std.proofs.Common.{◌≡◌, ℕ, zero, suc, ◌+◌, ◌-◌, ◌<◌, ◌≤◌, ◌⊎◌, List, [], ◌∷◌, ◌++◌, length, get_or, Some, None, Ok, Err, Option, Result, sym, refl, ap, ◌∙◌, subst, ap₂, inl, inr, ⊎_elim, arith}
use Rattle.std.proofs.lemmas.List.{append-nil, append_assoc, get_or-append-add, length-append}
use Rattle.std.proofs.lemmas.Bool.{cases_Bool, cond-false, cond-true}
use Rattle.planfile.specs.Files.{fault, unless_bad, read_on, Keeps, MadeOf, CutOff, WrongKind, WrongEntry, BadRecord}
use Rattle.planfile.specs.Records.{Entry, kind_of, body_of, encoded, file_of, front_kind, front_body, behind_front, entry_of}
use Rattle.planfile.specs.Rules.{reading_of, last_kind, kind_causes, said_causes, causes, first_cause, entry_cause, cut_short, front_cause}
use Rattle.planfile.specs.declared.cause.Cause.{Cause}
use Rattle.planfile.specs.declared.cause.Fault.{Fault}
use Rattle.planfile.proofs.Bytes.{kind_read, body_read, after_read, whole_read, encoded_size, entry_read, whole_record}
use Rattle.planfile.proofs.Entering.{first_left}

module _ (places : ℕ) where
  -- the cause of a whole record, by its kind and body
  pub whole_cause : (earlier : List Entry) (kind : ℕ) (body after : List ℕ)
      → front_cause places earlier (encoded kind body ++ after) ≡ first_cause (causes places earlier kind (length body) (entry_of kind body))
  whole_cause earlier kind body after =
      cond-false _ _ _ (whole_read kind body after)
      ∙ ap₂ (λ k b. first_cause (causes places earlier k (length b) (entry_of k b))) (kind_read kind body after) (body_read kind body after)

  -- the cause of a record that says something
  pub said_cause : (earlier : List Entry) (entry : Entry) (after : List ℕ)
      → front_cause places earlier (encoded (kind_of entry) (body_of entry) ++ after) ≡ entry_cause places earlier entry
  said_cause earlier entry after =
      whole_cause earlier (kind_of entry) (body_of entry) after
      ∙ ap (λ e. first_cause (causes places earlier (kind_of entry) (length (body_of entry)) e)) (entry_read entry)

  -- a good record is read
  read_one : (most : ℕ) (earlier : List Entry) (entry : Entry) (after : List ℕ) → entry_cause places earlier entry ≡ None
      → read_on (suc most) places earlier (encoded (kind_of entry) (body_of entry) ++ after) ≡ read_on most places (entry ∷ earlier) after
  unfolding read_on
  read_one most earlier entry after good =
      let bytes = encoded (kind_of entry) (body_of entry) ++ after in
      ap (λ cause. unless_bad cause (length (file_of earlier)) (read_on most places (entry_of (front_kind bytes) (front_body bytes) ∷ earlier) (behind_front bytes)))
      (said_cause earlier entry after ∙ good)
      ∙ ap₂ (λ e rest. read_on most places (e ∷ earlier) rest)
      (ap₂ entry_of (kind_read (kind_of entry) (body_of entry) after) (body_read (kind_of entry) (body_of entry) after) ∙ entry_read entry)
      (after_read (kind_of entry) (body_of entry) after)

  -- and so are good records
  read_run : (entries : List Entry) (bytes : List ℕ) (most : ℕ) → Keeps places entries
      → read_on (length entries + most) places [] (file_of entries ++ bytes) ≡ read_on most places entries bytes
  read_run [] bytes most kept = let none : length {A = Entry} [] + most ≡ most = omega arith in ap (λ n. read_on n places [] bytes) none
  read_run (entry ∷ earlier) bytes most kept =
      let record_bytes = encoded (kind_of entry) (body_of entry) in
      let count : length (entry ∷ earlier) + most ≡ length earlier + suc most = omega arith in
      ap₂ (λ n file. read_on n places [] file) count (append_assoc (file_of earlier) record_bytes bytes)
      ∙ read_run earlier (record_bytes ++ bytes) (suc most) kept.0
      ∙ read_one most earlier entry bytes kept.1

  -- there are no more records than bytes
  pub few : (entries : List Entry) → length entries ≤ length (file_of entries)
  few [] = omega arith
  few (entry ∷ earlier) =
      omega (arith, few earlier, length-append (file_of earlier) (encoded (kind_of entry) (body_of entry)), encoded_size (kind_of entry) (body_of entry) [])

  judged : (found : Option Cause) (cause : Cause) (place : ℕ) (after : Result (List Entry) Fault) → found ≡ Some cause → unless_bad found place after ≡ Err (fault cause place)
  judged found cause place after is = ap (λ f. unless_bad f place after) is

  at_nothing : (most : ℕ) (entries : List Entry) → read_on most places entries [] ≡ Ok entries
  unfolding read_on
  at_nothing zero entries = refl
  at_nothing (suc most) entries = refl

  at_front : (most : ℕ) (earlier : List Entry) (bytes : List ℕ) (cause : Cause) → 1 ≤ most → 1 ≤ length bytes → front_cause places earlier bytes ≡ Some cause
      → read_on most places earlier bytes ≡ Err (fault cause (length (file_of earlier)))
  unfolding read_on
  at_front zero earlier bytes cause more some is = absurd (omega arith)
  at_front (suc most) earlier [] cause more some is = absurd (omega arith)
  at_front (suc most) earlier (byte ∷ bytes) cause more some is = judged (front_cause places earlier (byte ∷ bytes)) cause (length (file_of earlier)) _ is

  -- a file that is made of good records is read to its end
  pub read_all : (file : List ℕ) (entries : List Entry) → MadeOf places file entries → read_on (length file) places [] file ≡ Ok entries
  read_all file entries made =
      let size = length (file_of entries) - length entries in
      let enough : length (file_of entries) ≡ length entries + size = omega (arith, few entries) in
      ap (λ f. read_on (length f) places [] f) made.bytes
      ∙ ap₂ (λ n f. read_on n places [] f) enough (sym (append-nil (file_of entries)))
      ∙ read_run entries [] size made.kept
      ∙ at_nothing size entries

  -- what makes a record bad, as the reader tests it
  pub tested : (earlier : List Entry) (bytes : List ℕ) (cause : Cause) → ((i : ℕ) → get_or bytes i 0 < 256)
      → CutOff bytes cause ⊎ (WrongKind earlier bytes cause ⊎ WrongEntry places earlier bytes cause) → front_cause places earlier bytes ≡ Some cause
  tested earlier bytes cause small (inl (is, no_whole)) =
      ⊎_elim
      (λ short. cond-true _ _ _ short ∙ ap Some (sym is))
      (λ whole. absurd (no_whole (front_kind bytes) (front_body bytes) (behind_front bytes) (whole_record bytes small whole)))
      (cases_Bool (cut_short bytes))
  tested earlier bytes cause small (inr (inl (kind, body, after, is, wrong))) =
      ap (front_cause places earlier) is ∙ whole_cause earlier kind body after
      ∙ first_left (kind_causes (last_kind earlier) kind (length body)) (said_causes places (reading_of earlier) (entry_of kind body)) cause wrong
  tested earlier bytes cause small (inr (inr (entry, after, is, wrong))) = ap (front_cause places earlier) is ∙ said_cause earlier entry after ∙ wrong

  -- and up to its first bad record
  pub read_bad : (file : List ℕ) (bad : Fault) → ((i : ℕ) → get_or file i 0 < 256) → BadRecord places file bad → read_on (length file) places [] file ≡ Err bad
  read_bad file bad small at =
      let earlier = at.earlier in
      let bytes = at.bytes in
      let whole = file_of earlier ++ bytes in
      let size = length whole - length earlier in
      let enough : length whole ≡ length earlier + size = omega (arith, few earlier, length-append (file_of earlier) bytes) in
      let left : 1 ≤ size = omega (arith, few earlier, length-append (file_of earlier) bytes, at.some) in
      let small_rest : (i : ℕ) → get_or bytes i 0 < 256 = λ i.
      subst (λ n. n < 256) (ap (λ f. get_or f (length (file_of earlier) + i) 0) at.split ∙ get_or-append-add (file_of earlier) bytes i 0) (small (length (file_of earlier) + i)) in
      ap (λ f. read_on (length f) places [] f) at.split
      ∙ ap (λ n. read_on n places [] whole) enough
      ∙ read_run earlier bytes size at.kept
      ∙ at_front size earlier bytes bad.cause left at.some (tested earlier bytes bad.cause small_rest at.cause)
      ∙ ap (λ place. Err (fault bad.cause place)) (sym at.place)
