-- Records and the bytes that they are laid out in.
use Rattle.std.proofs.Common.{◌≡◌, ℕ, ◌+◌, ◌-◌, ◌*◌, ◌/◌, ◌%◌, ◌<◌, ◌≤◌, true, false, ltb, List, [], ◌∷◌, ◌++◌, length, get_or, take, drop, sym, refl, ap, ◌∙◌, ap₂, arith}
use Rattle.std.specs.List.{IsSplitAt}
use Rattle.std.proofs.lemmas.List.{take_all, length-append, length-drop, length-take-le, take-append-drop, take_at, drop_at}
use Rattle.std.proofs.lemmas.Bool.{both_ways, le-ltb, ltb-false, or_from, or_parts}
use Rattle.planfile.specs.Records.{Entry, deadline, step, edge, block, hold_back, late, kind_of, body_of, encoded, number_at, front_kind, front_body, behind_front, entry_of}
use Rattle.planfile.specs.Rules.{cut_short}

-- a list of four or more by its first four
four_first : (bytes : List ℕ) → 4 ≤ length bytes → bytes ≡ get_or bytes 0 0 ∷ (get_or bytes 1 0 ∷ (get_or bytes 2 0 ∷ (get_or bytes 3 0 ∷ drop 4 bytes)))
four_first [] enough = absurd (omega arith)
four_first (a ∷ []) enough = absurd (omega arith)
four_first (a ∷ (b ∷ [])) enough = absurd (omega arith)
four_first (a ∷ (b ∷ (c ∷ []))) enough = absurd (omega arith)
four_first (a ∷ (b ∷ (c ∷ (d ∷ rest)))) enough = refl

-- the record at the front of some bytes, put together again from its parts
pub from_parts : (bytes body after : List ℕ) (kind : ℕ) → 4 ≤ length bytes
    → get_or bytes 0 0 < 256 → get_or bytes 2 0 < 256
    → length body ≡ get_or bytes 0 0 + get_or bytes 1 0 * 256
    → kind ≡ get_or bytes 2 0 + get_or bytes 3 0 * 256
    → drop 4 bytes ≡ body ++ after
    → bytes ≡ encoded kind body ++ after
from_parts bytes body after kind enough low_length low_kind size is_kind rest =
    four_first bytes enough
    ∙ ap₂ ◌∷◌ (omega arith) (ap₂ ◌∷◌ (omega arith) (ap₂ ◌∷◌ (omega arith) (ap₂ ◌∷◌ (omega arith) rest)))

-- the bytes after a header, put together again after they were split
pub split_again : (bytes body after : List ℕ) (n : ℕ) → IsSplitAt (take (length bytes - 4) (drop 4 bytes)) n body after → drop 4 bytes ≡ body ++ after
split_again bytes body after n parts =
    sym (ap₂ ◌++◌ parts.1 parts.2 ∙ take-append-drop n (take (length bytes - 4) (drop 4 bytes)) ∙ take_all (length bytes - 4) (drop 4 bytes) (simp length-drop (omega arith)))

-- a number that was laid out is read back
two_read : (n : ℕ) → n % 256 + 256 * (n / 256) ≡ n
two_read n = omega arith

-- and so is a record, whatever comes after it
module _ (kind : ℕ) (body after : List ℕ) where
  size_read : number_at (encoded kind body ++ after) 0 ≡ length body
  size_read = two_read (length body)

  pub kind_read : front_kind (encoded kind body ++ after) ≡ kind
  kind_read = two_read kind

  pub body_read : front_body (encoded kind body ++ after) ≡ body
  body_read = ap (λ n. take n (body ++ after)) size_read ∙ take_at body after (length body) refl

  pub after_read : behind_front (encoded kind body ++ after) ≡ after
  after_read = ap (λ n. drop n (body ++ after)) size_read ∙ drop_at body after (length body) refl

  pub encoded_size : length (encoded kind body ++ after) ≡ 4 + (length body + length after)
  encoded_size = omega (arith, length-append body after)

  pub whole_read : cut_short (encoded kind body ++ after) ≡ false
  whole_read =
      or_from _ _
      (le-ltb (length (encoded kind body ++ after)) 4 (omega (arith, encoded_size)))
      (le-ltb (length (encoded kind body ++ after)) (4 + number_at (encoded kind body ++ after) 0) (omega (arith, encoded_size, size_read)))

-- what a record says is read back from its body
pub entry_read : (entry : Entry) → entry_of (kind_of entry) (body_of entry) ≡ entry
entry_read (deadline ticks) = ap deadline (two_read ticks)
entry_read (step time label) = ap (λ n. step n label) (two_read time)
entry_read (edge from to) = refl
entry_read (block cores ticks) = ap (block cores) (two_read ticks)
entry_read (hold_back cores from until) = ap₂ (hold_back cores) (two_read from) (two_read until)
entry_read (late ticks) = ap late (two_read ticks)

-- bytes that are not cut short begin with a record, and those that are do not
pub whole_record : (bytes : List ℕ) → ((i : ℕ) → get_or bytes i 0 < 256) → cut_short bytes ≡ false → bytes ≡ encoded (front_kind bytes) (front_body bytes) ++ behind_front bytes
whole_record bytes small whole =
    let parts = or_parts (ltb (length bytes) 4) (ltb (length bytes) (4 + number_at bytes 0)) whole in
    let header : 4 ≤ length bytes = ltb-false (length bytes) 4 parts.0 in
    let body : 4 + number_at bytes 0 ≤ length bytes = ltb-false (length bytes) (4 + number_at bytes 0) parts.1 in
    let size : length (front_body bytes) ≡ number_at bytes 0 = length-take-le (number_at bytes 0) (drop 4 bytes) (simp length-drop (omega arith)) in
    from_parts bytes (front_body bytes) (behind_front bytes) (front_kind bytes) header (small 0) (small 2) (omega (arith, size)) (omega arith)
    (sym (take-append-drop (number_at bytes 0) (drop 4 bytes)))

pub no_record : (bytes : List ℕ) → cut_short bytes ≡ true → (kind : ℕ) (body after : List ℕ) → bytes ≡ encoded kind body ++ after → ⊥
no_record bytes short kind body after is = both_ways (cut_short bytes) (ap cut_short is ∙ whole_read kind body after) short
