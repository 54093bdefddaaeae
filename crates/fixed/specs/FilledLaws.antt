-- Proofs that places are known by their values, and that one value more leaves the others blank.
use Rattle.std.specs.Prelude.{◌≡◌, ℕ, ◌+◌, ◌-◌, ◌<◌, List, length, take, replicate, slice_set}
use Rattle.std.proofs.Common.{arith, ap, ◌∙◌, length-set}
use Rattle.std.proofs.lemmas.List.{take-append-drop, length-take-le, drop-set-lt, drop-drop, drop-replicate}
use Rattle.fixed.specs.Filled.{filled, IsFilled}

module _ {T : Type 0} (size : ℕ) (blank : T) (len : ℕ) (places : List T) (held : IsFilled size blank len places) where
  pub length-values : length (take len places) ≡ len
  length-values = length-take-le len places (omega (arith, held.few, held.sized))

  -- The values fill the places again.
  pub filled-values : filled size blank (take len places) ≡ places
  filled-values = rw (length-values, ← held.blanks) (take-append-drop len places)

  -- A value more takes the first blank place.
  pub IsFilled-push : (value : T) → len < size → IsFilled size blank (len + 1) (slice_set places len value)
  IsFilled-push value room = record {
    few = omega (arith, room);
    sized = length-set places len value ∙ held.sized;
    blanks = rw (drop-set-lt (len + 1) places len value (omega arith), ← drop-drop 1 len places, held.blanks, drop-replicate 1 (size - len) blank)
        (ap (λ n. replicate n blank) (omega arith));
  }
