-- Values in places of which the last are blank.
use Rattle.std.specs.Prelude.{◌≡◌, ℕ, ◌-◌, ◌≤◌, List, ◌++◌, length, drop, replicate}

-- So many places: those of the values, and blanks after them.
abbrev pub filled : {T : Type 0} → ℕ → T → List T → List T
filled size blank values = values ++ replicate (size - length values) blank

-- So many places of which the first `len` hold values, and the others are blank.
pub record IsFilled {T : Type 0} (size : ℕ) (blank : T) (len : ℕ) (places : List T) : Type 0 where
  pub few : len ≤ size
  pub sized : length places ≡ size
  pub blanks : drop len places ≡ replicate (size - len) blank
