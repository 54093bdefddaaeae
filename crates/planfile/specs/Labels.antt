-- The labels of a file's steps.
use Rattle.std.specs.Prelude.{◌≡◌, ℕ, ◌+◌, ◌≤◌, ◌↔◌, List, [], ◌∷◌, ◌++◌, length, take, drop, Some, None, Ok, Err, Option, Result}
use Rattle.std.specs.List.{slice_get}
use Rattle.planfile.specs.Files.{Accepted, outcome}
use Rattle.planfile.specs.Records.{Entry, deadline, step, edge, block, hold_back, late, file_of}
use Rattle.planfile.specs.Rules.{reading_of}
use Rattle.planfile.specs.declared.cause.Fault.{Fault}

-- The label of a record that begins at a place, if it is a step's: it stands behind the header and the time.
abbrev pub label_in : ℕ → Entry → List (ℕ × List ℕ)
label_in place (deadline ticks) = []
label_in place (step time label) = (place + 6, label) ∷ []
label_in place (edge from to) = []
label_in place (block cores ticks) = []
label_in place (hold_back cores from until) = []
label_in place (late ticks) = []

-- The labels of all steps by number: the byte at which each begins, and its bytes.
abbrev pub labels_in : List Entry → List (ℕ × List ℕ)
labels_in [] = []
labels_in (entry ∷ earlier) = labels_in earlier ++ label_in (length (file_of earlier)) entry

-- A step's label: absent where the file is refused or has no such step.
abbrev pub label_by : Result (List Entry) Fault → ℕ → Option (ℕ × List ℕ)
label_by (Ok entries) number = slice_get (labels_in entries) number
label_by (Err bad) number = None

-- A file is read with 64 places for blocks.
unfoldable pub label_of : List ℕ → ℕ → Option (ℕ × List ℕ)
label_of file number = label_by (outcome 64 file) number

-- What makes some bytes the label of a step: the file is accepted, a step's record has them that has so many steps before it, and they stand in the file behind
-- that record's header and time.
pub record LabelOf (file : List ℕ) (number place : ℕ) (label : List ℕ) : Type 0 where
  pub entries : List Entry
  pub accepted : Accepted 64 file entries
  pub later : List Entry
  pub time : ℕ
  pub earlier : List Entry
  pub parts : entries ≡ later ++ (step time label ∷ earlier)
  pub numbered : length (reading_of earlier).held.times ≡ number
  pub begins : place ≡ length (file_of earlier) + 6
  pub within : place + length label ≤ length file
  pub bytes : take (length label) (drop place file) ≡ label

-- A label is answered just where there is one.
abbrev pub LabelLaw : List ℕ → ℕ → Type 0
LabelLaw file number = (place : ℕ) (label : List ℕ) → (label_of file number ≡ Some (place, label)) ↔ LabelOf file number place label
