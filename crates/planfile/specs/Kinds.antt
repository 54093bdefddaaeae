-- Kinds of records and their numbers.
use Rattle.std.specs.Prelude.{◌≡◌, ℕ, true, Some, None, Ok, Err, Option, Result}
use Rattle.planfile.specs.Rules.{unknown}
use Rattle.planfile.specs.declared.cause.Cause.{Cause}
use Rattle.planfile.specs.declared.cause.Cause.TheVariants.{UnknownKind}
use Rattle.planfile.specs.declared.kind.Kind.{Kind}
use Rattle.planfile.specs.declared.kind.Kind.TheVariants.{Deadline, Step, Edge, Block, HoldBack, Late}

abbrev pub kind_number : Kind → ℕ
kind_number Deadline = 1
kind_number Step = 2
kind_number Edge = 3
kind_number Block = 4
kind_number HoldBack = 5
kind_number Late = 6

-- The kind of the last record, 0 before the first.
abbrev pub last_number : Option Kind → ℕ
last_number None = 0
last_number (Some kind) = kind_number kind

-- The kind of a number, or that there is none.
abbrev pub Numbered : ℕ → Result Kind Cause → Type 0
Numbered number (Ok kind) = number ≡ kind_number kind
Numbered number (Err cause) = (unknown number ≡ true) × (cause ≡ UnknownKind)
