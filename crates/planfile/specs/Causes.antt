-- The causes for which a file is refused, by number.
use Rattle.std.specs.Prelude.{ℕ}
use Rattle.planfile.specs.declared.cause.Cause.{Cause}
use Rattle.planfile.specs.declared.cause.Cause.TheVariants.{CutShort, UnknownKind, BodyLength, OutOfOrder, NoRoom, OutOfRange, NotRising, EdgeTwice, Incomplete, ImpliedEdge}

abbrev pub cause_number : Cause → ℕ
cause_number CutShort = 1
cause_number UnknownKind = 2
cause_number BodyLength = 3
cause_number OutOfOrder = 4
cause_number OutOfRange = 5
cause_number NoRoom = 6
cause_number NotRising = 7
cause_number EdgeTwice = 8
cause_number Incomplete = 9
cause_number ImpliedEdge = 10
