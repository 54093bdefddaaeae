-- The refusals of a draft by number.
use Rattle.std.specs.Prelude.{ℕ, Some, None, Option}
use Rattle.graph.specs.declared.refusal.Refusal.{Refusal}
use Rattle.graph.specs.declared.refusal.Refusal.TheVariants.{OutOfRange, TooManySteps, NotRising, EdgeTwice, Incomplete, ImpliedEdge}

-- The number of a refusal.
abbrev pub number_of : Refusal → ℕ
number_of OutOfRange = 5
number_of TooManySteps = 6
number_of NotRising = 7
number_of EdgeTwice = 8
number_of Incomplete = 9
number_of (ImpliedEdge edge) = 10

-- What is returned with the number: the place of an implied edge in the order of adding, from 0; with the others nothing.
abbrev pub place_of : Refusal → Option ℕ
place_of OutOfRange = None
place_of TooManySteps = None
place_of NotRising = None
place_of EdgeTwice = None
place_of Incomplete = None
place_of (ImpliedEdge edge) = Some edge
