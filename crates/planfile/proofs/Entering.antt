-- The first cause that holds.
use Rattle.std.proofs.Common.{◌≡◌, Bool, true, false, List, [], ◌∷◌, ◌++◌, Some, None, Ok, Err, Option, refl}
use Rattle.planfile.specs.Cutting.{refused_by}
use Rattle.planfile.specs.Rules.{first_cause}
use Rattle.planfile.specs.declared.cause.Cause.{Cause}

-- an answer tells whether there was a cause, and which
pub was_some : {cause : Cause} (found : Option Cause) → Err cause ≡ refused_by found → found ≡ Some cause
was_some None is = absurd (cc)
was_some (Some other) is = cc

pub was_none : (found : Option Cause) → Ok tt ≡ refused_by found → found ≡ None
was_none None is = refl
was_none (Some cause) is = absurd (cc)

-- the first cause of two lists, one after the other
pub first_left : (tests more : List (Bool × Cause)) (cause : Cause) → first_cause tests ≡ Some cause → first_cause (tests ++ more) ≡ Some cause
first_left [] more cause is = absurd (cc)
first_left ((true, here) ∷ tests) more cause is = is
first_left ((false, here) ∷ tests) more cause is = first_left tests more cause is

-- a record that passes all tests passes the first ones
pub passed_kinds : (tests more : List (Bool × Cause)) → Ok tt ≡ refused_by (first_cause (tests ++ more)) → first_cause tests ≡ None
passed_kinds tests more passed = by (first_cause tests) refl where
  by : (found : Option Cause) → first_cause tests ≡ found → first_cause tests ≡ None
  by None is = is
  by (Some cause) is = absurd (cc (was_none _ passed, first_left tests more cause is))
