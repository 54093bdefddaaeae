-- What a list of fixed capacity has in it.
use Rattle.std.specs.Prelude.{ℕ, List, take}
use Rattle.fixed.specs.declared.blank.Blank.{Ghosts}
use Rattle.fixed.specs.declared.list.FixedList.{FixedList}

-- The values of a list, in order.
abbrev pub values : {T : Type 0} {size : ℕ} {blank : Ghosts T} → FixedList T size blank → List T
values list = take list.len list.places
