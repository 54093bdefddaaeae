-- A certificate's refusal, and its number.
use Rattle.std.specs.Prelude.{ℕ, Bool, cond, Some, None, Option}
use Rattle.certificate.specs.declared.certificate.NotCertified.{NotCertified}

-- The refusal's number is 11.
abbrev pub number_of : NotCertified → ℕ
number_of refusal = 11

-- A plan that is not certified is refused; nothing is returned with the refusal.
abbrev pub refusal_of : Bool → Option NotCertified
refusal_of certified = cond certified None (Some (record {}))
