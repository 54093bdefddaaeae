use Rattle.std.proofs.Common.{refl}
use Rattle.certificate.specs.Allowance.{allowance}
use Rattle.certificate.proofs.levels.marks_allowed.Goals as goal

pub returns : goal.returns
unfolding allowance
returns c = refl
