use Rattle.std.proofs.Common.{arith}
use Rattle.fixed.specs.FilledLaws.{IsFilled-push}
use Rattle.fixed.proofs.list.FixedList.push.Goals as goal

pub invariant_of-self : goal.invariant_of-self
invariant_of-self g c =
    let list = c.args.self.now in
    record { held = IsFilled-push g.row.N g.T.Blank.blank list.len list.places list.held _ (omega (arith, list.held.few, c.if-self.false)) }
