use Rattle.std.proofs.Math.Seq.{take-set-lt}
use Rattle.fixed.proofs.list.FixedList.set.Goals as goal

pub returns-then-place-self-clause-values : goal.returns-then-place-self-clause-values
returns-then-place-self-clause-values g c = let list = c.args.self.now in take-set-lt list.len list.places c.args.place c.args.value c.if-place-self.true
