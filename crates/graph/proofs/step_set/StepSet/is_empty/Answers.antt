use Rattle.std.proofs.Common.{arith}
use Rattle.std.proofs.lemmas.Bool.{eqb-true, eq-eqb}
use Rattle.graph.specs.SetLaws.{zero_lacks, lacks_zero}
use Rattle.graph.proofs.Members.{no_members}
use Rattle.graph.proofs.step_set.StepSet.is_empty.Goals as goal

pub returns : goal.returns
returns c =
    let set = c.args.self in
    record {
      value = no_members set (omega arith);
      empty = (λ zeros. zero_lacks set (eqb-true set.bits 0 zeros), λ lacks. eq-eqb set.bits 0 (lacks_zero set lacks));
    }
