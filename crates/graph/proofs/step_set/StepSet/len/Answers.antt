use Rattle.std.proofs.Common.{sym, arith}
use Rattle.graph.proofs.Members.{length_members}
use Rattle.graph.proofs.Order.{members_distinct, member_has, has_member}
use Rattle.graph.specs.SetLaws.{has_below}
use Rattle.graph.proofs.step_set.StepSet.len.Goals as goal

pub returns : goal.returns
returns c =
    let set = c.args.self in
    record {
      value = sym (length_members set (omega arith));
      once = members_distinct set;
      all = λ n. (λ inside. has_member set n (has_below set (omega arith) n inside) inside, λ there. (member_has set n there).0);
    }
