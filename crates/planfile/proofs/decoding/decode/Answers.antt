use Rattle.std.proofs.Common.{◌-◌, length, drop, arith, rules}
use Rattle.std.proofs.lemmas.List.{length-drop, take_all}
use Rattle.planfile.specs.Kinds.{kind_number}
use Rattle.planfile.proofs.Bodies.{says_deadline, says_step, says_edge, says_block, says_hold_back, says_late}
use Rattle.planfile.proofs.decoding.decode.Goals as goal

pub returns-in-Deadline-len2 : goal.returns-in-Deadline-len2
returns-in-Deadline-len2 c = says_deadline (kind_number c.args.kind) c.args.body.now (search rules) (search rules) (search rules) _ (search rules)

pub returns-in-Step-len2-up : goal.returns-in-Step-len2-up
returns-in-Step-len2-up c =
    let body = c.args.body.now in
    says_step (kind_number c.args.kind) body (search rules) (search rules) (search rules) _ _ (search rules)
    (take_all (length body - 2) (drop 2 body) (simp length-drop (omega arith)))

pub returns-in-Edge-len2 : goal.returns-in-Edge-len2
returns-in-Edge-len2 c = says_edge (kind_number c.args.kind) c.args.body.now (search rules) (search rules) _ _ (search rules) (search rules)

pub returns-in-Block-len3 : goal.returns-in-Block-len3
returns-in-Block-len3 c = says_block (kind_number c.args.kind) c.args.body.now (search rules) (search rules) (search rules) _ _ (search rules) (search rules)

pub returns-in-HoldBack-len5 : goal.returns-in-HoldBack-len5
returns-in-HoldBack-len5 c =
    says_hold_back (kind_number c.args.kind) c.args.body.now (search rules) (search rules) (search rules) (search rules) _ _ _ (search rules) (search rules) (search rules)

pub returns-in-Late-len2 : goal.returns-in-Late-len2
returns-in-Late-len2 c = says_late (kind_number c.args.kind) c.args.body.now (search rules) (search rules) (search rules) _ (search rules)
