use Rattle.std.proofs.Common.{◌∷◌, length, ap, sym, ◌∙◌, rules}
use Rattle.graph.specs.Sets.{members}
use Rattle.graph.proofs.Members.{members_none, members_next}
use Rattle.graph.proofs.steps.StepsIterator.next.Goals as goal

pub returns-in_err-step-clause-steps : goal.returns-in_err-step-clause-steps
returns-in_err-step-clause-steps c =
    let none = members_none c.args.self.now.rest (λ n. c.in_err-step.ensures n) in
    simp c.from_residual.ensures (none, none)

pub returns-clause-steps : goal.returns-clause-steps
returns-clause-steps c =
    let least = c.in_ok-step.ensures in
    members_next c.args.self.now.rest c.in_ok-step.step least.0 least.1 ∙ ap (λ set. c.in_ok-step.step ∷ members set) (sym c.remove.ensures.value)

pub returns-clause-goes : goal.returns-clause-goes
returns-clause-goes c = let gives = ap length (returns-clause-steps c) in search rules
