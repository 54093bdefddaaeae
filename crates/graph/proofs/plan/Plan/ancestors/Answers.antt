use Rattle.std.proofs.Common.{◌≡◌, ◌<◌, length, get_or, Some, Decides, sym, ap, ◌∙◌, subst, arith, rules}
use Rattle.fixed.specs.Values.{values}
use Rattle.graph.specs.Asked.{time_in, before_in}
use Rattle.graph.specs.Measures.{visited}
use Rattle.graph.specs.Paths.{Ancestor}
use Rattle.graph.specs.Sets.{has, none, both, without_step}
use Rattle.graph.specs.Walks.{value_at}
use Rattle.graph.proofs.Ancestry.{has_ancestors}
use Rattle.graph.proofs.Order.{before_below}
use Rattle.graph.proofs.plan.Plan.ancestors.Goals as goal

pub returns-clause-steps : goal.returns-clause-steps
returns-clause-steps c =
    let plan = c.args.self.now in
    let step = c.args.step in
    let under : step < length (values plan.graph.steps) = search rules in
    let few = plan.graph.few in
    let all = get_or c.walk.result step none in
    let is : Some all ≡ value_at none both visited (time_in plan) (before_in plan) step = c.walk.ensures.steps step under in
    let left : c.remove.new.self ≡ without_step step all =
    c.remove.ensures.value ∙ ap (λ i. without_step step (get_or c.walk.result i none)) c.from.ensures in
    λ n. subst (λ set. Decides (has set n) (Ancestor (before_in plan) n step)) (sym left)
    (has_ancestors (before_in plan) (before_below _ plan.graph.rising) (time_in plan) step (omega arith) (c.walk.ensures.paths step) all is n)
