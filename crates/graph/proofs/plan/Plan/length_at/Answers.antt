use Rattle.std.proofs.Common.{◌≡◌, ◌<◌, length, get_or, Some, ap, ◌∙◌, rules}
use Rattle.fixed.specs.Values.{values}
use Rattle.graph.specs.Asked.{time_in, before_in}
use Rattle.graph.specs.Measures.{length_at}
use Rattle.graph.proofs.Order.{before_below}
use Rattle.graph.proofs.PathTimes.{length_greatest}
use Rattle.graph.proofs.plan.Plan.length_at.Goals as goal

pub returns-clause-greatest : goal.returns-clause-greatest
returns-clause-greatest c =
    let plan = c.args.self.now in
    let step = c.args.step in
    let under : step < length (values plan.graph.steps) = search rules in
    let is : Some (get_or c.walk.result c.from.result 0) ≡ length_at (time_in plan) (before_in plan) step =
    ap (λ i. Some (get_or c.walk.result i 0)) c.from.ensures ∙ c.walk.ensures.steps step under in
    length_greatest (before_in plan) (time_in plan) (length (values plan.graph.steps)) plan.graph.few
    (λ s within. (plan.graph.timed s within).1) (before_below _ plan.graph.rising) c.walk.ensures.paths step _ under is
