use Rattle.std.proofs.Common.{◌≡◌, ℕ, ◌<◌, List, map, length, get_or, Some, sym, ap, ◌∙◌, arith, rules}
use Rattle.std.proofs.lemmas.List.{get_or_default}
use Rattle.graph.specs.Sets.{steps_left}
use Rattle.graph.specs.Walks.{plus, join_all}
use Rattle.graph.proofs.Joining.{plus_none, plus_more}
use Rattle.graph.proofs.Members.{members_first}
use Rattle.graph.proofs.walk.gathered.Goals as goal

-- an element does not depend on the default of the list, nor on how its place is written
read : {X : Type 0} (xs : List X) (i j : ℕ) (d e : X) → i ≡ j → j < length xs → get_or xs i d ≡ get_or xs j e
read xs i j d e same within = ap (λ k. get_or xs k d) same ∙ get_or_default xs j d e within

pub loop-step-init : goal.loop-step-init
loop-step-init g c = ap (λ steps. join_all (g.M.Measure.join c.args.measure.now) (map (λ s. get_or c.args.values.now s (g.M.Measure.start c.args.measure.now)) steps)) c.into_iter-step-iterator.ensures.into_iter_gives

pub offset_bounds-values-from : goal.offset_bounds-values-from
offset_bounds-values-from g c =
    let inside = members_first c.loop-step.step-iterator.rest c.in-Some.step (steps_left c.next.new.self) c.in-Some.ensures.steps in
    let within : c.from.result < 64 = omega (arith, inside.1) in
    search rules

pub listed : goal.listed
listed g c =
    let inside = members_first c.loop-step.step-iterator.rest c.in-Some.step (steps_left c.next.new.self) c.in-Some.ensures.steps in
    omega (arith, inside.1)

pub bounds-values-from : goal.bounds-values-from
bounds-values-from g c =
    let inside = members_first c.loop-step.step-iterator.rest c.in-Some.step (steps_left c.next.new.self) c.in-Some.ensures.steps in
    omega (arith, inside.1)

pub loop-step-preserved-in-None-sum : goal.loop-step-preserved-in-None-sum
loop-step-preserved-in-None-sum g c =
    let join = g.M.Measure.join c.args.measure.now in
    let values = c.args.values.now in
    let start = g.M.Measure.start c.args.measure.now in
    let step = c.in-Some.step in
    let inside = members_first c.loop-step.step-iterator.rest step (steps_left c.next.new.self) c.in-Some.ensures.steps in
    let value : get_or values c.from.result c.index-values-from.result ≡ get_or values step start =
    read values c.from.result step _ start c.from.ensures (omega (arith, inside.1)) in
    plus_more join (g.met.M.Measure.groups c.args.measure.now) (λ s. get_or values s start) c.loop-step.sum _ _ step _ _
    c.in-Some.ensures.steps
    (ap Some value ∙ ap (λ sum. plus join sum (Some (get_or values step start))) (sym c.in-None-sum.is))
    c.loop-step.invariant

pub loop-step-preserved : goal.loop-step-preserved
loop-step-preserved g c =
    let join = g.M.Measure.join c.args.measure.now in
    let values = c.args.values.now in
    let start = g.M.Measure.start c.args.measure.now in
    let step = c.in-Some.step in
    let inside = members_first c.loop-step.step-iterator.rest step (steps_left c.next.new.self) c.in-Some.ensures.steps in
    let value : get_or values c.from.result c.index-values-from.result ≡ get_or values step start =
    read values c.from.result step _ start c.from.ensures (omega (arith, inside.1)) in
    plus_more join (g.met.M.Measure.groups c.args.measure.now) (λ s. get_or values s start) c.loop-step.sum _ _ step _ _
    c.in-Some.ensures.steps
    (ap Some (c.join.ensures ∙ ap (join c.in-Some-sum.others) value) ∙ ap (λ sum. plus join sum (Some (get_or values step start))) (sym c.in-Some-sum.is))
    c.loop-step.invariant

pub returns : goal.returns
returns g c =
    let join = g.M.Measure.join c.args.measure.now in
    let value = λ (s : ℕ). get_or c.args.values.now s (g.M.Measure.start c.args.measure.now) in
    sym (plus_none join (g.met.M.Measure.groups c.args.measure.now) c.loop-step.sum)
    ∙ ap (λ steps. plus join c.loop-step.sum (join_all join (map value steps))) (sym c.in-None.ensures.steps.0)
    ∙ c.loop-step.invariant
