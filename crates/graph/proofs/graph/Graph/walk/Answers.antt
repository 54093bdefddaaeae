use Rattle.std.proofs.Common.{◌<◌, List, map, length, get_or, set, Some, unwrap_or, sym, refl, ap, ◌∙◌, ap₂, ⊎_elim, arith, length-set}
use Rattle.std.proofs.ByRecursion.{All-weaker}
use Rattle.std.proofs.lemmas.List.{get_or-set_same, get_or-set_other}
use Rattle.std.proofs.lemmas.Bool.{cases_eq}
use Rattle.fixed.specs.Values.{values}
use Rattle.graph.specs.Graphs.{times_of, sets_of, no_step, time_of, before}
use Rattle.graph.specs.Sets.{members}
use Rattle.graph.specs.Walks.{join_all, value_at}
use Rattle.graph.specs.declared.graph.Step.{Step}
use Rattle.graph.specs.declared.step_set.StepSet.{StepSet}
use Rattle.graph.proofs.GraphLists.{time_at, set_at}
use Rattle.graph.proofs.Listing.{everywhere}
use Rattle.graph.proofs.Order.{before_below, before_all, members_distinct}
use Rattle.graph.proofs.PathLists.{all_paths}
use Rattle.graph.proofs.Walking.{value_step}
use Rattle.graph.proofs.graph.Graph.walk.Goals as goal

pub loop-at-init : goal.loop-at-init
loop-at-init g c = (
  refl,
  λ step under. absurd (omega arith),
  λ step over. everywhere 64 step c.start-values.result _ c.start-values.ensures,
)

pub loop-at-preserved : goal.loop-at-preserved
loop-at-preserved g c =
    let measure = c.args.measure.now in
    let graph = c.args.self.now in
    let sets = sets_of (values graph.steps) in
    let start = g.M.Measure.start measure in
    let join = g.M.Measure.join measure in
    let carry = g.M.Measure.carry measure in
    let reached = c.loop-at.values in
    let at = c.loop-at.at in
    let few = graph.few in
    let steps = c.as_slice-step-items.ensures.values in
    let within : at < length reached = omega (arith, c.loop-at.invariant.0, ap length steps) in
    let value = value_step start join carry (time_of (times_of (values graph.steps))) (before sets) (before_all sets graph.rising)
    (g.met.M.Measure.groups measure) (g.met.M.Measure.spreads measure) (λ s. get_or reached s start) at
    (All-weaker _ _ (λ from under. c.loop-at.invariant.1 from under) (before sets at) (before_all sets graph.rising at)) in
    let all_before = λ (held : StepSet). join_all join (map (λ s. get_or reached s start) (members held)) in
    let held = ap (λ (items : List Step). (get_or items at no_step).predecessors) steps ∙ sym (set_at (values graph.steps) at) in
    let time = ap (λ (items : List Step). (get_or items at no_step).time) steps ∙ sym (time_at (values graph.steps) at) in
    let arriving = c.unwrap_or-arriving.ensures ∙ ap₂ unwrap_or (c.gathered.ensures ∙ ap all_before held) c.start.ensures in
    let carried = c.carry.ensures ∙ ap₂ (λ v t. carry v at t) arriving time in (
      length-set reached at c.carry.result ∙ c.loop-at.invariant.0,
      λ s under.
          ⊎_elim
          (λ same.
          ap (λ k. Some (get_or (set reached at c.carry.result) k start)) same
          ∙ ap Some (get_or-set_same reached at c.carry.result start within ∙ carried)
          ∙ sym value
          ∙ ap (value_at start join carry (time_of (times_of (values graph.steps))) (before sets)) (sym same))
          (λ other. ap Some (get_or-set_other reached at s c.carry.result start other) ∙ c.loop-at.invariant.1 s (omega arith))
          (cases_eq s at),
      λ s over. get_or-set_other reached at s c.carry.result start (λ here. omega arith) ∙ c.loop-at.invariant.2 s (omega arith),
    )

pub returns : goal.returns
returns g c =
    let graph = c.args.self.now in
    let sets = sets_of (values graph.steps) in
    let size = ap length c.as_slice-step-items.ensures.values in
    record {
      size = c.loop-at.invariant.0;
      steps = λ step under. c.loop-at.invariant.1 step (omega arith);
      unused = λ step over. c.loop-at.invariant.2 step (omega arith);
      paths = all_paths (before sets) (before_below sets graph.rising) (λ step. members_distinct _);
    }
