use Rattle.std.proofs.Common.{◌≡◌, ◌+◌, [], ◌∷◌, ◌++◌, length, sym, subst, subst₂, arith, rules, ap, ◌∙◌, length-append}
use Rattle.std.proofs.lemmas.List.{map-append}
use Rattle.fixed.specs.Values.{values}
use Rattle.graph.specs.Graphs.{times_of, sets_of, Timed, Rising}
use Rattle.graph.specs.Sets.{none}
use Rattle.graph.specs.declared.graph.Step.{Step}
use Rattle.graph.proofs.GraphLists.{length_times, rising_more, timed_more}
use Rattle.graph.proofs.graph.Graph.add_step.Goals as goal

pub invariant_of-self : goal.invariant_of-self
invariant_of-self c =
    let graph = c.args.self.now in
    let step : Step = record { time = c.args.time; predecessors = none } in
    let is : values c.push.new.self ≡ values graph.steps ++ step ∷ [] = search rules in
    let size = ap length is ∙ length-append (values graph.steps) (step ∷ []) in
    let times = ap times_of is ∙ map-append (λ (s : Step). s.time) (values graph.steps) (step ∷ []) in
    let sets = ap sets_of is ∙ map-append (λ (s : Step). s.predecessors) (values graph.steps) (step ∷ []) in
    let timed = timed_more (times_of (values graph.steps)) c.args.time (subst (λ n. Timed n (times_of (values graph.steps))) (sym (length_times (values graph.steps))) graph.timed) (omega arith) (omega arith) in
    record {
      few = omega arith;
      timed = subst₂ Timed (ap (λ n. n + 1) (length_times (values graph.steps)) ∙ sym size) (sym times) timed;
      rising = subst Rising (sym sets) (rising_more (sets_of (values graph.steps)) graph.rising);
    }
