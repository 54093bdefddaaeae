-- The lists of a graph's steps as a step is added and as one gains a predecessor.
use Rattle.std.proofs.Common.{◌≡◌, ℕ, zero, suc, ◌+◌, ◌<◌, ◌≤◌, List, [], ◌∷◌, ◌++◌, length, get_or, set, sym, refl, ap, ◌∙◌, ⊎_elim, arith}
use Rattle.std.proofs.Math.Seq.{get_or-append_seam, map-set_same}
use Rattle.std.proofs.lemmas.List.{length-map, map-set, get_or_append_left, get_or-set_same, get_or-set_other}
use Rattle.std.proofs.Math.ListN.{get_or-map as get_or_mapped}
use Rattle.std.proofs.lemmas.Bool.{cases_eq, both_ways}
use Rattle.graph.specs.Edges.{EachInGraph, NoOther, no_edge}
use Rattle.graph.specs.Graphs.{times_of, sets_of, no_step, time_of, set_before, Timed, Rising}
use Rattle.graph.specs.Sets.{has, none, with_step}
use Rattle.graph.specs.SetLaws.{has_none}
use Rattle.graph.proofs.Filling.{with_tells}
use Rattle.graph.specs.declared.edge.Edge.{Edge}
use Rattle.graph.specs.declared.graph.Step.{Step}
use Rattle.graph.specs.declared.step_set.StepSet.{StepSet}

pub length_times : (steps : List Step) → length (times_of steps) ≡ length steps
length_times steps = length-map steps (λ (step : Step). step.time)

pub length_sets : (steps : List Step) → length (sets_of steps) ≡ length steps
length_sets steps = length-map steps (λ (step : Step). step.predecessors)

-- a set more that is empty changes no look-up
pub set_before_more : (sets : List StepSet) (step : ℕ) → set_before (sets ++ none ∷ []) step ≡ set_before sets step
set_before_more [] zero = refl
set_before_more [] (suc step) = refl
set_before_more (held ∷ sets) zero = refl
set_before_more (held ∷ sets) (suc step) = set_before_more sets step

pub rising_none : Rising []
rising_none step from inside = absurd (both_ways (has none from) (has_none from) inside)

pub rising_more : (sets : List StepSet) → Rising sets → Rising (sets ++ none ∷ [])
rising_more sets rising step from inside = rising step from (ap (λ held. has held from) (sym (set_before_more sets step)) ∙ inside)

pub timed_more : (times : List ℕ) (time : ℕ) → Timed (length times) times → 1 ≤ time → time ≤ 20000 → Timed (length times + 1) (times ++ time ∷ [])
timed_more times time timed low high step under =
    ⊎_elim
    (λ last. let is = ap (time_of (times ++ time ∷ [])) last ∙ get_or-append_seam times time [] 0 in (omega arith, omega arith))
    (λ earlier.
    let lower : step < length times = omega arith in
    let is = get_or_append_left times (time ∷ []) 0 step lower in
    let known = timed step lower in
    (omega (arith, known.0), omega (arith, known.1)))
    (cases_eq step (length times))

-- a predecessor more, which is below its step
pub rising_edge : (sets : List StepSet) → Rising sets → (from to : ℕ) → from < to → to < length sets → Rising (set sets to (with_step from (set_before sets to)))
rising_edge sets rising from to rises there step n inside =
    ⊎_elim
    (λ same.
    let held = ap (λ k. set_before (set sets to (with_step from (set_before sets to))) k) same ∙ get_or-set_same sets to (with_step from (set_before sets to)) none there in
    ⊎_elim
    (λ old. omega (arith, rising to n old))
    (λ new. omega (arith, new.1))
    (with_tells (set_before sets to) from n (ap (λ s. has s n) (sym held) ∙ inside)))
    (λ other. rising step n (ap (λ s. has s n) (sym (get_or-set_other sets to step (with_step from (set_before sets to)) none other)) ∙ inside))
    (cases_eq step to)

-- a step's entries in the two lists are those of the step
module _ (steps : List Step) (step : ℕ) where
  pub time_at : time_of (times_of steps) step ≡ (get_or steps step no_step).time
  time_at = get_or_mapped (λ (s : Step). s.time) steps step no_step

  pub set_at : set_before (sets_of steps) step ≡ (get_or steps step no_step).predecessors
  set_at = get_or_mapped (λ (s : Step). s.predecessors) steps step no_step

-- a step with a predecessor more, among the others
module _ (steps : List Step) (from to : ℕ) where
  abbrev pub gained : Step
  gained = record { time = (get_or steps to no_step).time; predecessors = with_step from (get_or steps to no_step).predecessors }

  pub times_gained : (after : List Step) → after ≡ set steps to gained → times_of after ≡ times_of steps
  times_gained after is = ap times_of is ∙ map-set_same (λ (s : Step). s.time) steps to gained no_step refl

  pub sets_gained : (after : List Step) → after ≡ set steps to gained → sets_of after ≡ set (sets_of steps) to (with_step from (set_before (sets_of steps) to))
  sets_gained after is =
      ap sets_of is ∙ map-set (λ (s : Step). s.predecessors) steps to gained
      ∙ ap (λ held. set (sets_of steps) to (with_step from held)) (sym (set_at steps to))

-- a step more has no edge
module _ (sets : List StepSet) (edges : List Edge) where
  pub listed_step : EachInGraph sets edges → EachInGraph (sets ++ none ∷ []) edges
  listed_step all i under = ap (λ held. has held (get_or edges i no_edge).from) (set_before_more sets (get_or edges i no_edge).to) ∙ all i under

  pub complete_step : NoOther sets edges → NoOther (sets ++ none ∷ []) edges
  complete_step only from to never = ap (λ held. has held from) (set_before_more sets to) ∙ only from to never
