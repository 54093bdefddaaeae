-- What a draft holds and what its calls make of it.
use Rattle.std.specs.Prelude.{◌≡◌, ℕ, Bool, false, cond, ◌&&◌, ◌||◌, ◌⊎◌, ◌↔◌, List, [], ◌∷◌, ◌++◌, length, Some, None, Ok, Err, Option, Result, ◌==◌, nat_le, nat_lt}
use Rattle.std.specs.Option.{option_map, unwrap_or}
use Rattle.fixed.specs.Values.{values}
use Rattle.graph.specs.Graphs.{times_of, sets_of, set_before}
use Rattle.graph.specs.Implied.{FirstImpliedBy, NoneImpliedBy, first_implied}
use Rattle.graph.specs.Sets.{has}
use Rattle.graph.specs.declared.draft.Draft.{Draft}
use Rattle.graph.specs.declared.edge.Edge.{Edge}
use Rattle.graph.specs.declared.plan.Plan.{Plan}
use Rattle.graph.specs.declared.refusal.Refusal.{Refusal}
use Rattle.graph.specs.declared.refusal.Refusal.TheVariants.{OutOfRange, TooManySteps, NotRising, EdgeTwice, Incomplete, ImpliedEdge}

-- A draft holds a deadline, 0 while there is none, the worst-case times of its steps by number, and its edges in the order of adding.
pub record Content : Type 0 where
  pub deadline : ℕ
  pub times : List ℕ
  pub edges : List Edge

abbrev pub content : Draft → Content
content draft = record {
  deadline = unwrap_or draft.deadline 0;
  times = times_of (values draft.graph.steps);
  edges = values draft.edges;
}

abbrev pub with_deadline : ℕ → Content → Content
with_deadline deadline held = record { deadline = deadline; times = held.times; edges = held.edges }

abbrev pub with_time : ℕ → Content → Content
with_time time held = record { deadline = held.deadline; times = held.times ++ (time ∷ []); edges = held.edges }

abbrev pub with_edge : Edge → Content → Content
with_edge edge held = record { deadline = held.deadline; times = held.times; edges = held.edges ++ (edge ∷ []) }

-- Deadlines and times go from 1 to 20,000 ticks.
abbrev pub in_range : ℕ → Bool
in_range ticks = nat_le 1 ticks && nat_le ticks 20000

-- An edge stands in a list.
abbrev pub listed : ℕ → ℕ → List Edge → Bool
listed from to [] = false
listed from to (edge ∷ edges) = (edge.from == from && edge.to == to) || listed from to edges

-- Why a deadline, a step or an edge is refused: the first cause that holds, if any.
abbrev pub deadline_refusal : ℕ → Option Refusal
deadline_refusal deadline = cond (in_range deadline) None (Some OutOfRange)

abbrev pub step_refusal : Content → ℕ → Option Refusal
step_refusal held time = cond (nat_le 64 (length held.times)) (Some TooManySteps) (cond (in_range time) None (Some OutOfRange))

abbrev pub edge_refusal : Content → ℕ → ℕ → Option Refusal
edge_refusal held from to =
    cond (nat_lt from to && nat_lt to (length held.times)) (cond (listed from to held.edges) (Some EdgeTwice) None) (Some NotRising)

-- The answer to a call that has a cause for refusal, or none.
abbrev pub answered : {A : Type 0} → Option Refusal → A → Result A Refusal
answered (Some refusal) value = Err refusal
answered None value = Ok value

-- What a call leaves: what there was where it refuses.
abbrev pub unless : {A : Type 0} → Option Refusal → A → A → A
unless (Some refusal) kept changed = kept
unless None kept changed = changed

-- A plan has just what a draft holds: its deadline, its times, and as predecessors the first steps of its edges.
pub record PlanOf (held : Content) (plan : Plan) : Type 0 where
  pub deadline : plan.deadline ≡ held.deadline
  pub times : times_of (values plan.graph.steps) ≡ held.times
  pub edges : (from to : ℕ) → has (set_before (sets_of (values plan.graph.steps)) to) from ≡ listed from to held.edges

-- The deadline is missing, or there is no step.
abbrev pub Lacks : Content → Type 0
Lacks held = (held.deadline ≡ 0) ⊎ (held.times ≡ [])

-- The test for it.
abbrev pub lacking : Content → Bool
lacking held = held.deadline == 0 || length held.times == 0

-- Why finishing is refused: something is missing; or else an edge is implied, and the first such edge is named by its place in the order of adding.
abbrev pub finish_refusal : Content → Option Refusal
finish_refusal held = cond (lacking held) (Some Incomplete) (option_map (λ i. ImpliedEdge i) (first_implied held.edges))

-- When finishing is refused, by what the edges and their paths are and not by how that is tested.
pub record FinishLaw (held : Content) : Type 0 where
  pub incomplete : (finish_refusal held ≡ Some Incomplete) ↔ Lacks held
  pub implied : (i : ℕ) → (finish_refusal held ≡ Some (ImpliedEdge i)) ↔ ((Lacks held → ⊥) × FirstImpliedBy held.edges i)
  pub none : (finish_refusal held ≡ None) ↔ ((Lacks held → ⊥) × NoneImpliedBy held.edges)

-- What finishing answers, by the content alone: the plan of what is held, or why it is refused.
abbrev pub FinishedBy : Content → Result Plan Refusal → Type 0
FinishedBy held (Ok plan) = (finish_refusal held ≡ None) × PlanOf held plan
FinishedBy held (Err refusal) = finish_refusal held ≡ Some refusal
