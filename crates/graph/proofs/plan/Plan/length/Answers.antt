use Rattle.std.proofs.Common.{◌≡◌, ℕ, zero, suc, ◌<◌, ◌≤◌, max, List, [], ◌∷◌, length, take, fold, get_or, Some, sym, refl, ap, ◌∙◌, subst, add-one, arith}
use Rattle.std.specs.List.{reduce}
use Rattle.std.specs.Option.{unwrap_or}
use Rattle.std.proofs.lemmas.List.Sums.{fold_more}
use Rattle.graph.specs.Asked.{steps_of, time_in, before_in, length_of}
use Rattle.graph.specs.Lengths.{longest, Longest}
use Rattle.graph.specs.Measures.{length_at}
use Rattle.graph.specs.declared.plan.Plan.{Plan}
use Rattle.graph.proofs.Order.{before_below}
use Rattle.graph.proofs.PathTimes.{longest_more, length_longest}
use Rattle.graph.proofs.plan.Plan.length.Goals as goal

from_first : (xs : List ℕ) → unwrap_or (reduce max xs) 0 ≡ fold max 0 xs
from_first [] = refl
from_first (x ∷ xs) = ap (λ first. fold max first xs) (omega arith)

-- the greatest of the first values is the greatest length at any of the first steps
module _ (plan : Plan) (values : List ℕ) (size : length values ≡ 64)
    (known : (step : ℕ) → step < steps_of plan → Some (get_or values step 0) ≡ length_at (time_in plan) (before_in plan) step) where
  folded : (count : ℕ) → count ≤ steps_of plan → fold max 0 (take count values) ≡ longest (time_in plan) (before_in plan) count
  folded zero within = refl
  folded (suc count) within =
      let few = plan.graph.few in
      ap (λ n. fold max 0 (take n values)) (sym (add-one count))
      ∙ fold_more max 0 values count 0 (omega arith)
      ∙ ap (λ most. max most (get_or values count 0)) (folded count (omega arith))
      ∙ sym (longest_more (before_in plan) (time_in plan) count (get_or values count 0) (known count (omega arith)))

  is_length : (answer count : ℕ) → count ≡ steps_of plan → answer ≡ unwrap_or (reduce max (take count values)) 0 → answer ≡ length_of plan
  is_length answer count all is = is ∙ from_first (take count values) ∙ folded count (omega arith) ∙ ap (longest (time_in plan) (before_in plan)) all

pub returns-clause-value : goal.returns-clause-value
returns-clause-value c =
    is_length c.args.self.now c.walk.result c.walk.ensures.size c.walk.ensures.steps c.unwrap_or.result c.from.result (c.from.ensures ∙ c.count.ensures) (c.unwrap_or.ensures ∙ ap (λ most. unwrap_or most 0) c.greatest.ensures)

pub returns-clause-greatest : goal.returns-clause-greatest
returns-clause-greatest c =
    let plan = c.args.self.now in
    let time = time_in plan in
    let from = before_in plan in
    subst (Longest from time (steps_of plan)) (sym (returns-clause-value c))
    (length_longest from time (steps_of plan) plan.graph.few (λ s within. (plan.graph.timed s within).1) (before_below _ plan.graph.rising) c.walk.ensures.paths
    (λ step. get_or c.walk.result step 0) c.walk.ensures.steps (steps_of plan) (omega arith))
