-- What every plan has: its longest path and its volume, as the timing of its runs needs them.
use Rattle.std.proofs.Common.{◌≡◌, ℕ, zero, suc, ◌+◌, ◌-◌, ◌<◌, ◌≤◌, List, map, length, get_or, take, Some, None, sum, Option, unwrap_or, sym, refl, ap, ◌∙◌, subst, ap₂, add-one, arith}
use Rattle.std.proofs.lemmas.List.{get_or_past, take_all}
use Rattle.std.proofs.lemmas.List.Sums.{sum_by_more}
use Rattle.fixed.specs.Values.{values}
use Rattle.certificate.specs.Marking.{total}
use Rattle.certificate.proofs.Totals.{total_push}
use Rattle.graph.specs.Asked.{steps_of, time_in, before_in, volume_of, length_of}
use Rattle.graph.specs.Graphs.{times_of, sets_of}
use Rattle.graph.specs.Lengths.{path_time, Longest}
use Rattle.graph.specs.Measures.{lengthened, length_at}
use Rattle.graph.specs.Paths.{Among, IsPath, EndsAt, AllPaths, paths}
use Rattle.graph.specs.Walks.{carried}
use Rattle.graph.specs.declared.plan.Plan.{Plan}
use Rattle.graph.proofs.GraphLists.{length_times}
use Rattle.graph.proofs.Listing.{map_among}
use Rattle.graph.proofs.Order.{before_below, members_distinct}
use Rattle.graph.proofs.PathLists.{all_paths}
use Rattle.graph.proofs.PathTimes.{Top, join_top, length_longest}
use Rattle.runner.proofs.Counts.{total_short}
use Rattle.runner.proofs.Roads.{some_path}

module _ (plan : Plan) where
  rising : (step from : ℕ) → Among from (before_in plan step) → from < step
  rising = before_below (sets_of (values plan.graph.steps)) plan.graph.rising

  listed : (step : ℕ) → AllPaths (before_in plan) step (paths (before_in plan) step)
  listed step = all_paths (before_in plan) rising (λ s. members_distinct _) step

  -- every step has a length, since it ends a path
  known : (step : ℕ) → Some (unwrap_or (length_at (time_in plan) (before_in plan) step) 0) ≡ length_at (time_in plan) (before_in plan) step
  known step = by (length_at (time_in plan) (before_in plan) step) (join_top (map (carried 0 lengthened (time_in plan)) (paths (before_in plan) step))) where
    by : (found : Option ℕ) → Top (map (carried 0 lengthened (time_in plan)) (paths (before_in plan) step)) found → Some (unwrap_or found 0) ≡ found
    by None empty =
        let there = some_path (before_in plan) rising (suc step) step (omega arith) in
        absurd (subst (Among (carried 0 lengthened (time_in plan) there.0)) empty
        (map_among (carried 0 lengthened (time_in plan)) there.0 (paths (before_in plan) step) ((listed step).complete there.0 there.1 there.2)))
    by (Some most) top = refl

  pub plan_longest : Longest (before_in plan) (time_in plan) (steps_of plan) (length_of plan)
  plan_longest =
      length_longest (before_in plan) (time_in plan) (steps_of plan) plan.graph.few (λ s within. (plan.graph.timed s within).1) rising listed
      (λ step. unwrap_or (length_at (time_in plan) (before_in plan) step) 0) (λ step within. known step) (steps_of plan) (omega arith)

  -- no path takes more than the length
  pub within_length : (step : ℕ) (path : List ℕ) → step < steps_of plan → IsPath (before_in plan) path → EndsAt step path → path_time (time_in plan) path ≤ length_of plan
  within_length step path there is end = plan_longest.every step path there is end

  -- the volume as a sum over all 64 places
  total_list : (times : List ℕ) (n : ℕ) → n ≤ length times → total (λ x. get_or times x 0) 0 n ≡ sum (take n times)
  total_list times zero within = refl
  total_list times (suc n) within =
      let first : 0 + n ≡ n = omega arith in
      total_push (λ x. get_or times x 0) 0 n
      ∙ ap₂ (λ so_far at. so_far + get_or times at 0) (total_list times n (omega arith)) first
      ∙ sym (sum_by_more (λ t. t) times n 0 (omega arith))
      ∙ ap (λ k. sum (take k times)) (add-one n)

  pub volume_total : total (time_in plan) 0 64 ≡ volume_of plan
  volume_total =
      let steps = values plan.graph.steps in
      let times = times_of steps in
      let all : 64 ≡ length steps + (64 - length steps) = omega (arith, plan.graph.few) in
      ap (total (time_in plan) 0) all
      ∙ total_short (time_in plan) 0 (length steps) (64 - length steps) (λ x past. get_or_past times x 0 (omega (arith, length_times steps)))
      ∙ total_list times (length steps) (omega (arith, length_times steps))
      ∙ ap sum (take_all (length steps) times (omega (arith, length_times steps)))
