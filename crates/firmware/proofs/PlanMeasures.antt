-- What is measured of a plan, by what the plan was made of.
use Rattle.std.proofs.Common.{◌≡◌, ℕ, zero, suc, ◌<◌, ◌≤◌, max, List, map, length, Some, None, sum, Option, unwrap_or, sym, refl, ap, ◌∙◌, subst, ap₂, arith}
use Rattle.fixed.specs.Values.{values}
use Rattle.graph.specs.Asked.{steps_of, time_in, before_in, volume_of, length_of}
use Rattle.graph.specs.Drafts.{Content, PlanOf}
use Rattle.graph.specs.Graphs.{sets_of, time_of, set_before}
use Rattle.graph.specs.Implied.{from_steps}
use Rattle.graph.specs.Lengths.{longest}
use Rattle.graph.specs.Measures.{lengthened, length_at}
use Rattle.graph.specs.Paths.{Among, paths}
use Rattle.graph.specs.Walks.{join_all, carried}
use Rattle.graph.specs.declared.plan.Plan.{Plan}
use Rattle.graph.proofs.DraftEdges.{path_over}
use Rattle.graph.proofs.EdgeLists.{listed_from}
use Rattle.graph.proofs.GraphLists.{length_times}
use Rattle.graph.proofs.Implying.{edge_there}
use Rattle.graph.proofs.Listing.{among_map, map_among}
use Rattle.graph.proofs.Order.{all_among, member_has, has_member, before_below}
use Rattle.graph.proofs.PathLists.{paths_listed}
use Rattle.graph.proofs.PathTimes.{Top, join_top}
use Rattle.firmware.specs.Certificates.{volume_in, length_in}

-- two lists of the same numbers have the same greatest one
module _ (xs ys : List ℕ) (over : (n : ℕ) → Among n xs → Among n ys) (back : (n : ℕ) → Among n ys → Among n xs) where
  same_top : (a b : Option ℕ) → Top xs a → Top ys b → a ≡ b
  same_top None None none also = refl
  same_top None (Some b) none top = absurd (subst (Among b) none (back b top.1))
  same_top (Some a) None top none = absurd (subst (Among a) none (over a top.1))
  same_top (Some a) (Some b) one two =
      let up = all_among (λ n. n ≤ b) ys a two.0 (over a one.1) in
      let down = all_among (λ n. n ≤ a) xs b one.0 (back b two.1) in
      ap Some (omega arith)

-- graphs with the same predecessors have the same lengths
module _ (one two : ℕ → List ℕ)
    (over : (step from : ℕ) → Among from (one step) → Among from (two step)) (back : (step from : ℕ) → Among from (two step) → Among from (one step))
    (rising : (step from : ℕ) → Among from (one step) → from < step) (time : ℕ → ℕ) where
  rising_too : (step from : ℕ) → Among from (two step) → from < step
  rising_too step from there = rising step from (back step from there)

  same_length_at : (step : ℕ) → length_at time one step ≡ length_at time two step
  same_length_at step =
      let along = carried 0 lengthened time in
      let xs = map along (paths one step) in
      let ys = map along (paths two step) in
      same_top xs ys
      (λ n there.
      let found = among_map along n (paths one step) there in
      let path = (paths_listed one rising step).sound found.0 found.2 in
      subst (λ m. Among m ys) (sym found.1)
      (map_among along found.0 (paths two step) ((paths_listed two rising_too step).complete found.0 (path_over one two over back found.0 path.0) path.1)))
      (λ n there.
      let found = among_map along n (paths two step) there in
      let path = (paths_listed two rising_too step).sound found.0 found.2 in
      subst (λ m. Among m xs) (sym found.1)
      (map_among along found.0 (paths one step) ((paths_listed one rising step).complete found.0 (path_over two one back over found.0 path.0) path.1)))
      (join_all max xs) (join_all max ys) (join_top xs) (join_top ys)

  same_longest : (count : ℕ) → longest time one count ≡ longest time two count
  same_longest zero = refl
  same_longest (suc count) = ap₂ (λ most at. max most (unwrap_or at 0)) (same_longest count) (same_length_at count)

module _ (held : Content) (plan : Plan) (made : PlanOf held plan) where
  pub count_is : steps_of plan ≡ length held.times
  count_is = sym (length_times (values plan.graph.steps)) ∙ ap length made.times

  time_is : (step : ℕ) → time_in plan step ≡ time_of held.times step
  time_is step = ap (λ times. time_of times step) made.times

  into_list : (step from : ℕ) → Among from (before_in plan step) → Among from (from_steps held.edges step)
  into_list step from there =
      (listed_from from step held.edges).0 (sym (made.edges from step) ∙ (member_has (set_before (sets_of (values plan.graph.steps)) step) from there).0)

  into_graph : (step from : ℕ) → Among from (from_steps held.edges step) → Among from (before_in plan step)
  into_graph step from there =
      let inside = made.edges from step ∙ (listed_from from step held.edges).1 there in
      let small : from < 64 = omega (arith, plan.graph.rising step from inside, edge_there plan.graph from step inside, plan.graph.few) in
      has_member (set_before (sets_of (values plan.graph.steps)) step) from small inside

  pub volume_is : volume_of plan ≡ volume_in held
  volume_is = ap sum made.times

  pub length_is : length_of plan ≡ length_in held
  unfolding length_in
  length_is =
      same_longest (before_in plan) (from_steps held.edges) into_list into_graph (before_below (sets_of (values plan.graph.steps)) plan.graph.rising) (time_in plan) (steps_of plan)
      ∙ ap₂ (λ time count. longest time (from_steps held.edges) count) (λ i step. time_is step i) count_is
