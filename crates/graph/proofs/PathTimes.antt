-- The times of paths, and the measure of lengths.
use Rattle.std.proofs.Common.{◌≡◌, ℕ, zero, suc, ◌+◌, ◌-◌, ◌*◌, ◌^◌, ◌<◌, ◌≤◌, min, max, List, [], ◌∷◌, map, Some, None, Option, unwrap_or, sym, refl, ap, ◌∙◌, subst, inl, inr, ⊎_elim, arith, MatchOption}
use Rattle.std.specs.List.{AllByRecursion as All}
use Rattle.std.proofs.ByRecursion.{All-weaker}
use Rattle.std.proofs.lemmas.Bool.{cases_lt, cases_eq}
use Rattle.graph.specs.Lengths.{path_time, Greatest, longest, Longest}
use Rattle.graph.specs.Measures.{lengthened, length_at}
use Rattle.graph.specs.Paths.{Among, IsPath, EndsAt, AllPaths, paths}
use Rattle.graph.specs.Walks.{plus, join_all, carried}
use Rattle.graph.proofs.Listing.{among_map, map_among}
use Rattle.graph.proofs.Order.{all_among}

-- the greatest of some numbers: no number is greater, and it is one of them
abbrev pub Top : List ℕ → Option ℕ → Type 0
Top xs top = MatchOption top (xs ≡ []) (λ most. All (λ x. x ≤ most) xs × Among most xs)

pub join_top : (xs : List ℕ) → Top xs (join_all max xs)
join_top [] = refl
join_top (x ∷ xs) = more (join_all max xs) (join_top xs) where
  more : (rest : Option ℕ) → Top xs rest → Top (x ∷ xs) (plus max (Some x) rest)
  more None empty = ((omega arith, subst (All (λ y. y ≤ x)) (sym empty) tt), inl refl)
  more (Some most) known = (
    (omega arith, All-weaker _ _ (λ y under. omega arith) xs known.0),
    ⊎_elim
        (λ over. let is : most ≡ max x most = omega arith in inr (subst (λ m. Among m xs) is known.1))
        (λ under. inl (omega arith))
        (cases_lt x most),
  )

-- carried along a path, the measure is the path's time or the stop
carried_time : (time : ℕ → ℕ) (path : List ℕ) → carried 0 lengthened time path ≡ min (path_time time path) (2 ^ 32 - 1)
carried_time time [] = refl
carried_time time (step ∷ way) = let so_far = carried_time time way in omega arith

-- one step more, of which the length is known
pub longest_more : (before : ℕ → List ℕ) (time : ℕ → ℕ) (step value : ℕ) → Some value ≡ length_at time before step → longest time before (suc step) ≡ max (longest time before step) value
longest_more before time step value is = ap (λ at. max (longest time before step) (unwrap_or at 0)) (sym is)

module _ (before : ℕ → List ℕ) (time : ℕ → ℕ) (count : ℕ) (few : count ≤ 64) (timed : (step : ℕ) → step < count → time step ≤ 20000)
    (rising : (step from : ℕ) → Among from (before step) → from < step) (listed : (step : ℕ) → AllPaths before step (paths before step)) where
  -- a path has at most one step for each number up to its end
  path_short : (path : List ℕ) (step : ℕ) → IsPath before path → EndsAt step path → step < count → path_time time path ≤ 20000 * (step + 1)
  path_short [] step path end under = absurd path
  path_short (last ∷ []) step path end under = let this = timed last (omega arith) in omega arith
  path_short (last ∷ (from ∷ way)) step path end under =
      let below = rising last from path.0 in
      let rest = path_short (from ∷ way) from path.1 refl (omega arith) in
      let this = timed last (omega arith) in
      omega arith

  pub path_within : (path : List ℕ) (step : ℕ) → IsPath before path → EndsAt step path → step < count → path_time time path ≤ 1280000
  path_within path step is end under = let short = path_short path step is end under in omega arith

  -- so no path of a plan is cut short
  carried_exact : (path : List ℕ) (step : ℕ) → IsPath before path → EndsAt step path → step < count → carried 0 lengthened time path ≡ path_time time path
  carried_exact path step is end under =
      let short = path_within path step is end under in
      let stopped = carried_time time path in
      omega arith

  pub length_greatest : (step most : ℕ) → step < count → Some most ≡ length_at time before step → Greatest before time step most × (most ≤ 1280000)
  length_greatest step most under is =
      let along = carried 0 lengthened time in
      let all = map along (paths before step) in
      let top = subst (Top all) (sym is) (join_top all) in
      let found = among_map along most (paths before step) top.1 in
      let path = (listed step).sound found.0 found.2 in
      let exact : most ≡ path_time time found.0 = found.1 ∙ carried_exact found.0 step path.0 path.1 under in (
        record {
          every = λ other is_path end.
              subst (λ t. t ≤ most) (carried_exact other step is_path end under)
              (all_among (λ t. t ≤ most) all (along other) top.0 (map_among along other (paths before step) ((listed step).complete other is_path end)));
          some = (found.0, path.0, path.1, sym exact);
        },
        subst (λ t. t ≤ 1280000) (sym exact) (path_within found.0 step path.0 path.1 under),
      )

  module _ (value : ℕ → ℕ) (known : (step : ℕ) → step < count → Some (value step) ≡ length_at time before step) where
    pub length_longest : (n : ℕ) → n ≤ count → Longest before time n (longest time before n)
    length_longest zero within = record {
      every = λ step path under is end. absurd (omega arith);
      some = λ over. absurd (omega arith);
      none = λ is. refl;
    }
    length_longest (suc n) within =
        let rest = length_longest n (omega arith) in
        let here = (length_greatest n (value n) (omega arith) (known n (omega arith))).0 in
        let is : longest time before (suc n) ≡ max (longest time before n) (value n) = longest_more before time n (value n) (known n (omega arith)) in
        record {
          every = λ step path under is_path end.
              ⊎_elim
              (λ same. let most = here.every path is_path (subst (λ s. EndsAt s path) same end) in omega arith)
              (λ other. let most = rest.every step path (omega arith) is_path end in omega arith)
              (cases_eq step n);
          some = λ over.
              ⊎_elim
              (λ less.
              let some_step : 0 < n = ⊎_elim (λ none. absurd (omega (arith, rest.none none))) (λ other. omega arith) (cases_eq n 0) in
              let found = rest.some some_step in
              let same : longest time before n ≡ longest time before (suc n) = omega arith in
              (found.0, omega (arith, found.1), subst (λ t. Greatest before time found.0 t) same found.2))
              (λ more.
              let same : value n ≡ longest time before (suc n) = omega arith in
              (n, omega arith, subst (λ t. Greatest before time n t) same here))
              (cases_lt (value n) (longest time before n));
          none = λ none. absurd (omega arith);
        }
