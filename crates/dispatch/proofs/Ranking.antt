-- The first step of greatest rank, found from the front.
use Rattle.std.proofs.Common.{◌≡◌, ℕ, ◌+◌, ◌^◌, ◌<◌, ◌≤◌, Bool, true, false, List, [], ◌∷◌, fold, Some, None, Option, refl, sym, ap, subst, ◌⊎◌, inl, inr, ⊎_elim, arith, MatchOption}
use mathlib.Core.List.Memᴰ
use mathlib.Core.List.{Memᴰ}
use Rattle.std.specs.List.{reduce}
use Rattle.std.specs.Option.{option_partial_cmp, unwrap_or}
use Rattle.std.specs.Ordering.{is_gt, nat_cmp, partial_gt, MatchOrdering}
use Rattle.std.proofs.Common.{Ordering, Less, Equal, Greater}
use Rattle.std.specs.Cmp.{ranks as order}
use Rattle.std.proofs.lemmas.Bool.{both_ways, cases_Bool, lt-ltb}
use Rattle.graph.specs.Sets.{has, members}
use Rattle.graph.specs.SetLaws.{has_below}
use Rattle.graph.specs.declared.step_set.StepSet.{StepSet}
use Rattle.graph.proofs.Members.{members_has, has_members}
use Rattle.dispatch.specs.Picks.{rank_of, rank_at, better, highest, Highest, Picks}
use Rattle.dispatch.specs.Right.{lacks_from, highest_empty, highest_right, highest_only, picks_none, picks_step}
use Rattle.dispatch.specs.Rising.{Rising, rising_members, lower, above}

by_order : (x y : ℕ) (order : Ordering) → MatchOrdering order (x < y) (x ≡ y) (y < x) → (is_gt order ≡ true → y < x) × (is_gt order ≡ false → x ≤ y)
by_order x y Less is = (λ over. absurd (both_ways false refl over), λ under. omega (arith, is))
by_order x y Equal is = (λ over. absurd (both_ways false refl over), λ under. omega (arith, is))
by_order x y Greater is = (λ over. is, λ under. absurd (both_ways true under refl))

module _ (ranks : List ℕ) where
  outranks : ℕ → ℕ → Bool
  outranks step best = partial_gt (option_partial_cmp (λ x y. Some (nat_cmp x y))) (rank_at ranks step) (rank_at ranks best)

  outranks_tells : (step best : ℕ) → step < 64 → best < 64 → (outranks step best ≡ true → rank_of ranks best < rank_of ranks step) × (outranks step best ≡ false → rank_of ranks step ≤ rank_of ranks best)
  unfolding outranks
  outranks_tells step best small low =
      rw (lt-ltb step 64 small, lt-ltb best 64 low)
      (by_order (rank_of ranks step) (rank_of ranks best) (nat_cmp (rank_of ranks step) (rank_of ranks best)) (order (rank_of ranks step) (rank_of ranks best)))

  -- What is known of the best of some steps: it is one of them, none has a greater rank, and none below it has an equal one.
  record BestOf (steps : List ℕ) (best : ℕ) : Type 0 where
    inside : Memᴰ best steps
    greatest : (n : ℕ) → Memᴰ n steps → rank_of ranks n ≤ rank_of ranks best
    first : (n : ℕ) → Memᴰ n steps → n < best → rank_of ranks n < rank_of ranks best

  -- the best of the first steps stays best where the next does not outrank it
  best_kept : (best step top : ℕ) (steps : List ℕ) → best < step → rank_of ranks step ≤ rank_of ranks best → BestOf (best ∷ steps) top → ((n : ℕ) → Memᴰ n steps → step < n) → BestOf (best ∷ step ∷ steps) top
  best_kept best step top steps before under known later = record {
    inside = ⊎_elim (λ here. Memᴰ.head here) (λ there. Memᴰ.tail (Memᴰ.tail there)) (Memᴰ.cases_cons known.inside);
    greatest = λ n there.
        ⊎_elim (λ here. known.greatest n (Memᴰ.head here))
        (⊎_elim (λ here. let most = known.greatest best (Memᴰ.head refl) in let same = ap (rank_of ranks) here in omega arith) (λ rest. known.greatest n (Memᴰ.tail rest)))
        (split n there);
    first = λ n there less.
        ⊎_elim (λ here. known.first n (Memᴰ.head here) less)
        (⊎_elim (λ here. let most = known.first best (Memᴰ.head refl) (omega arith) in let same = ap (rank_of ranks) here in omega arith) (λ rest. known.first n (Memᴰ.tail rest) less))
        (split n there);
  }
    where
      split : (n : ℕ) → Memᴰ n (best ∷ step ∷ steps) → (n ≡ best) ⊎ ((n ≡ step) ⊎ Memᴰ n steps)
      split n there = ⊎_elim inl (λ rest. inr (Memᴰ.cases_cons rest)) (Memᴰ.cases_cons there)

  -- and gives way where it does
  best_moves : (best step top : ℕ) (steps : List ℕ) → rank_of ranks best < rank_of ranks step → BestOf (step ∷ steps) top → BestOf (best ∷ step ∷ steps) top
  best_moves best step top steps over known = record {
    inside = Memᴰ.tail known.inside;
    greatest = λ n there.
        ⊎_elim (λ here. let most = known.greatest step (Memᴰ.head refl) in let same = ap (rank_of ranks) here in omega arith) (known.greatest n) (Memᴰ.cases_cons there);
    first = λ n there less.
        ⊎_elim (λ here. let most = known.greatest step (Memᴰ.head refl) in let same = ap (rank_of ranks) here in omega arith) (λ rest. known.first n rest less) (Memᴰ.cases_cons there);
  }

  best_alone : (best : ℕ) → BestOf (best ∷ []) best
  best_alone best = record {
    inside = Memᴰ.head refl;
    greatest = λ n there. only n there (λ same. let is = ap (rank_of ranks) same in omega arith);
    first = λ n there less. only n there (λ same. omega arith);
  }
    where
      only : {P : Type 0} (n : ℕ) → Memᴰ n (best ∷ []) → (n ≡ best → P) → P
      only n there then = ⊎_elim then (λ rest. absurd (Memᴰ.not-nil rest)) (Memᴰ.cases_cons there)

  best_found : (best : ℕ) (steps : List ℕ) → Rising (best + 1) steps → best < 64 → ((n : ℕ) → Memᴰ n steps → n < 64) → BestOf (best ∷ steps) (fold (better ranks) best steps)
  unfolding Rising outranks
  best_found best [] rising low small = best_alone best
  best_found best (step ∷ steps) rising low small =
      let tells = outranks_tells step best (small step (Memᴰ.head refl)) low in
      let later = λ (n : ℕ) (there : Memᴰ n steps). small n (Memᴰ.tail there) in
      let above_step : (n : ℕ) → Memᴰ n steps → step < n = λ n there. omega (arith, above (step + 1) n steps rising.1 there) in
      ⊎_elim
      (λ over. rw over
      (best_moves best step (fold (better ranks) step steps) steps (tells.0 over) (best_found step steps rising.1 (small step (Memᴰ.head refl)) later)))
      (λ under. rw under
      (best_kept best step (fold (better ranks) best steps) steps (omega (arith, rising.0)) (tells.1 under) (best_found best steps (lower (best + 1) (step + 1) steps (omega (arith, rising.0)) rising.1) low later) above_step))
      (cases_Bool (outranks step best))

  first_best : (ready : StepSet) → ready.bits < 2 ^ 64 → (steps : List ℕ) → members ready ≡ steps → Rising 0 steps → MatchOption (reduce (better ranks) steps) ((n : ℕ) → has ready n ≡ false) (λ step. Highest ranks ready step × (step < 64))
  unfolding Rising
  first_best ready short [] is rising = λ n. lacks_from ready n (λ inside. Memᴰ.not-nil (subst (Memᴰ n) is (has_members ready n (has_below ready short n inside) inside)))
  first_best ready short (best ∷ steps) is rising =
      let small = λ (n : ℕ) (there : Memᴰ n (best ∷ steps)). members_has ready n (subst (Memᴰ n) (sym is) there) in
      let known = best_found best steps rising.1 (small best (Memᴰ.head refl)).1 (λ n there. (small n (Memᴰ.tail there)).1) in
      let among = λ (n : ℕ) (inside : has ready n ≡ true). subst (Memᴰ n) is (has_members ready n (has_below ready short n inside) inside) in
      let found = small (fold (better ranks) best steps) known.inside in (
        record {
          inside = found.0;
          greatest = λ n inside. known.greatest n (among n inside);
          first = λ n less inside. known.first n (among n inside) less;
        },
        found.1,
      )

  module _ {State : Type 0} (state : State) (ready : StepSet) (short : ready.bits < 2 ^ 64) where
    pick_of : (best : Option ℕ) → MatchOption best ((n : ℕ) → has ready n ≡ false) (λ step. Highest ranks ready step × (step < 64)) → (unwrap_or best 64 ≡ highest ranks ready) × Picks ready (Highest ranks ready) (λ _. state) state (unwrap_or best 64) state
    pick_of None none =
        (sym (highest_empty ready (λ n _. none n) ranks), picks_none ready (Highest ranks ready) (λ _. state) state 64 state (λ other right. right.inside) none refl refl)
    pick_of (Some best) right = (
      highest_only ranks ready best (highest ranks ready) right.0 (highest_right ready best right.1 right.0.inside ranks (has_below ready short)),
      picks_step ready (Highest ranks ready) (λ _. state) state best state (λ other is. is.inside) right.0 right.1 (λ other is. highest_only ranks ready other best is right.0) refl,
    )

    -- the best of a set's steps is the one of greatest rank, and the lower on a tie
    pub picks_best : (answer : ℕ) → answer ≡ unwrap_or (reduce (better ranks) (members ready)) 64 → (answer ≡ highest ranks ready) × Picks ready (Highest ranks ready) (λ _. state) state answer state
    picks_best answer is = rw is (pick_of (reduce (better ranks) (members ready)) (first_best ready short (members ready) refl (rising_members ready)))
