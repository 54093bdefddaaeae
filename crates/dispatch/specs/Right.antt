-- The steps picked are in the set, are right, and are the only ones.
use Rattle.std.specs.Prelude.{◌≡◌, ℕ, ◌<◌, ◌≤◌, true, false, ◌⊎◌, List, [], ◌∷◌, ◌++◌, filter, nat_le, nat_lt, refl}
use Rattle.std.proofs.Common.{sym, ◌∙◌}
use Rattle.std.proofs.Math.Path.{ap, subst}
use mathlib.Core.List.Memᴰ
use mathlib.Core.List.{Memᴰ}
use Rattle.std.proofs.Math.Logic.{inl, inr, ⊎_elim}
use native.Mathlib.Omega.{arith}
use Rattle.std.proofs.lemmas.Bool.{both_ways, cases_Bool, cases_lt, cases_order, ltb-true, lt-ltb, leb-true, le-leb}
use Rattle.graph.specs.Sets.{has, members, Least}
use Rattle.graph.specs.declared.step_set.StepSet.{StepSet}
use Rattle.graph.proofs.Members.{members_has, has_members}
use Rattle.dispatch.specs.Picks.{first_or, lowest, rank_of, top, highest, in_turn, next_after, last_after, Highest, LeastAbove, NoneAbove, NextAfter, Picks}
use Rattle.dispatch.specs.declared.round.Round.{Round}
use Rattle.dispatch.specs.Rising.{rising_kept, kept_passes, kept_inside, passes_kept, rising_members, first_in, first_least, first_append, first_same, empty_or_not, no_elements}

-- what is not in a set is in no list of it
pub lacks_from : (set : StepSet) (n : ℕ) → (has set n ≡ true → ⊥) → has set n ≡ false
lacks_from set n not_in = ⊎_elim (λ is. absurd (not_in is)) (λ out. out) (cases_Bool (has set n))

-- Of a set with no step, 64 is answered.
module _ (ready : StepSet) (none : (n : ℕ) → n < 64 → has ready n ≡ false) where
  no_members : members ready ≡ []
  no_members =
      no_elements (members ready)
      (λ n inside. let tells = members_has ready n inside in both_ways (has ready n) (none n tells.1) tells.0)

  pub lowest_empty : lowest ready ≡ 64
  unfolding lowest
  lowest_empty = ap (first_or 64) no_members

  pub highest_empty : (ranks : List ℕ) → highest ranks ready ≡ 64
  unfolding highest
  highest_empty ranks =
      ap (λ (ns : List ℕ). first_or 64 (filter (λ step. nat_le (top ranks ns) (rank_of ranks step)) ns)) no_members

  turn_empty : (last : ℕ) → in_turn last ready ≡ []
  unfolding in_turn
  turn_empty last = ap (λ (ns : List ℕ). filter (nat_lt last) ns ++ ns) no_members

  pub next_empty : (last : ℕ) → next_after last ready ≡ 64
  next_empty last = ap (first_or 64) (turn_empty last)

  pub last_empty : (last : ℕ) → last_after last ready ≡ last
  last_empty last = ap (first_or last) (turn_empty last)

  pub round_stays : (round : Round) → let after : Round = record { last = last_after round.last ready } in after ≡ round
  round_stays round = λ i. record { last = last_empty round.last i }

-- The greatest rank bounds each, and some step has it.
module _ (ranks : List ℕ) where
  top_bounds : (n : ℕ) (ns : List ℕ) → Memᴰ n ns → rank_of ranks n ≤ top ranks ns
  top_bounds n [] inside = absurd (Memᴰ.not-nil inside)
  top_bounds n (m ∷ ns) inside =
      ⊎_elim (λ here. let same = ap (rank_of ranks) here in omega arith)
      (λ there. omega (arith, top_bounds n ns there))
      (Memᴰ.cases_cons inside)

  top_reached : (m : ℕ) (ns : List ℕ) → (n : ℕ) × Memᴰ n (m ∷ ns) × (top ranks (m ∷ ns) ≤ rank_of ranks n)
  top_reached m [] = (m, Memᴰ.head refl, omega arith)
  top_reached m (k ∷ ns) =
      let later = top_reached k ns in
      let bound = later.2 in
      ⊎_elim (λ less. (later.0, Memᴰ.tail later.1, omega arith))
      (λ more. (m, Memᴰ.head refl, omega arith))
      (cases_lt (rank_of ranks m) (top ranks (k ∷ ns)))

  top_somewhere : (n : ℕ) (ns : List ℕ) → Memᴰ n ns → (m : ℕ) × Memᴰ m ns × (top ranks ns ≤ rank_of ranks m)
  top_somewhere n [] inside = absurd (Memᴰ.not-nil inside)
  top_somewhere n (m ∷ ns) inside = top_reached m ns

-- Of a set with a step, a step of the set is picked.
module _ (ready : StepSet) (n : ℕ) (within : n < 64) (inside : has ready n ≡ true) where
  some : Memᴰ n (members ready)
  some = has_members ready n within inside

  pub lowest_inside : (has ready (lowest ready) ≡ true) × (lowest ready < 64)
  unfolding lowest
  lowest_inside = members_has ready (lowest ready) (first_in 64 n (members ready) some)

  pub lowest_least : Least ready (lowest ready)
  unfolding lowest
  lowest_least =
      let bound = lowest_inside.1 in
      record {
        inside = lowest_inside.0;
        below = λ m less.
            lacks_from ready m
            (λ is. omega (arith, first_least 64 m 0 (members ready) (rising_members ready) (has_members ready m (omega arith) is)));
      }

  module _ (ranks : List ℕ) where
    best : List ℕ
    best = filter (λ step. nat_le (top ranks (members ready)) (rank_of ranks step)) (members ready)

    highest_kept : Memᴰ (highest ranks ready) best
    unfolding highest best
    highest_kept =
        let most = top_somewhere ranks n (members ready) some in
        first_in 64 most.0 best (passes_kept _ most.0 (members ready) most.1 (le-leb _ _ most.2))

    pub highest_inside : (has ready (highest ranks ready) ≡ true) × (highest ranks ready < 64)
    unfolding highest best
    highest_inside = members_has ready (highest ranks ready) (kept_inside _ (highest ranks ready) (members ready) highest_kept)

    pub highest_right : ((m : ℕ) → has ready m ≡ true → m < 64) → Highest ranks ready (highest ranks ready)
    unfolding highest best
    highest_right small =
        let enough = leb-true _ _ (kept_passes _ (highest ranks ready) (members ready) highest_kept) in
        record {
          inside = highest_inside.0;
          greatest = λ m is. omega (arith, top_bounds ranks m (members ready) (has_members ready m (small m is) is));
          first = λ m less is.
              ⊎_elim (λ lower. lower)
              (λ equal.
              let kept = passes_kept (λ step. nat_le (top ranks (members ready)) (rank_of ranks step)) m (members ready) (has_members ready m (small m is) is) (le-leb (top ranks (members ready)) (rank_of ranks m) (omega arith)) in
              absurd (omega (arith, first_least 64 m 0 best (rising_kept _ 0 (members ready) (rising_members ready)) kept)))
              (cases_lt (rank_of ranks m) (rank_of ranks (highest ranks ready)));
        }

  module _ (last : ℕ) where
    later : List ℕ
    later = filter (nat_lt last) (members ready)

    -- a step above the last pick comes first, and else the first of all
    next_either : ((m : ℕ) × Memᴰ m later × (next_after last ready ≡ first_or 64 later)) ⊎ ((later ≡ []) × (next_after last ready ≡ lowest ready))
    unfolding in_turn lowest later
    next_either =
        ⊎_elim
        (λ empty. inr (empty, ap (λ (ns : List ℕ). first_or 64 (ns ++ members ready)) empty))
        (λ is. inl (is.0, is.1, first_append 64 is.0 later (members ready) is.1))
        (empty_or_not later)

    next_later : (m : ℕ) → Memᴰ m later → next_after last ready ≡ first_or 64 later → LeastAbove last ready (next_after last ready) × (next_after last ready < 64)
    unfolding later
    next_later m there is =
        let picks = first_in 64 m later there in
        let tells = members_has ready (first_or 64 later) (kept_inside (nat_lt last) (first_or 64 later) (members ready) picks) in
        let bound = tells.1 in (
          record {
            inside = ap (has ready) is ∙ tells.0;
            above = omega (arith, ltb-true last (first_or 64 later) (kept_passes (nat_lt last) (first_or 64 later) (members ready) picks));
            first = λ other over under.
                lacks_from ready other
                (λ inside.
                let kept = passes_kept (nat_lt last) other (members ready) (has_members ready other (omega arith) inside) (lt-ltb last other over) in
                omega (arith, first_least 64 other 0 later (rising_kept (nat_lt last) 0 (members ready) (rising_members ready)) kept));
          },
          omega arith,
        )

    pub next_inside : (has ready (next_after last ready) ≡ true) × (next_after last ready < 64)
    next_inside =
        ⊎_elim
        (λ is. let picks = next_later is.0 is.1 is.2 in (picks.0.inside, picks.1))
        (λ is. let bound = lowest_inside.1 in let same = is.1 in (ap (has ready) is.1 ∙ lowest_inside.0, omega arith))
        next_either

    pub next_right : ((m : ℕ) → has ready m ≡ true → m < 64) → NextAfter last ready (next_after last ready)
    unfolding later
    next_right small =
        ⊎_elim
        (λ is. inl (next_later is.0 is.1 is.2).0)
        (λ is.
        let none : NoneAbove last ready = λ other over.
        lacks_from ready other
        (λ inside.
        let kept = passes_kept (nat_lt last) other (members ready) (has_members ready other (small other inside) inside) (lt-ltb last other over) in
        Memᴰ.not-nil (subst (λ (ns : List ℕ). Memᴰ other ns) is.0 kept)) in
        inr (none, subst (λ (step : ℕ). Least ready step) (sym is.1) lowest_least))
        next_either

    pub last_next : last_after last ready ≡ next_after last ready
    unfolding in_turn
    last_next = first_same n last 64 (in_turn last ready) (Memᴰ.append_right (filter (nat_lt last) (members ready)) some)

-- No two numbers are right.
pub least_only : (ready : StepSet) (a b : ℕ) → Least ready a → Least ready b → a ≡ b
least_only ready a b left right =
    ⊎_elim (λ same. same)
    (⊎_elim (λ less. absurd (both_ways (has ready a) (right.below a less) left.inside))
    (λ more. absurd (both_ways (has ready b) (left.below b more) right.inside)))
    (cases_order a b)

pub highest_only : (ranks : List ℕ) (ready : StepSet) (a b : ℕ) → Highest ranks ready a → Highest ranks ready b → a ≡ b
highest_only ranks ready a b left right =
    let over = left.greatest b right.inside in
    ⊎_elim (λ same. same)
    (⊎_elim (λ less. absurd (omega (arith, right.first a less left.inside, left.greatest b right.inside)))
    (λ more. absurd (omega (arith, left.first b more right.inside, right.greatest a left.inside))))
    (cases_order a b)

above_only : (last : ℕ) (ready : StepSet) (a b : ℕ) → LeastAbove last ready a → LeastAbove last ready b → a ≡ b
above_only last ready a b left right =
    ⊎_elim (λ same. same)
    (⊎_elim (λ less. absurd (both_ways (has ready a) (right.first a left.above less) left.inside))
    (λ more. absurd (both_ways (has ready b) (left.first b right.above more) right.inside)))
    (cases_order a b)

not_both : (last : ℕ) (ready : StepSet) (a : ℕ) → LeastAbove last ready a → NoneAbove last ready → ⊥
not_both last ready a least none = both_ways (has ready a) (none a least.above) least.inside

pub next_only : (last : ℕ) (ready : StepSet) (a b : ℕ) → NextAfter last ready a → NextAfter last ready b → a ≡ b
next_only last ready a b (inl left) (inl right) = above_only last ready a b left right
next_only last ready a b (inl left) (inr right) = absurd (not_both last ready a left right.0)
next_only last ready a b (inr left) (inl right) = absurd (not_both last ready b right left.0)
next_only last ready a b (inr left) (inr right) = least_only ready a b left.1 right.1

pub next_has : (last : ℕ) (ready : StepSet) (a : ℕ) → NextAfter last ready a → has ready a ≡ true
next_has last ready a (inl left) = left.inside
next_has last ready a (inr left) = left.1.inside

-- What a pick does, of a set with no step and of one with a step.
module _ {State : Type 0} (ready : StepSet) (Right : ℕ → Type 0) (next : ℕ → State) (before : State) (answer : ℕ) (after : State) (right_in : (other : ℕ) → Right other → has ready other ≡ true) where
  pub picks_none : ((n : ℕ) → has ready n ≡ false) → answer ≡ 64 → after ≡ before → Picks ready Right next before answer after
  picks_none none is stays =
      record {
        empty = λ _. (is, stays);
        some = λ n inside. absurd (both_ways (has ready n) (none n) inside);
        only = λ other right. absurd (both_ways (has ready other) (none other) (right_in other right));
      }

  pub picks_step : Right answer → answer < 64 → ((other : ℕ) → Right other → other ≡ answer) → after ≡ next answer → Picks ready Right next before answer after
  picks_step right within only moves =
      record {
        empty = λ none. absurd (both_ways (has ready answer) (none answer) (right_in answer right));
        some = λ n inside. (right, within, moves);
        only = only;
      }
