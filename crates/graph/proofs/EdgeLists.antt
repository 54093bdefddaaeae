-- Lists of edges that rise: what the tests for an implied edge and for a refusal tell.
use Rattle.std.proofs.Common.{◌≡◌, ℕ, zero, suc, ◌<◌, Bool, true, false, cond, ◌&&◌, ◌||◌, eqb, ltb, ◌⊎◌, ◌↔◌, List, [], ◌∷◌, length, get_or, Some, None, Decides, Option, sym, refl, ap, ◌∙◌, subst, inl, inr, ⊎_elim, le_of_suc-le-suc, arith, MatchOption}
use Rattle.std.specs.Option.{option_map}
use Rattle.std.specs.List.{AllByRecursion as All}
use Rattle.std.proofs.ByRecursion.{All-push}
use Rattle.std.proofs.lemmas.Bool.{both_ways, cases_Bool, cases_lt, eqb-true, eq-eqb, ltb-true, and_parts, and_from, cond-true, cond-false}
use Rattle.std.proofs.lemmas.Bool.Decides.{Decides-eqb, Decides-like, Decides-or}
use Rattle.graph.specs.Drafts.{Content, with_edge, listed, edge_refusal, Lacks, lacking, finish_refusal, FinishLaw}
use Rattle.graph.specs.Edges.{no_edge}
use Rattle.graph.specs.Implied.{from_steps, ImpliedBy, FirstImpliedBy, NoneImpliedBy, any, first_place, before_end, implied, first_implied}
use Rattle.graph.specs.Paths.{Among, IsPath, EndsAt, Ancestor, paths}
use Rattle.graph.specs.declared.edge.Edge.{Edge}
use Rattle.graph.specs.declared.refusal.Refusal.{Refusal}
use Rattle.graph.specs.declared.refusal.Refusal.TheVariants.{NotRising, Incomplete, ImpliedEdge}
use Rattle.graph.proofs.Adding.{same_edge}
use Rattle.graph.proofs.Order.{all_among}
use Rattle.graph.proofs.PathLists.{paths_listed}

-- each edge leads to a higher step
abbrev pub RisingEdges : List Edge → Type 0
RisingEdges edges = All (λ (edge : Edge). edge.from < edge.to) edges

abbrev pub edge_of : ℕ → ℕ → Edge
edge_of from to = record { from = from; to = to }

-- the test for an edge in a list
pub listed_decides : (from to : ℕ) (edges : List Edge) → Decides (listed from to edges) (Among (edge_of from to) edges)
listed_decides from to [] = (λ impossible. absurd (both_ways false refl impossible), λ there. absurd there)
listed_decides from to (edge ∷ edges) =
    Decides-or (eqb edge.from from && eqb edge.to to) (listed from to edges) here (listed_decides from to edges) where
      here : Decides (eqb edge.from from && eqb edge.to to) (edge_of from to ≡ edge)
      here = (
        λ passes. let parts = and_parts _ _ passes in sym (same_edge edge from to (eqb-true _ _ parts.0) (eqb-true _ _ parts.1)),
        λ same. and_from _ _ (eq-eqb _ _ (sym (ap (λ (e : Edge). e.from) same))) (eq-eqb _ _ (sym (ap (λ (e : Edge). e.to) same))),
      )

-- the predecessors of a step are the first steps of the edges that lead to it
module _ (from to : ℕ) where
  module _ (edge : Edge) (edges : List Edge) (rest : List ℕ) (later : Among from rest → Among (edge_of from to) edges) where
    from_next : (leads : Bool) → eqb edge.to to ≡ leads → Among from (cond leads (edge.from ∷ rest) rest) → Among (edge_of from to) (edge ∷ edges)
    from_next true is (inl same) = inl (sym (same_edge edge from to (sym same) (eqb-true _ _ is)))
    from_next true is (inr there) = inr (later there)
    from_next false is there = inr (later there)

  pub edge_from : (edges : List Edge) → Among from (from_steps edges to) → Among (edge_of from to) edges
  edge_from [] there = absurd there
  edge_from (edge ∷ edges) there = from_next edge edges (from_steps edges to) (edge_from edges) (eqb edge.to to) refl there

  pub from_edge : (edges : List Edge) → Among (edge_of from to) edges → Among from (from_steps edges to)
  from_edge [] there = absurd there
  from_edge (edge ∷ edges) (inl same) =
      let leads = eq-eqb edge.to to (sym (ap (λ (e : Edge). e.to) same)) in
      subst (Among from) (sym (cond-true (eqb edge.to to) _ _ leads)) (inl (ap (λ (e : Edge). e.from) same))
  from_edge (edge ∷ edges) (inr later) =
      let there = from_edge edges later in
      let rest = from_steps edges to in
      elim (eqb edge.to to) as (λ leads. Among from (cond leads (edge.from ∷ rest) rest)) [ true ↦ inr there | false ↦ there ]

  pub listed_from : (edges : List Edge) → Decides (listed from to edges) (Among from (from_steps edges to))
  listed_from edges = Decides-like (listed from to edges) (from_edge edges) (edge_from edges) (listed_decides from to edges)

pub from_below : (edges : List Edge) → RisingEdges edges → (to from : ℕ) → Among from (from_steps edges to) → from < to
from_below edges rising to from there = all_among (λ (edge : Edge). edge.from < edge.to) edges (edge_of from to) rising (edge_from from to edges there)

-- an edge that a draft accepts rises
pub rising_more : (held : Content) (from to : ℕ) → edge_refusal held from to ≡ None → RisingEdges held.edges → RisingEdges (with_edge (edge_of from to) held).edges
rising_more held from to accepted rising =
    All-push (λ (edge : Edge). edge.from < edge.to) held.edges (edge_of from to) rising
    (⊎_elim
    (λ rises. ltb-true from to (and_parts _ _ rises).0)
    (λ level. absurd (never (sym (cond-false (ltb from to && ltb to (length held.times)) _ _ level) ∙ accepted)))
    (cases_Bool (ltb from to && ltb to (length held.times)))) where
      never : ◌≡◌ {A = Option Refusal} (Some NotRising) None → ⊥
      never is = let z : ◌≡◌ {A = ℕ} 0 1 = cc in omega arith

module _ {X : Type 0} (test : X → Bool) (P : X → Type 0) (each : (x : X) → Decides (test x) (P x)) where
  -- the test for something that passes
  any_decides : (xs : List X) → Decides (any test xs) ((x : X) × Among x xs × P x)
  any_decides [] = (λ impossible. absurd (both_ways false refl impossible), λ found. absurd found.1)
  any_decides (x ∷ xs) =
      Decides-like (test x || any test xs) outward inward (Decides-or (test x) (any test xs) (each x) (any_decides xs)) where
        outward : P x ⊎ ((y : X) × Among y xs × P y) → (y : X) × Among y (x ∷ xs) × P y
        outward (inl here) = (x, inl refl, here)
        outward (inr later) = (later.0, inr later.1, later.2)

        inward : ((y : X) × Among y (x ∷ xs) × P y) → P x ⊎ ((y : X) × Among y xs × P y)
        inward found = ⊎_elim (λ same. inl (subst P same found.2)) (λ later. inr (found.0, later, found.2)) found.1

  -- the first that passes
  module _ (d : X) where
    abbrev FirstAt : List X → ℕ → Type 0
    FirstAt xs i = (i < length xs) × P (get_or xs i d) × ((earlier : ℕ) → earlier < i → P (get_or xs earlier d) → ⊥)

    abbrev Nowhere : List X → Type 0
    Nowhere xs = (i : ℕ) → i < length xs → P (get_or xs i d) → ⊥

    next : (x : X) (xs : List X) (passes : Bool) → test x ≡ passes → (rest : Option ℕ) → MatchOption rest (Nowhere xs) (FirstAt xs) → MatchOption (cond passes (Some 0) (option_map suc rest)) (Nowhere (x ∷ xs)) (FirstAt (x ∷ xs))
    next x xs true is rest known = (omega arith, (each x).0 is, λ earlier under. absurd (omega arith))
    next x xs false is None known = λ i. nowhere i where
      nowhere : (i : ℕ) → i < length (x ∷ xs) → P (get_or (x ∷ xs) i d) → ⊥
      nowhere zero under here = both_ways (test x) is ((each x).1 here)
      nowhere (suc i) under later = known i (le_of_suc-le-suc under) later
    next x xs false is (Some n) known = (omega (arith, known.0), known.1, λ earlier. none_before earlier) where
      none_before : (earlier : ℕ) → earlier < suc n → P (get_or (x ∷ xs) earlier d) → ⊥
      none_before zero under here = both_ways (test x) is ((each x).1 here)
      none_before (suc earlier) under later = known.2 earlier (le_of_suc-le-suc under) later

    first_tells : (xs : List X) → MatchOption (first_place test xs) (Nowhere xs) (FirstAt xs)
    first_tells [] = λ i under. absurd (omega arith)
    first_tells (x ∷ xs) = next x xs (test x) refl (first_place test xs) (first_tells xs)

    first_found : (xs : List X) (i : ℕ) → (first_place test xs ≡ Some i) ↔ FirstAt xs i
    first_found xs i = (λ is. subst (λ place. MatchOption place (Nowhere xs) (FirstAt xs)) is (first_tells xs), λ first. only first (first_place test xs) (first_tells xs)) where
      same : (j : ℕ) → FirstAt xs i → FirstAt xs j → j ≡ i
      same j one two =
          ⊎_elim
          (λ under. absurd (one.2 j under two.1))
          (λ over. ⊎_elim (λ past. absurd (two.2 i past one.1)) (λ upto. omega arith) (cases_lt i j))
          (cases_lt j i)

      only : FirstAt xs i → (place : Option ℕ) → MatchOption place (Nowhere xs) (FirstAt xs) → place ≡ Some i
      only first None nowhere = absurd (nowhere i first.0 first.1)
      only first (Some j) other = ap Some (same j first other)

    none_found : (xs : List X) → (first_place test xs ≡ None) ↔ Nowhere xs
    none_found xs = (λ is. subst (λ place. MatchOption place (Nowhere xs) (FirstAt xs)) is (first_tells xs), λ nowhere. only nowhere (first_place test xs) (first_tells xs)) where
      only : Nowhere xs → (place : Option ℕ) → MatchOption place (Nowhere xs) (FirstAt xs) → place ≡ None
      only nowhere None known = refl
      only nowhere (Some j) first = absurd (nowhere j first.0 first.1)

-- the test for a step on a way
on_way : (step : ℕ) (way : List ℕ) → Decides (any (eqb step) way) (Among step way)
on_way step [] = (λ impossible. absurd (both_ways false refl impossible), λ there. absurd there)
on_way step (n ∷ way) = Decides-or (eqb step n) (any (eqb step) way) (Decides-eqb step n) (on_way step way)

module _ (edges : List Edge) (rising : RisingEdges edges) where
  -- the test for an ancestor
  ancestor_decides : (step later : ℕ) → Decides (any (before_end step) (paths (from_steps edges) later)) (Ancestor (from_steps edges) step later)
  ancestor_decides step later =
      Decides-like (any (before_end step) (paths (from_steps edges) later)) outward inward
      (any_decides (before_end step) (λ path. before_end step path ≡ true) (λ path. (λ is. is, λ is. is)) (paths (from_steps edges) later)) where
        ends : (path : List ℕ) → IsPath (from_steps edges) path → EndsAt later path → before_end step path ≡ true → Ancestor (from_steps edges) step later
        ends [] path end passes = absurd path
        ends (last ∷ way) path end passes = (way, subst (λ s. IsPath (from_steps edges) (s ∷ way)) end path, (on_way step way).0 passes)

        outward : ((path : List ℕ) × Among path (paths (from_steps edges) later) × (before_end step path ≡ true)) → Ancestor (from_steps edges) step later
        outward found =
            let path = (paths_listed (from_steps edges) (from_below edges rising) later).sound found.0 found.1 in
            ends found.0 path.0 path.1 found.2

        inward : Ancestor (from_steps edges) step later → (path : List ℕ) × Among path (paths (from_steps edges) later) × (before_end step path ≡ true)
        inward ancestor = (
          later ∷ ancestor.0,
          (paths_listed (from_steps edges) (from_below edges rising) later).complete (later ∷ ancestor.0) ancestor.1 refl,
          (on_way step ancestor.0).1 ancestor.2,
        )

  -- the test for an implied edge,
  pub implied_decides : (edge : Edge) → Decides (implied edges edge) (ImpliedBy edges edge)
  implied_decides edge =
      any_decides
      (λ other. any (before_end edge.from) (paths (from_steps edges) other))
      (Ancestor (from_steps edges) edge.from)
      (ancestor_decides edge.from)
      (from_steps edges edge.to)

  -- the place of the first,
  pub first_implied_is : (i : ℕ) → (first_implied edges ≡ Some i) ↔ FirstImpliedBy edges i
  first_implied_is i = first_found (implied edges) (ImpliedBy edges) implied_decides no_edge edges i

  -- and that there is none
  pub none_implied_is : (first_implied edges ≡ None) ↔ NoneImpliedBy edges
  none_implied_is = none_found (implied edges) (ImpliedBy edges) implied_decides no_edge edges

-- the test for something missing
pub lacking_decides : (held : Content) → Decides (lacking held) (Lacks held)
lacking_decides held =
    Decides-or (eqb held.deadline 0) (eqb (length held.times) 0) (Decides-eqb held.deadline 0) (empty held.times) where
      empty : (times : List ℕ) → Decides (eqb (length times) 0) (times ≡ [])
      empty [] = (λ _. refl, λ _. refl)
      empty (time ∷ times) = (
        λ passes. let none = eqb-true (length (time ∷ times)) 0 passes in absurd (omega arith),
        λ is. eq-eqb (length (time ∷ times)) 0 (ap length is),
      )

-- a refusal by what is missing and by the first implied edge
abbrev refusal_by : Bool → Option ℕ → Option Refusal
refusal_by lacks place = cond lacks (Some Incomplete) (option_map (λ i. ImpliedEdge i) place)

by_incomplete : (lacks : Bool) (place : Option ℕ) → refusal_by lacks place ≡ Some Incomplete → lacks ≡ true
by_incomplete true place is = refl
by_incomplete false None is = let z : ◌≡◌ {A = ℕ} 0 1 = cc in absurd (omega arith)
by_incomplete false (Some i) is = let z : ◌≡◌ {A = ℕ} 0 1 = cc in absurd (omega arith)

by_implied : (lacks : Bool) (place : Option ℕ) (i : ℕ) → refusal_by lacks place ≡ Some (ImpliedEdge i) → (lacks ≡ false) × (place ≡ Some i)
by_implied true place i is = let z : ◌≡◌ {A = ℕ} 0 1 = cc in absurd (omega arith)
by_implied false None i is = let z : ◌≡◌ {A = ℕ} 0 1 = cc in absurd (omega arith)
by_implied false (Some j) i is = let same : j ≡ i = cc in (refl, ap Some same)

by_none : (lacks : Bool) (place : Option ℕ) → refusal_by lacks place ≡ None → (lacks ≡ false) × (place ≡ None)
by_none true place is = let z : ◌≡◌ {A = ℕ} 0 1 = cc in absurd (omega arith)
by_none false None is = (refl, refl)
by_none false (Some j) is = let z : ◌≡◌ {A = ℕ} 0 1 = cc in absurd (omega arith)

module _ (held : Content) where
  lacks_not : lacking held ≡ false → Lacks held → ⊥
  lacks_not is lacks = both_ways (lacking held) is ((lacking_decides held).1 lacks)

  not_lacking : (Lacks held → ⊥) → lacking held ≡ false
  not_lacking whole = ⊎_elim (λ is. absurd (whole ((lacking_decides held).0 is))) (λ is. is) (cases_Bool (lacking held))

  -- what finishing is refused by
  pub refused_lacking : Lacks held → finish_refusal held ≡ Some Incomplete
  refused_lacking lacks = cond-true (lacking held) _ _ ((lacking_decides held).1 lacks)

  pub refused_by_edges : (Lacks held → ⊥) → (place : Option ℕ) → first_implied held.edges ≡ place → finish_refusal held ≡ option_map (λ i. ImpliedEdge i) place
  refused_by_edges whole place is = cond-false (lacking held) _ _ (not_lacking whole) ∙ ap (option_map (λ i. ImpliedEdge i)) is

  pub finish_law : RisingEdges held.edges → FinishLaw held
  finish_law rising = record {
    incomplete = (λ is. (lacking_decides held).0 (by_incomplete (lacking held) (first_implied held.edges) is), refused_lacking);
    implied = λ i. (
      λ is.
          let parts = by_implied (lacking held) (first_implied held.edges) i is in
          (lacks_not parts.0, (first_implied_is held.edges rising i).0 parts.1),
      λ both. refused_by_edges both.0 (Some i) ((first_implied_is held.edges rising i).1 both.1),
    );
    none = (
      λ is.
          let parts = by_none (lacking held) (first_implied held.edges) is in
          (lacks_not parts.0, (none_implied_is held.edges rising).0 parts.1),
      λ both. refused_by_edges both.0 None ((none_implied_is held.edges rising).1 both.1),
    );
  }
