-- Every step ends a path.
use Rattle.std.proofs.Common.{◌≡◌, ℕ, zero, suc, ◌<◌, List, [], ◌∷◌, sym, refl, subst, inl, arith}
use Rattle.graph.specs.Paths.{Among, IsPath, EndsAt}

module _ (before : ℕ → List ℕ) (rising : (step from : ℕ) → Among from (before step) → from < step) where
  abbrev pub PathTo : ℕ → Type 0
  PathTo step = (path : List ℕ) × IsPath before path × EndsAt step path

  pub longer : (step from : ℕ) (path : List ℕ) → Among from (before step) → IsPath before path → EndsAt from path → IsPath before (step ∷ path)
  longer step from [] edge path end = absurd path
  longer step from (last ∷ way) edge path end = (subst (λ l. Among l (before step)) (sym end) edge, path)

  pub some_path : (bound step : ℕ) → step < bound → PathTo step
  some_path zero step under = absurd (omega arith)
  some_path (suc bound) step under = by (before step) refl (some_path bound) where
    by : (steps : List ℕ) → before step ≡ steps → ((from : ℕ) → from < bound → PathTo from) → PathTo step
    by [] is rest = (step ∷ [], is, refl)
    by (from ∷ steps) is rest =
        let edge : Among from (before step) = subst (Among from) (sym is) (inl refl) in
        let lower = rising step from edge in
        let found = rest from (omega arith) in
        (step ∷ found.0, longer step from found.0 edge found.1 found.2, refl)
