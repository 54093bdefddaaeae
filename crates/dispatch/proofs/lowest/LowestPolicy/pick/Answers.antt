use Rattle.std.proofs.Common.{◌≡◌, ℕ, ◌<◌, false, Some, None, Option, unwrap_or, sym, refl, ◌∙◌, subst, MatchOption}
use Rattle.graph.specs.Sets.{has, Least}
use Rattle.graph.specs.declared.step_set.StepSet.{StepSet}
use Rattle.dispatch.specs.Picks.{lowest, Picks}
use Rattle.dispatch.specs.Right.{lowest_least, lowest_empty, least_only, picks_none, picks_step}
use Rattle.dispatch.proofs.lowest.LowestPolicy.pick.Goals as goal

module _ (ready : StepSet) where
  abbrev First : Option ℕ → Type 0
  First answer = MatchOption answer ((n : ℕ) → has ready n ≡ false) (λ step. Least ready step × (step < 64))

  value : (answer : Option ℕ) → First answer → unwrap_or answer 64 ≡ lowest ready
  value None none = sym (lowest_empty ready (λ n _. none n))
  value (Some step) first =
      least_only ready step (lowest ready) first.0 (lowest_least ready step first.1 first.0.inside)

  meaning : {State : Type 0} (before : State) (answer : Option ℕ) → First answer → Picks ready (Least ready) (λ _. before) before (unwrap_or answer 64) before
  meaning before None none =
      picks_none ready (Least ready) (λ _. before) before 64 before (λ other least. least.inside) none refl refl
  meaning before (Some step) first =
      picks_step ready (Least ready) (λ _. before) before step before
      (λ other least. least.inside)
      first.0
      first.1
      (λ other least. least_only ready other step least first.0)
      refl

pub returns : goal.returns
returns c =
    let ready = c.args.ready in
    let before = c.args.self.now in
    let is = c.unwrap_or.ensures in
    record {
      step = is ∙ value ready c.first.result c.first.ensures;
      state = refl;
      meaning = subst (λ (step : ℕ). Picks ready (Least ready) (λ _. before) before step before) (sym is) (meaning ready before c.first.result c.first.ensures);
    }
