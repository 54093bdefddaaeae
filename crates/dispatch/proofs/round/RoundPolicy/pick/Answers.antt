use Rattle.std.proofs.Common.{◌≡◌, ℕ, ◌<◌, false, Some, None, Option, sym, refl, ap, ◌∙◌, subst, arith, MatchOption}
use Rattle.std.specs.Option.{option_or}
use Rattle.graph.specs.Sets.{has}
use Rattle.graph.specs.declared.step_set.StepSet.{StepSet}
use Rattle.graph.specs.SetLaws.{has_below}
use Rattle.dispatch.specs.Picks.{next_after, NextAfter}
use Rattle.dispatch.specs.declared.round.Round.{Round}
use Rattle.dispatch.specs.Right.{next_empty, last_empty, next_right, last_next, next_only, next_has, picks_none, picks_step}
use Rattle.dispatch.proofs.Turning.{next_is}
use Rattle.dispatch.proofs.round.RoundPolicy.pick.Goals as goal

standing : ℕ → Round
standing last = record { last = last }

abbrev Next : ℕ → StepSet → Option ℕ → Type 0
Next last ready answer = MatchOption answer ((n : ℕ) → has ready n ≡ false) (λ step. NextAfter last ready step × (step < 64))

pub returns-in-Some : goal.returns-in-Some
unfolding standing
returns-in-Some c =
    let ready = c.args.ready in
    let last = c.args.self.now.last in
    let step = c.in-Some.step in
    let is = ap (λ above. option_or above c.first.result) (sym c.first_above.ensures) ∙ sym c.in-Some.ensures in
    let next : Next last ready (Some step) = subst (Next last ready) is (next_is last ready (omega arith) c.first.result c.first.ensures) in
    let inside = next_has last ready step next.0 in
    let small = has_below ready (omega arith) in
    let value = next_only last ready step (next_after last ready) next.0 (next_right ready step next.1 inside last small) in
    record {
      step = value;
      state = ap standing (value ∙ sym (last_next ready step next.1 inside last));
      meaning = picks_step ready (NextAfter last ready) (λ (s : ℕ). s) last step step (next_has last ready) next.0 next.1 (λ other right. next_only last ready other step right next.0) refl;
    }

pub returns-in-None : goal.returns-in-None
unfolding standing
returns-in-None c =
    let ready = c.args.ready in
    let last = c.args.self.now.last in
    let is = ap (λ above. option_or above c.first.result) (sym c.first_above.ensures) ∙ sym c.in-None.ensures in
    let none : Next last ready None = subst (Next last ready) is (next_is last ready (omega arith) c.first.result c.first.ensures) in
    record {
      step = sym (next_empty ready (λ n _. none n) last);
      state = ap standing (sym (last_empty ready (λ n _. none n) last));
      meaning = picks_none ready (NextAfter last ready) (λ (s : ℕ). s) last 64 last (next_has last ready) none refl refl;
    }
