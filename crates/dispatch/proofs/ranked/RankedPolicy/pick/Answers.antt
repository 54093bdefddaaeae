use Rattle.std.proofs.Common.{ap, ◌∙◌, subst, arith, rules}
use Rattle.std.specs.Option.{unwrap_or}
use Rattle.dispatch.specs.Picks.{Highest, Picks}
use Rattle.dispatch.proofs.Ranking.{picks_best}
use Rattle.dispatch.proofs.ranked.RankedPolicy.pick.Goals as goal

pub returns-clause-step : goal.returns-clause-step
returns-clause-step c =
    (picks_best c.args.self.now.ranks c.args.self.now c.args.ready (omega arith) c.unwrap_or.result (c.unwrap_or.ensures ∙ ap (λ best. unwrap_or best 64) c.best.ensures)).0

pub returns-clause-meaning : goal.returns-clause-meaning
returns-clause-meaning c =
    let policy = c.args.self.now in
    let ready = c.args.ready in
    subst (Picks ready (Highest policy.ranks ready) (λ _. policy) policy c.unwrap_or.result) (search rules)
    (picks_best policy.ranks policy ready (omega arith) c.unwrap_or.result (c.unwrap_or.ensures ∙ ap (λ best. unwrap_or best 64) c.best.ensures)).1
