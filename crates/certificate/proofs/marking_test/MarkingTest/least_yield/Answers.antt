use Rattle.std.proofs.Common.{◌≡◌, get_or, sym, ap, ◌∙◌, subst, ⊎_elim, arith}
use Rattle.std.proofs.lemmas.Bool.{cases_lt}
use Rattle.certificate.specs.Marking.{least_yield, LeastYield}
use Rattle.certificate.proofs.Verdicts.{least_capped, least_is_least}
use Rattle.certificate.proofs.marking_test.MarkingTest.least_yield.Goals as goal

pub returns : goal.returns
returns g c =
    let supply = c.args.supply.now in
    let width = g.S.Supply.width supply in
    let narrow = g.S.Supply.narrow supply in
    let test = c.args.self.now in
    let ceiling = c.args.ceiling in
    let found = c.least_yields.ensures.yields c.from.result (omega arith) in
    let value : get_or c.least_yields.result c.from.result 0 ≡ least_yield width test ceiling =
    ⊎_elim
    (λ under. found ∙ ap (least_yield width test) (omega arith))
    (λ over. found ∙ ap (least_yield width test) (omega arith) ∙ sym (least_capped width test narrow ceiling over))
    (cases_lt ceiling 64) in
    record {
      value = value;
      smallest = subst (LeastYield width test ceiling) (sym value) (least_is_least width test narrow ceiling);
    }
