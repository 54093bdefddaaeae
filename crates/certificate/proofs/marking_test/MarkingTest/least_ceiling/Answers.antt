use Rattle.std.proofs.Common.{◌<◌, ◌≤◌, slice_index, rules}
use borrow.Author.Tests.{tests}
use Rattle.std.proofs.lemmas.Iterator.{first_from_Range}
use Rattle.certificate.proofs.Verdicts.{found_is_least}
use Rattle.certificate.proofs.marking_test.MarkingTest.least_ceiling.Goals as goal

pub returns : goal.returns
returns g c =
    let yields = c.least_yields-yields.result in
    let work = c.args.work in
    let found = first_from_Range _ _ _ c.find.result (λ k. work ≤ slice_index yields k) (λ k. slice_index yields k < work) c.find.ensures.ran (λ x q k. search (rules, tests)) (λ x q k. search (rules, tests)) in
    let known = found_is_least (g.S.Supply.width c.args.supply.now) c.args.self.now yields c.least_yields-yields.ensures.yields work c.find.result found in
    record { value = known.0; smallest = known.1 }
