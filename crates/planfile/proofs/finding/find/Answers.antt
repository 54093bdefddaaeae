use Rattle.std.proofs.Common.{rules, tests}
use Rattle.planfile.specs.Kinds.{kind_number}
use Rattle.planfile.proofs.Chains.{found_by, within_by}
use Rattle.planfile.proofs.finding.find.Goals as goal

pub returns-clause-found : goal.returns-clause-found
returns-clause-found c =
    found_by (kind_number c.args.kind) c.args.before (λ next r q called. search rules) (λ x b q called. search (rules, tests)) c.nth.new.self
    (record { takes_still = search rules; tests_still = c.filter.ensures.closure }) c.args.file.now (search rules) (search rules) c.nth.result c.nth.ensures.ran

pub returns-clause-within : goal.returns-clause-within
returns-clause-within c =
    within_by (kind_number c.args.kind) c.args.before (λ next r q called. search rules) (λ x b q called. search (rules, tests)) c.nth.new.self
    (record { takes_still = search rules; tests_still = c.filter.ensures.closure }) c.args.file.now (search rules) (search rules) c.nth.result c.nth.ensures.ran
