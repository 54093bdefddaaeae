use Rattle.std.proofs.Common.{◌≡◌, ℕ, Err, ◌∙◌, subst, rules}
use Rattle.graph.specs.Drafts.{PlanOf}
use Rattle.planfile.specs.Files.{LeavesPlan, outcome}
use Rattle.planfile.specs.Rules.{reading_of}
use Rattle.firmware.specs.Certificates.{width_in}
use Rattle.firmware.specs.Cores.{width_of}
use Rattle.firmware.proofs.FileCertificates.{is_certificate, is_least, refused_file, accepted_file, from_refused, from_accepted, grants}
use Rattle.firmware.proofs.certifying.certify_file.Goals as goal

pub returns-in_err-layers : goal.returns-in_err-layers
returns-in_err-layers c =
    let is : c.from_residual.result ≡ Err c.in_err-layers.field-0.0 = search rules in
    let file = c.args.file.now in
    let told = c.in_err-layers.ensures in
    let bad = c.in_err-layers.field-0.0 in
    let known = refused_file file told.law bad (from_refused (outcome 64 file) bad told.answer) in
    record { answer = is ∙ known.0; law = known.1 }

pub returns : goal.returns
returns c =
    let file = c.args.file.now in
    let told = c.in_ok-layers.ensures in
    let accepted = from_accepted (outcome 64 file) c.in_ok-layers.layers told.answer in
    let entries = accepted.0 in
    let read = reading_of entries in
    let plan = c.read.new.plan in
    let made : PlanOf read.held plan = subst (λ o. LeavesPlan o plan) accepted.1 told.plan in
    let whole = ((told.law.accepted entries).0 accepted.1).ready in
    let supply = c.new.result in
    let granted_here : (tick : ℕ) → width_of supply tick ≡ width_in read tick = λ tick. c.new.ensures tick ∙ grants entries (outcome 64 file) _ _ tick accepted.1 told.list accepted.2 in
    let tested = c.certify.ensures in
    let answer = c.certify.result in
    let known = accepted_file file told.law entries answer accepted.1
    (is_certificate read plan made whole (width_of supply) granted_here answer tested.volume tested.length tested.deadline tested.least tested.smallest tested.certified)
    (is_least read plan made whole (width_of supply) granted_here answer tested.volume tested.length tested.deadline tested.least tested.smallest tested.certified) in
    record { answer = known.0; law = known.1 }
