use Rattle.std.proofs.Common.{◌≡◌, ℕ, Some, None, sym, ap, ◌∙◌, subst, rules}
use Rattle.graph.specs.Drafts.{PlanOf, content}
use Rattle.graph.specs.declared.refusal.Refusal.TheVariants as refusal
use Rattle.std.specs.List.{slice_get}
use Rattle.planfile.specs.Cutting.{Found}
use Rattle.planfile.specs.Files.{of_kind}
use Rattle.planfile.proofs.Endings.{lacks, held_is, without_blocks, lacking_part, all_good, implied_at, never_lost}
use Rattle.planfile.proofs.reader.Reader.finish.Goals as goal

pub returns-then-self-eq0 : goal.returns-then-self-eq0
returns-then-self-eq0 c = λ places entries bytes read.
    rw c.at-incomplete.ensures (without_blocks places c.args.file.now (λ i. (c.type_inv.file i).fits) entries c.args.self.now bytes read c.if-self-eq0.true)

pub returns-in-Ok : goal.returns-in-Ok
returns-in-Ok c = λ places entries bytes read.
    let file = c.args.file.now in
    let reader = c.args.self.now in
    let finished = c.in-Ok.ensures in
    let good = all_good places file (λ i. (c.type_inv.file i).fits) entries reader bytes read c.if-self-eq0.false finished.law finished.answer.0 in
    (good.0, subst (λ held. PlanOf held c.in-Ok.plan) (held_is places file (λ i. (c.type_inv.file i).fits) entries reader bytes read) finished.answer.1, good.1)

pub returns-in-Err : goal.returns-in-Err
returns-in-Err c = λ places entries bytes read.
    let refused = c.in-Err.ensures in
    let other : (i : ℕ) → c.in-Err.field-0 ≡ refusal.ImpliedEdge i → ⊥ = search rules in
    rw c.at-incomplete.ensures (lacking_part places c.args.file.now (λ i. (c.type_inv.file i).fits) entries c.args.self.now bytes read c.if-self-eq0.false refused.law
    (lacks (content c.args.self.now.draft) c.in-Err.field-0 refused.answer other))

pub returns-in_err-record-in-Err-ImpliedEdge : goal.returns-in_err-record-in-Err-ImpliedEdge
returns-in_err-record-in-Err-ImpliedEdge c = λ places entries bytes read.
    let refused = c.in-Err-ImpliedEdge in
    let none : c.find.result ≡ None = search rules in
    absurd (never_lost places c.args.file.now (λ i. (c.type_inv.file i).fits) entries c.args.self.now bytes read c.if-self-eq0.false refused.ensures.law
    refused.edge (refused.ensures.answer ∙ ap Some refused.field-0-is)
    (ap (slice_get (of_kind 3 entries)) (sym c.from.ensures) ∙ subst (Found (slice_get (of_kind 3 entries) c.from.result)) none (c.find.ensures.found entries bytes)))

pub returns-in_ok-record-in-Err-ImpliedEdge : goal.returns-in_ok-record-in-Err-ImpliedEdge
returns-in_ok-record-in-Err-ImpliedEdge c = λ places entries bytes read.
    let refused = c.in-Err-ImpliedEdge in
    let found = c.in_ok-record-in-Err-ImpliedEdge in
    let one : c.find.result ≡ Some found.record = search rules in
    rw c.at.ensures (implied_at places c.args.file.now (λ i. (c.type_inv.file i).fits) entries c.args.self.now bytes read c.if-self-eq0.false refused.ensures.law
    refused.edge (refused.ensures.answer ∙ ap Some refused.field-0-is) found.record.place found.record.body.now
    (ap (slice_get (of_kind 3 entries)) (sym c.from.ensures) ∙ subst (Found (slice_get (of_kind 3 entries) c.from.result)) one (c.find.ensures.found entries bytes)))
