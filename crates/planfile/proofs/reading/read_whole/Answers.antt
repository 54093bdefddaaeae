use Rattle.std.proofs.Common.{◌≡◌, Err, ◌∙◌, rules}
use Rattle.planfile.specs.Files.{fault}
use Rattle.planfile.specs.declared.cause.Cause.{Cause}
use Rattle.planfile.proofs.Advancing.{bad_front, bad_taken, read_taken}
use Rattle.planfile.proofs.Concluding.{refused_whole}
use Rattle.planfile.proofs.Lookups.{given_fault, given_read}
use Rattle.planfile.proofs.reading.read_whole.Goals as goal

pub returns-in_err-record-clause-read : goal.returns-in_err-record-clause-read
returns-in_err-record-clause-read c =
    let bad = c.in_err-record.field-0.0 in
    let is : c.from_residual.result ≡ Err bad = search rules in
    let front = given_fault c.loop-next.next-iterator c.next.new.self c.in-Some.next bad (search rules) c.in-Some.ensures.steps in
    refused_whole _ bad is (λ i. (c.type_inv.file i).fits) (bad_front c.loop-next.invariant.read bad front.some front.front)

pub returns-in_err-map_err-clause-read : goal.returns-in_err-map_err-clause-read
returns-in_err-map_err-clause-read c =
    let given = given_read c.loop-next.next-iterator c.next.new.self c.in-Some.next c.in_ok-record.record c.in_ok-record.was c.in-Some.ensures.steps in
    let why : (cause : Cause) × (c.take.result ≡ Err cause) × (c.from_residual-in_err-map_err.result ≡ Err (fault cause c.in_ok-record.record.place)) = search rules in
    refused_whole _ (fault why.0 c.in_ok-record.record.place) why.2 (λ i. (c.type_inv.file i).fits) (bad_taken c.loop-next.invariant.read given c.take.ensures why.0 why.1)

pub loop-next-preserved : goal.loop-next-preserved
loop-next-preserved c =
    let given = given_read c.loop-next.next-iterator c.next.new.self c.in-Some.next c.in_ok-record.record c.in_ok-record.was c.in-Some.ensures.steps in
    record { read = read_taken c.loop-next.invariant.read given c.take.ensures (search rules); list = c.take.ensures.list.reference ∙ c.loop-next.invariant.list }
