use Rattle.std.proofs.Common.{◌≡◌, ◌++◌, rules}
use Rattle.planfile.specs.Kinds.{kind_number}
use Rattle.planfile.specs.Records.{encoded}
use Rattle.planfile.proofs.Bytes.{from_parts, split_again}
use Rattle.planfile.proofs.record.cut.Goals as goal

pub returns-in_err-kind : goal.returns-in_err-kind
returns-in_err-kind c =
    let bytes = c.args.bytes.now in
    let body = c.in-Some.body.now in
    let after = c.in-Some.after.now in
    let number = c.from_le_bytes-2.result in
    let laid : bytes ≡ encoded number body ++ after =
    from_parts bytes body after number (search rules) (search rules) (search rules) (search rules) (search rules) (split_again bytes body after _ c.in-Some.ensures.cases) in
    search rules

pub returns : goal.returns
returns c =
    let bytes = c.args.bytes.now in
    let body = c.in-Some.body.now in
    let after = c.in-Some.after.now in (
      search rules,
      from_parts bytes body after (kind_number c.in_ok-kind.kind) (search rules) (search rules) (search rules) (search rules) (search rules)
          (split_again bytes body after _ c.in-Some.ensures.cases),
    )
