use Rattle.std.proofs.Common.{◌≡◌, ◌+◌, ◌-◌, length, drop, Some, None, sym, ap, ◌∙◌, arith, rules}
use Rattle.std.proofs.lemmas.List.{length-drop, take_all}
use Rattle.planfile.specs.Labels.{label_of}
use Rattle.planfile.proofs.Naming.{none_refused, none_found, label_here, never_short, label_law}
use Rattle.planfile.proofs.labels.label.Goals as goal

pub returns-in_err-ok : goal.returns-in_err-ok
returns-in_err-ok c =
    let file = c.args.file.now in
    let none : label_of file c.args.step ≡ None = none_refused file c.args.step c.read.ensures.law c.read.result c.read.ensures.answer (search rules) in
    record { label = search rules; law = label_law file c.args.step c.read.ensures.law }

pub returns-in_err-record : goal.returns-in_err-record
returns-in_err-record c =
    let file = c.args.file.now in
    let stands = rw c.from.ensures at c.find.ensures.found in
    let none : label_of file c.args.step ≡ None = none_found file c.args.step c.read.ensures.law c.read.result c.read.ensures.answer c.in_ok-ok.field-0 (search rules) c.find.result stands (search rules) in
    record { label = search rules; law = label_law file c.args.step c.read.ensures.law }

pub returns-in_default : goal.returns-in_default
returns-in_default c =
    let file = c.args.file.now in
    let stands = rw c.from.ensures at c.find.ensures.found in
    absurd (never_short file c.args.step c.read.ensures.law c.read.result c.read.ensures.answer c.in_ok-ok.field-0 (search rules) c.find.result stands
    c.in_ok-record.record c.in_ok-record.was c.in_default.len_below)

pub returns : goal.returns
returns c =
    let file = c.args.file.now in
    let stands = rw c.from.ensures at c.find.ensures.found in
    let body = c.in_ok-record.record.body.now in
    record {
      label = label_here file c.args.step c.read.ensures.law c.read.result c.read.ensures.answer c.in_ok-ok.field-0 (search rules) c.find.result stands
          c.in_ok-record.record c.in_ok-record.was
          ∙ ap (λ label. Some (c.in_ok-record.record.place + 6, label)) (sym (take_all (length body - 2) (drop 2 body) (simp length-drop (omega arith))));
      law = label_law file c.args.step c.read.ensures.law;
    }
