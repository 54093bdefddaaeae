-- One record further.
use Rattle.std.proofs.Common.{◌≡◌, ℕ, ◌-◌, ◌≤◌, ◌⊎◌, List, ◌∷◌, ◌++◌, length, Some, None, Ok, Err, Option, Result, sym, refl, ap, ◌∙◌, ap₂, inl, inr, arith, rules}
use Rattle.std.proofs.lemmas.List.{append_assoc, length-append}
use Rattle.std.proofs.lemmas.Bool.{cond-true}
use Rattle.planfile.specs.Cutting.{BadFront, GivesRecord, ReadTo, Takes, causes_in, kind_causes_in, reading_in, said_in}
use Rattle.planfile.specs.Files.{fault, BadRecord, CutOff, WrongKind, WrongEntry}
use Rattle.planfile.specs.Kinds.{kind_number, last_number}
use Rattle.planfile.specs.Records.{Entry, kind_of, body_of, encoded, file_of}
use Rattle.planfile.specs.Rules.{reading_of, last_kind, taken, kind_causes, said_causes, causes, first_cause}
use Rattle.planfile.specs.declared.cause.Cause.{Cause}
use Rattle.planfile.specs.declared.cause.Fault.{Fault}
use Rattle.planfile.specs.declared.reader.Reader.{Reader}
use Rattle.planfile.specs.declared.record.Record.{Record}
use Rattle.planfile.specs.declared.records.Records.{Records}
use Rattle.planfile.proofs.Bytes.{encoded_size, no_record}
use Rattle.planfile.proofs.Entering.{was_some, was_none, first_left, passed_kinds}

-- the records that were read keep the rules, and the rest is what comes after them
pub record ReadUpTo (places : ℕ) (file : List ℕ) (reader : Reader) (left : Records) : Type 0 where
  pub whole : left.file.now ≡ file
  pub earlier : List Entry
  pub split : file ≡ file_of earlier ++ left.rest.now
  pub read : ReadTo places earlier reader

module _ {places : ℕ} {file : List ℕ} {reader : Reader} {here : Records} (upto : ReadUpTo places file reader here) where
  place_here : length here.file.now - length here.rest.now ≡ length (file_of upto.earlier)
  place_here = omega (arith, ap length upto.whole, ap length upto.split, length-append (file_of upto.earlier) here.rest.now)

  -- the first bad record is here
  bad_here : (bad : Fault) → 1 ≤ length here.rest.now → bad.place ≡ length here.file.now - length here.rest.now
      → CutOff here.rest.now bad.cause ⊎ (WrongKind upto.earlier here.rest.now bad.cause ⊎ WrongEntry places upto.earlier here.rest.now bad.cause) → BadRecord places file bad
  bad_here bad some at why = record {
    earlier = upto.earlier;
    bytes = here.rest.now;
    split = upto.split;
    some = some;
    kept = upto.read.kept;
    cause = why;
    place = at ∙ place_here;
  }

  -- it is cut short, or of no known kind
  pub bad_front : (bad : Fault) → 1 ≤ length here.rest.now → BadFront here.rest.now (length here.file.now - length here.rest.now) bad → BadRecord places file bad
  bad_front bad some (inl (short, is)) = bad_here bad some (ap (λ b. b.place) is) (inl (ap (λ b. b.cause) is, no_record here.rest.now short))
  bad_front bad some (inr ((kind, body, after, laid, none), is)) =
      bad_here bad some (ap (λ b. b.place) is) (inr (inl (kind, body, after, laid, cond-true _ _ _ none ∙ ap Some (sym (ap (λ b. b.cause) is)))))

  module _ {found : Record} {after : Records} (given : GivesRecord here found after) {answer : Result (Unit {0}) Cause} {next : Reader}
      (took : Takes reader found answer next) where
    abbrev kind : ℕ
    kind = kind_number found.kind

    abbrev body : List ℕ
    body = found.body.now

    some : 1 ≤ length here.rest.now
    some = omega (arith, ap length given.laid, encoded_size kind body after.rest.now)

    same_causes : causes_in reader found ≡ causes places upto.earlier kind (length body) (said_in found)
    same_causes =
        ap (λ n. kind_causes_in reader found ++ said_causes n (reading_in reader) (said_in found)) upto.read.size
        ∙ ap₂ (λ last reading. kind_causes last kind (length body) ++ said_causes places reading (said_in found)) upto.read.last upto.read.reading

    -- the record is refused, by its kind and length, or by what it says
    pub bad_taken : (cause : Cause) → answer ≡ Err cause → BadRecord places file (fault cause found.place)
    bad_taken cause refused = bad_here (fault cause found.place) some given.at (inr (by (first_cause (kind_causes_in reader found)) refl)) where
      told : first_cause (causes places upto.earlier kind (length body) (said_in found)) ≡ Some cause
      told = ap first_cause (sym same_causes) ∙ was_some (first_cause (causes_in reader found)) (sym refused ∙ took.answered)

      by : (kinds : Option Cause) → first_cause (kind_causes_in reader found) ≡ kinds → WrongKind upto.earlier here.rest.now cause ⊎ WrongEntry places upto.earlier here.rest.now cause
      by (Some first) is =
          let early : first_cause (kind_causes (last_kind upto.earlier) kind (length body)) ≡ Some first = ap (λ last. first_cause (kind_causes last kind (length body))) (sym upto.read.last) ∙ is in
          inl (kind, body, after.rest.now, given.laid, early ∙ sym (first_left (kind_causes (last_kind upto.earlier) kind (length body)) (said_causes places (reading_of upto.earlier) (said_in found)) first early) ∙ told)
      by None is =
          let says = took.says is in
          inr (
            said_in found,
            after.rest.now,
            given.laid ∙ ap₂ (λ k b. encoded k b ++ after.rest.now) (sym says.kind_again) (sym says.body_again),
            ap₂ (λ k b. first_cause (causes places upto.earlier k (length b) (said_in found))) says.kind_again says.body_again ∙ told,
          )

    -- or it comes to those that were read
    pub read_taken : answer ≡ Ok tt → ReadUpTo places file next after
    read_taken passed =
        let good = sym passed ∙ took.answered in
        let says = took.says (passed_kinds (kind_causes_in reader found) (said_causes (length reader.blocks.now) (reading_in reader) (said_in found)) good) in
        let entry = said_in found in
        let is_last : next.last ≡ Some found.kind = search rules in
        record {
          whole = given.file ∙ upto.whole;
          earlier = entry ∷ upto.earlier;
          split = upto.split
              ∙ ap (λ r. file_of upto.earlier ++ r) (given.laid ∙ ap₂ (λ k b. encoded k b ++ after.rest.now) (sym says.kind_again) (sym says.body_again))
              ∙ sym (append_assoc (file_of upto.earlier) (encoded (kind_of entry) (body_of entry)) after.rest.now);
          read = record {
            kept = (
              upto.read.kept,
              ap₂ (λ k b. first_cause (causes places upto.earlier k (length b) entry)) says.kind_again says.body_again ∙ ap first_cause (sym same_causes) ∙ was_none _ good,
            );
            reading = search rules ∙ ap (taken entry) upto.read.reading;
            last = ap last_number is_last ∙ sym says.kind_again;
            size = took.list.size ∙ upto.read.size;
          };
        }
