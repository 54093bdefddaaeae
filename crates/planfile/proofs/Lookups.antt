-- Finding a record by its kind, among those of a file.
use Rattle.std.proofs.Common.{◌≡◌, ℕ, ◌+◌, ◌-◌, ◌≤◌, Bool, true, false, ◌==◌, if◌then◌else◌, List, [], ◌∷◌, ◌++◌, length, Some, None, Ok, Err, Result, subst, inl, inr, sym, refl, ap, ◌∙◌, ap₂, arith}
use Rattle.std.specs.List.{slice_get}
use Rattle.std.specs.Result.{result_ok}
use Rattle.std.proofs.lemmas.List.{append-nil, append_assoc, length-append}
use Rattle.std.proofs.lemmas.Option.{slice_get_past}
use Rattle.std.proofs.lemmas.Bool.{cond-true, cond-false, eq-eqb, ne_eqb, both_ways}
use Rattle.planfile.specs.Cutting.{BadFront, GivesFault, GivesRecord, NextRecord}
use Rattle.planfile.specs.Files.{of_kind}
use Rattle.planfile.specs.Kinds.{kind_number}
use Rattle.planfile.specs.Records.{Entry, deadline, step, edge, block, hold_back, late, kind_of, body_of, encoded, file_of, front_kind, front_body, behind_front}
use Rattle.planfile.specs.Rules.{cut_short, unknown}
use Rattle.planfile.specs.declared.cause.Fault.{Fault}
use Rattle.planfile.specs.declared.record.Record.{Record}
use Rattle.planfile.specs.declared.records.Records.{Records}
use Rattle.planfile.proofs.Bytes.{kind_read, body_read, after_read, whole_read, encoded_size}

-- a list with something in it has a last
pub record LastOf {X : Type 0} (xs : List X) : Type 0 where
  pub front : List X
  pub last : X
  pub is : xs ≡ front ++ (last ∷ [])

last_of : {X : Type 0} (x : X) (xs : List X) → LastOf (x ∷ xs)
last_of x [] = record { front = []; last = x; is = refl }
last_of x (y ∷ ys) = let rest = last_of y ys in record { front = x ∷ rest.front; last = rest.last; is = ap (λ l. x ∷ l) rest.is }

-- the bytes of records, those of the oldest first
pub file_append : (later earlier : List Entry) → file_of (later ++ earlier) ≡ file_of earlier ++ file_of later
file_append [] earlier = sym (append-nil (file_of earlier))
file_append (entry ∷ later) earlier =
    ap (λ l. l ++ encoded (kind_of entry) (body_of entry)) (file_append later earlier)
    ∙ append_assoc (file_of earlier) (file_of later) (encoded (kind_of entry) (body_of entry))

-- the records of a kind: more come behind
more_of_kind : (kind : ℕ) (later earlier : List Entry) → (more : List (ℕ × List ℕ)) × (of_kind kind (later ++ earlier) ≡ of_kind kind earlier ++ more)
more_of_kind kind [] earlier = ([], sym (append-nil (of_kind kind earlier)))
more_of_kind kind (entry ∷ later) earlier = by (kind_of entry == kind) (more_of_kind kind later earlier) where
  here : List (ℕ × List ℕ)
  here = (length (file_of (later ++ earlier)), body_of entry) ∷ []

  by : (same : Bool) → (more : List (ℕ × List ℕ)) × (of_kind kind (later ++ earlier) ≡ of_kind kind earlier ++ more)
      → (more : List (ℕ × List ℕ)) × ((if same then of_kind kind (later ++ earlier) ++ here else of_kind kind (later ++ earlier)) ≡ of_kind kind earlier ++ more)
  by true (more, is) = (
    more ++ here,
    ap (λ l. l ++ here) is ∙ append_assoc (of_kind kind earlier) more here,
  )
  by false (more, is) = (more, is)

-- the one at a place of a list
pub nth_here : {X : Type 0} (front : List X) (x : X) (back : List X) → slice_get ((front ++ (x ∷ [])) ++ back) (length front) ≡ Some x
nth_here [] x back = refl
nth_here (y ∷ ys) x back = nth_here ys x back

-- some records of a file were passed, the rest is made of the others, and so many of the kind are still to be passed
pub record Onward (kind before : ℕ) (entries : List Entry) (rest : List ℕ) (left : ℕ) : Type 0 where
  pub later : List Entry
  pub earlier : List Entry
  pub parts : entries ≡ later ++ earlier
  pub bytes : rest ≡ file_of later
  pub count : length (of_kind kind earlier) + left ≡ before

-- bytes that begin with a record of a file, behind others of its records
record Front (entries earlier : List Entry) (rest : List ℕ) : Type 0 where
  pub later : List Entry
  pub entry : Entry
  pub parts : entries ≡ later ++ (entry ∷ earlier)
  pub laid : rest ≡ encoded (kind_of entry) (body_of entry) ++ file_of later

pub from_start : (kind before : ℕ) (entries : List Entry) (file : List ℕ) → file ≡ file_of entries → Onward kind before entries file before
from_start kind before entries file is =
    record { later = entries; earlier = []; parts = sym (append-nil entries); bytes = is; count = omega arith }

-- what comes next, by whether it is a record
pub given_read : (here after : Records) (next : Result Record Fault) (found : Record) → next ≡ Ok found
    → NextRecord here (Some next) after → GivesRecord here found after
given_read here after next found is went = subst (λ n. NextRecord here (Some n) after) is went

pub given_record : (here after : Records) (next : Result Record Fault) (found : Record) → result_ok next ≡ Some found
    → NextRecord here (Some next) after → GivesRecord here found after
given_record here after (Ok given) found is went = given_read here after (Ok given) found (cc) went
given_record here after (Err bad) found is went = absurd (cc)

pub given_fault : (here after : Records) (next : Result Record Fault) (bad : Fault) → next ≡ Err bad
    → NextRecord here (Some next) after → GivesFault here bad after
given_fault here after next bad is went = subst (λ n. NextRecord here (Some n) after) is went

kind_known : (entry : Entry) → unknown (kind_of entry) ≡ false
kind_known (deadline ticks) = refl
kind_known (step time label) = refl
kind_known (edge from to) = refl
kind_known (block cores ticks) = refl
kind_known (hold_back cores from until) = refl
kind_known (late ticks) = refl

module _ {kind before : ℕ} {entries : List Entry} {rest : List ℕ} {left : ℕ} (on : Onward kind before entries rest left) where
  -- at the end there are no more
  pub past_end : rest ≡ [] → slice_get (of_kind kind entries) before ≡ None
  past_end none = slice_get_past (of_kind kind entries) before (omega (arith, ap (λ l. length (of_kind kind l)) (on.parts ∙ none_later on.later on.bytes), on.count)) where
    none_later : (later : List Entry) → rest ≡ file_of later → later ++ on.earlier ≡ on.earlier
    none_later [] is = refl
    none_later (entry ∷ later) is =
        absurd (omega (arith, ap length none, ap length is, length-append (file_of later) (encoded (kind_of entry) (body_of entry)), encoded_size (kind_of entry) (body_of entry) []))

  -- before it, the rest begins with a record
  front : 1 ≤ length rest → Front entries on.earlier rest
  front some = by on.later on.parts on.bytes where
    by : (later : List Entry) → entries ≡ later ++ on.earlier → rest ≡ file_of later → Front entries on.earlier rest
    by [] parts bytes = absurd (omega (arith, some, ap length bytes))
    by (newest ∷ others) parts bytes =
        let ends = last_of newest others in
        record {
          later = ends.front;
          entry = ends.last;
          parts = parts ∙ ap (λ l. l ++ on.earlier) ends.is ∙ append_assoc ends.front (ends.last ∷ []) on.earlier;
          laid = bytes ∙ ap file_of ends.is ∙ file_append ends.front (ends.last ∷ []);
        }

  -- so it is neither cut short nor of an unknown kind
  never_bad : (place : ℕ) (bad : Fault) → 1 ≤ length rest → BadFront rest place bad → ⊥
  never_bad place bad some (inl (short, is)) =
      let first = front some in
      both_ways (cut_short rest) (ap cut_short first.laid ∙ whole_read (kind_of first.entry) (body_of first.entry) (file_of first.later)) short
  never_bad place bad some (inr ((found, body, after, laid, none), is)) =
      let first = front some in
      both_ways (unknown found)
      (ap unknown (sym (kind_read found body after) ∙ ap front_kind (sym laid ∙ first.laid) ∙ kind_read (kind_of first.entry) (body_of first.entry) (file_of first.later)) ∙ kind_known first.entry)
      none

-- a file of records has no fault
pub no_fault : {kind before : ℕ} {entries : List Entry} {left : ℕ} (here after : Records) → Onward kind before entries here.rest.now left
    → (found : Result Record Fault) → result_ok found ≡ None → NextRecord here (Some found) after → ⊥
no_fault here after on (Ok found) none went = absurd (cc)
no_fault here after on (Err bad) none went = never_bad on _ bad went.some went.front

module _ {kind before : ℕ} {entries : List Entry} {here : Records} {left : ℕ} (on : Onward kind before entries here.rest.now left)
    {found : Record} {after : Records} (given : GivesRecord here found after) where
  first : Front entries on.earlier here.rest.now
  first = front on (omega (arith, ap length given.laid, encoded_size (kind_number found.kind) found.body.now after.rest.now))

  -- the record that is given is the next of the file
  both : encoded (kind_of first.entry) (body_of first.entry) ++ file_of first.later ≡ encoded (kind_number found.kind) found.body.now ++ after.rest.now
  both = sym first.laid ∙ given.laid

  is_kind : kind_of first.entry ≡ kind_number found.kind
  is_kind = sym (kind_read (kind_of first.entry) (body_of first.entry) (file_of first.later)) ∙ ap front_kind both ∙ kind_read (kind_number found.kind) found.body.now after.rest.now

  is_body : body_of first.entry ≡ found.body.now
  is_body = sym (body_read (kind_of first.entry) (body_of first.entry) (file_of first.later)) ∙ ap front_body both ∙ body_read (kind_number found.kind) found.body.now after.rest.now

  is_after : after.rest.now ≡ file_of first.later
  is_after = sym (after_read (kind_number found.kind) found.body.now after.rest.now) ∙ ap behind_front (sym both) ∙ after_read (kind_of first.entry) (body_of first.entry) (file_of first.later)

  -- it is of another kind
  pub passed_other : (kind_number found.kind ≡ kind → ⊥) → Onward kind before entries after.rest.now left
  passed_other other = record {
    later = first.later;
    earlier = first.entry ∷ on.earlier;
    parts = first.parts;
    bytes = is_after;
    count = ap (λ l. length l + left) (cond-false _ _ _ (ne_eqb (kind_of first.entry) kind (λ same. other (sym is_kind ∙ same)))) ∙ on.count;
  }

  with_it : kind_number found.kind ≡ kind → of_kind kind (first.entry ∷ on.earlier) ≡ of_kind kind on.earlier ++ ((length (file_of on.earlier), body_of first.entry) ∷ [])
  with_it same = cond-true _ _ _ (eq-eqb (kind_of first.entry) kind (is_kind ∙ same))

  -- it is of the kind, and not the last to be passed
  pub passed_one : kind_number found.kind ≡ kind → 1 ≤ left → Onward kind before entries after.rest.now (left - 1)
  passed_one same some = record {
    later = first.later;
    earlier = first.entry ∷ on.earlier;
    parts = first.parts;
    bytes = is_after;
    count = omega (arith, ap length (with_it same), length-append (of_kind kind on.earlier) ((length (file_of on.earlier), body_of first.entry) ∷ []), on.count, some);
  }

  -- or it is the one
  its_place : here.file.now ≡ file_of entries → found.place ≡ length (file_of on.earlier)
  its_place is =
      let split : here.file.now ≡ (file_of on.earlier ++ encoded (kind_of first.entry) (body_of first.entry)) ++ file_of first.later =
      is ∙ ap file_of first.parts ∙ file_append first.later (first.entry ∷ on.earlier) in
      omega (
        arith,
        given.at,
        ap length split,
        length-append (file_of on.earlier ++ encoded (kind_of first.entry) (body_of first.entry)) (file_of first.later),
        length-append (file_of on.earlier) (encoded (kind_of first.entry) (body_of first.entry)),
        encoded_size (kind_of first.entry) (body_of first.entry) [],
        encoded_size (kind_of first.entry) (body_of first.entry) (file_of first.later),
        ap length first.laid,
      )

  pub this_one : here.file.now ≡ file_of entries → kind_number found.kind ≡ kind → left ≡ 0 → slice_get (of_kind kind entries) before ≡ Some (found.place, found.body.now)
  this_one is same none =
      let more = more_of_kind kind first.later (first.entry ∷ on.earlier) in
      let at : before ≡ length (of_kind kind on.earlier) = omega (arith, on.count, none) in
      ap₂ slice_get (ap (of_kind kind) first.parts ∙ more.1 ∙ ap (λ l. l ++ more.0) (with_it same)) at
      ∙ nth_here (of_kind kind on.earlier) (length (file_of on.earlier), body_of first.entry) more.0
      ∙ ap₂ (λ p b. Some (p, b)) (sym (its_place is)) is_body

-- a record that was found is in the file
pub within_file : {here after : Records} {found : Record} → GivesRecord here found after → length here.rest.now ≤ length here.file.now
    → found.place + 4 + length found.body.now ≤ length here.file.now
within_file {here} {after} {found} given within =
    omega (arith, within, given.at, ap length given.laid, encoded_size (kind_number found.kind) found.body.now after.rest.now)
