-- The records of a kind one after another, as a chain of iterators gives them.
use Rattle.std.proofs.Common.{◌≡◌, ℕ, ◌+◌, ◌-◌, ◌≤◌, Bool, true, false, ◌==◌, List, [], ◌∷◌, length, Some, None, Option, Result, Bor, sym, refl, ap, ◌∙◌, subst, arith}
use Rattle.std.specs.Fn.{Called, CalledAt}
use Rattle.std.specs.Iterator.{Yields, SkipsThenYields}
use Rattle.std.specs.declared.iter.MapWhile.{MapWhile}
use Rattle.std.specs.declared.iter.Filter.{Filter}
use Rattle.std.specs.Iterator.Adapters.{map_while_source, map_while_callee, map_while_steps, filter_source, filter_callee, filter_steps}
use Rattle.std.specs.List.{slice_get, FoldsTo}
use Rattle.std.specs.Result.{result_ok}
use Rattle.std.proofs.lemmas.Bool.{eq-eqb, eqb-true, both_ways}
use denote.Param.Members.{Mut}
use Rattle.planfile.specs.Cutting.{Found, GivesRecord, NextRecord, Within}
use Rattle.planfile.specs.Files.{of_kind}
use Rattle.planfile.specs.Kinds.{kind_number}
use Rattle.planfile.specs.Records.{Entry, file_of}
use Rattle.planfile.specs.declared.cause.Fault.{Fault}
use Rattle.planfile.specs.declared.record.Record.{Record}
use Rattle.planfile.specs.declared.records.Records.{Records}
use Rattle.planfile.proofs.Lookups.{Onward, from_start, past_end, given_record, no_fault, passed_other, passed_one, this_one, within_file}

-- further on in the same file, and, where it is made of records, with fewer of the kind still to be passed
record Reached (kind before left less : ℕ) (from to : Records) : Type 0 where
  pub file : to.file.now ≡ from.file.now
  pub onward : (entries : List Entry) → Onward kind before entries from.rest.now left → Onward kind before entries to.rest.now less

module _ {F P : Type 0} {ok : Mut F (Result Record Fault × Unit {0}) (Option Record)} {test : Mut P (Bor Record × Unit {0}) Bool} {f : F} {p : P} (kind before : ℕ)
    (takes : (next : Result Record Fault) (r : Option Record) (q : F) → Called ok f (next, tt) r q → (q ≡ f) × (r ≡ result_ok next))
    (tests : (x : Record) (b : Bool) (q : P) → CalledAt test p x b q → (q ≡ p) × (b ≡ (kind_number x.kind == kind))) where
  -- the records up to the first fault, and of these the ones of the kind
  abbrev Good : Type 0
  Good = MapWhile Records F

  abbrev gives : Good → Option Record → Good → Type 0
  gives = map_while_steps NextRecord ok

  abbrev Chosen : Type 0
  Chosen = Filter Good P

  abbrev chooses : Chosen → Option Record → Chosen → Type 0
  chooses = filter_steps gives test

  abbrev records_in : Chosen → Records
  records_in s = map_while_source (filter_source s)

  -- the functions of the chain stay as they are
  pub record Kept (s : Chosen) : Type 0 where
    pub takes_still : map_while_callee (filter_source s) ≡ f
    pub tests_still : filter_callee s ≡ p

  taken_at : (g : F) → g ≡ f → (next : Result Record Fault) (r : Option Record) (q : F) → Called ok g (next, tt) r q → (q ≡ f) × (r ≡ result_ok next)
  taken_at g is next r q called = takes next r q (subst (λ h. Called ok h (next, tt) r q) is called)

  tested_at : (a : P) → a ≡ p → (x : Record) (b : Bool) (q : P) → CalledAt test a x b q → (q ≡ p) × (b ≡ (kind_number x.kind == kind))
  tested_at a is x b q called = tests x b q (subst (λ h. CalledAt test h x b q) is called)

  -- the next record is given
  given_next : (s t : Good) (x : Record) → map_while_callee s ≡ f → gives s (Some x) t → (map_while_callee t ≡ f) × GivesRecord (map_while_source s) x (map_while_source t)
  given_next s t x is (None, step, call) = absurd (cc call.0)
  given_next s t x is (Some next, step, call) =
      let told = taken_at (map_while_callee s) is next (Some x) (map_while_callee t) call in
      (told.0, given_record (map_while_source s) (map_while_source t) next x (sym told.1) step)

  -- records of other kinds are passed
  pass_others : (left : ℕ) (xs : List Record) (s t : Good) (a q : P) → map_while_callee s ≡ f → a ≡ p → Yields gives s xs t → FoldsTo (λ a x b. CalledAt test a x false b) a xs q
      → (map_while_callee t ≡ f) × (q ≡ p) × Reached kind before left left (map_while_source s) (map_while_source t)
  pass_others left [] s t a q is same ran calls =
      (ap map_while_callee (sym ran) ∙ is, sym calls ∙ same, subst (λ u. Reached kind before left left (map_while_source s) (map_while_source u)) ran (record { file = refl; onward = λ entries on. on }))
  pass_others left (x ∷ xs) s t a q is same (j, step, ran) (k, call, calls) =
      let first = given_next s j x is step in
      let told = tested_at a same x false k call in
      let rest = pass_others left xs j t k q first.0 told.0 ran calls in (
        rest.0,
        rest.1,
        record {
          file = rest.2.file ∙ first.1.file;
          onward = λ entries on. rest.2.onward entries (passed_other on first.1 (λ is. both_ways _ (sym told.1) (eq-eqb _ _ is)));
        },
      )

  -- one of the kind comes behind them
  record Chooses (left : ℕ) (s : Chosen) (x : Record) (t : Chosen) : Type 0 where
    pub here : Records
    pub reached : Reached kind before left left (records_in s) here
    pub given : GivesRecord here x (records_in t)
    pub is_kind : kind_number x.kind ≡ kind
    pub kept : Kept t

  choose_one : (left : ℕ) (s t : Chosen) (x : Record) → Kept s → chooses s (Some x) t → Chooses left s x t
  choose_one left s t x kept (xs, q, (m, ran, step), calls, call) =
      let others = pass_others left xs (filter_source s) m (filter_callee s) q kept.takes_still kept.tests_still ran calls in
      let one = given_next m (filter_source t) x others.0 step in
      let told = tested_at q others.1 x true (filter_callee t) call in
      record { here = map_while_source m; reached = others.2; given = one.1; is_kind = eqb-true _ _ (sym told.1); kept = record { takes_still = one.0; tests_still = told.0 } }

  -- and so many of the kind
  choose_many : (left less : ℕ) (xs : List Record) (s t : Chosen) → left ≡ length xs + less → Kept s → Yields chooses s xs t → Kept t × Reached kind before left less (records_in s) (records_in t)
  choose_many left less [] s t count kept ran =
      let all : left ≡ less = omega (arith, count) in
      subst (λ u. Kept u × Reached kind before left less (records_in s) (records_in u)) ran
      (kept, record { file = refl; onward = λ entries on. subst (Onward kind before entries (records_in s).rest.now) all on })
  choose_many left less (x ∷ xs) s t count kept (j, step, ran) =
      let first = choose_one left s j x kept step in
      let rest = choose_many (left - 1) less xs j t (omega (arith, count)) first.kept ran in (
        rest.0,
        record {
          file = rest.1.file ∙ first.given.file ∙ first.reached.file;
          onward = λ entries on. rest.1.onward entries (passed_one (first.reached.onward entries on) first.given first.is_kind (omega (arith, count)));
        },
      )

  -- none is given only at the end of a file of records, so there are no more of the kind
  given_none : {entries : List Entry} {left : ℕ} (s t : Good) → map_while_callee s ≡ f → Onward kind before entries (map_while_source s).rest.now left → gives s None t
      → slice_get (of_kind kind entries) before ≡ None
  given_none s t is on (None, step, call) = past_end on step.0
  given_none s t is on (Some next, step, call) =
      absurd (no_fault (map_while_source s) (map_while_source t) on next (sym (taken_at (map_while_callee s) is next None (map_while_callee t) call).1) step)

  choose_none : {entries : List Entry} (left : ℕ) (s t : Chosen) → Kept s → Onward kind before entries (records_in s).rest.now left → chooses s None t → slice_get (of_kind kind entries) before ≡ None
  choose_none {entries} left s t kept on (xs, q, (m, ran, step), calls, call) =
      let others = pass_others left xs (filter_source s) m (filter_callee s) q kept.takes_still kept.tests_still ran calls in
      given_none m (filter_source t) others.0 (others.2.onward entries on) step

  -- so the record that was looked for comes, or none
  module _ {s : Chosen} (u : Chosen) (kept : Kept s) (file : List ℕ) (whole : (records_in s).file.now ≡ file) (unread : (records_in s).rest.now ≡ file) where
    pub found_by : (r : Option Record) → SkipsThenYields chooses s before r u → (entries : List Entry) → file ≡ file_of entries → Found (slice_get (of_kind kind entries) before) r
    found_by None (xs, (t, ran, step), few) entries made =
        let passed = choose_many before (before - length xs) xs s t (omega (arith, few)) kept ran in
        choose_none (before - length xs) t u passed.0 (passed.1.onward entries (from_start kind before entries _ (unread ∙ made))) step
    found_by (Some x) (xs, (t, ran, step), just) entries made =
        let passed = choose_many before 0 xs s t (omega (arith, just)) kept ran in
        let one = choose_one 0 t u x passed.0 step in
        this_one (one.reached.onward entries (passed.1.onward entries (from_start kind before entries _ (unread ∙ made)))) one.given (one.reached.file ∙ passed.1.file ∙ whole ∙ made) one.is_kind refl

    pub within_by : (r : Option Record) → SkipsThenYields chooses s before r u → Within file r
    within_by None ran = tt
    within_by (Some x) (xs, (t, ran, step), just) =
        let passed = choose_many before 0 xs s t (omega (arith, just)) kept ran in
        let one = choose_one 0 t u x passed.0 step in
        subst (λ bytes. x.place + 4 + length x.body.now ≤ length bytes) (one.reached.file ∙ passed.1.file ∙ whole) (within_file one.given one.here.within)
