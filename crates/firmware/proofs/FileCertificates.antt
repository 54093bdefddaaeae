-- A file's certificate, by what the file says.
use Rattle.std.proofs.Common.{◌≡◌, ℕ, ◌-◌, ◌≤◌, Bool, true, false, leb, ◌↔◌, List, length, Ok, Err, MatchBool, Result, unwrap_or, sym, refl, ap, ◌∙◌, subst, ap₂, inl, inr, ⊎_elim, arith}
use Rattle.std.specs.Option.{option_map}
use Rattle.std.proofs.lemmas.List.{nil_from_length}
use Rattle.std.proofs.lemmas.Bool.{both_ways, cases_eq, le-leb, lt-leb, leb-true, leb-false}
use Rattle.certificate.specs.Certified.{whole_test, Certified, Uncertified}
use Rattle.certificate.specs.Marking.{least_yield, LeastYield, Passes, Fails}
use Rattle.certificate.specs.Refusals.{number_of, refusal_of}
use Rattle.certificate.specs.declared.certificate.Certificate.{Certificate}
use Rattle.certificate.specs.declared.marking_test.MarkingTest.{MarkingTest}
use Rattle.cores.specs.declared.ladder.Block.{Block}
use Rattle.graph.specs.Asked.{steps_of, deadline_of, volume_of, length_of}
use Rattle.graph.specs.Drafts.{PlanOf}
use Rattle.graph.specs.declared.plan.Plan.{Plan}
use Rattle.planfile.specs.Files.{Accepted, FileLaw, Refused, Unready, answer_to, blocks_left, layers_of, outcome}
use Rattle.planfile.specs.Records.{Entry}
use Rattle.planfile.specs.Rules.{Reading, reading_of}
use Rattle.planfile.specs.Causes.{cause_number}
use Rattle.planfile.specs.declared.cause.Fault.{Fault}
use Rattle.planfile.specs.declared.layers.Layers.{Layers}
use Rattle.planfile.proofs.Outcomes.{both_answers, same_bad, same_value}
use Rattle.firmware.specs.Certificates.{CertificateLaw, NumberLaw, OfPlan, number_by, certificate_by, certificate_of, file_certificate, test_in, volume_in, width_in}
use Rattle.firmware.specs.Cores.{granted}
use Rattle.firmware.proofs.Granting.{granted_with_zeros}
use Rattle.firmware.proofs.PlanMeasures.{count_is, volume_is, length_is}
use Rattle.firmware.proofs.Sizes.{cause_from}

same_certificate : {v v' l l' d d' y y' : ℕ} {c c' : Bool} → v ≡ v' → l ≡ l' → d ≡ d' → y ≡ y' → c ≡ c'
    → ◌≡◌ {A = Certificate} (record { volume = v; length = l; deadline = d; least = y; certified = c }) (record { volume = v'; length = l'; deadline = d'; least = y'; certified = c' })
same_certificate p q r s t = λ i. record { volume = p i; length = q i; deadline = r i; least = s i; certified = t i }

-- the least yield tells whether every marking yields the work
module _ (width : ℕ → ℕ) (test : MarkingTest) (least work : ℕ) (known : LeastYield width test 64 least) where
  pub enough_passes : work ≤ least → Passes width test 64 work
  enough_passes enough = λ marking allowed. let above = known.bounds marking allowed in omega arith

  pub passes_enough : Passes width test 64 work → work ≤ least
  passes_enough passes = let found = known.reached in omega (arith, passes found.0 found.1, found.2)

module _ (read : Reading) (plan : Plan) (made : PlanOf read.held plan) (whole : Unready read → ⊥)
    (width : ℕ → ℕ) (grants : (tick : ℕ) → width tick ≡ width_in read tick) where
  same_width : width ≡ width_in read
  same_width = λ i tick. grants tick i

  same_test : whole_test plan ≡ test_in read.held
  same_test = λ i. record { first = 0; deadline = made.deadline i; length = length_is read.held plan made i }

  some_step : 1 ≤ steps_of plan
  some_step =
      ⊎_elim
      (λ none. absurd (whole (inl (inr (nil_from_length read.held.times (sym (count_is read.held plan made) ∙ none))))))
      (λ other. omega (arith, other))
      (cases_eq (steps_of plan) 0)

  pub least_here : (answer : ℕ) → LeastYield width (whole_test plan) 64 answer → LeastYield (width_in read) (test_in read.held) 64 answer
  least_here answer known = subst (λ t. LeastYield (width_in read) t 64 answer) same_test (subst (λ w. LeastYield w (whole_test plan) 64 answer) same_width known)

  module _ (answer : Certificate) (volume : answer.volume ≡ volume_of plan) (length : answer.length ≡ length_of plan) (deadline : answer.deadline ≡ deadline_of plan)
      (least : answer.least ≡ least_yield width (whole_test plan) 64) (smallest : LeastYield width (whole_test plan) 64 answer.least)
      (certified : MatchBool answer.certified (Certified width plan) (Uncertified width plan)) where
    least_is : answer.least ≡ least_yield (width_in read) (test_in read.held) 64
    least_is = least ∙ (λ i. least_yield (same_width i) (same_test i) 64)

    verdict : (b : Bool) → MatchBool b (Certified width plan) (Uncertified width plan) → b ≡ leb (volume_of plan) answer.least
    verdict true passed = sym (le-leb (volume_of plan) answer.least (passes_enough width (whole_test plan) answer.least (volume_of plan) smallest passed.1))
    verdict false failed =
        sym (lt-leb (volume_of plan) answer.least
        (⊎_elim
        (λ empty. absurd (omega (arith, some_step, empty)))
        (λ fails. omega (arith, smallest.bounds fails.0 fails.1, fails.2))
        failed))

    pub is_certificate : answer ≡ certificate_of read
    is_certificate =
        same_certificate
        (volume ∙ volume_is read.held plan made)
        (length ∙ length_is read.held plan made)
        (deadline ∙ made.deadline)
        least_is
        (verdict answer.certified certified ∙ (λ i. leb (volume_is read.held plan made i) (least_is i)))

    pub is_least : LeastYield (width_in read) (test_in read.held) 64 (certificate_of read).least
    is_least = subst (LeastYield (width_in read) (test_in read.held) 64) least_is (least_here answer.least smallest)

-- certified is the same as passing
pub certified_passes : (read : Reading) → LeastYield (width_in read) (test_in read.held) 64 (certificate_of read).least
    → ((certificate_of read).certified ≡ true) ↔ Passes (width_in read) (test_in read.held) 64 (volume_in read.held)
certified_passes read known = (
  λ yes. enough_passes (width_in read) (test_in read.held) (certificate_of read).least (volume_in read.held) known (leb-true _ _ yes),
  λ passes. le-leb _ _ (passes_enough (width_in read) (test_in read.held) (certificate_of read).least (volume_in read.held) known passes),
)

-- and the same of every plan that was made of what was read
pub of_plan : (read : Reading) → LeastYield (width_in read) (test_in read.held) 64 (certificate_of read).least → (Unready read → ⊥)
    → (plan : Plan) → PlanOf read.held plan → OfPlan read plan
of_plan read known whole plan made = record {
  volume = sym (volume_is read.held plan made);
  length = sym (length_is read.held plan made);
  deadline = sym made.deadline;
  certified = (
    λ is. (
      some_step read plan made whole (width_in read) (λ tick. refl),
      subst (λ t. Passes (width_in read) t 64 (volume_of plan)) (sym (same_test read plan made whole (width_in read) (λ tick. refl)))
          (subst (Passes (width_in read) (test_in read.held) 64) (sym (volume_is read.held plan made)) ((certified_passes read known).0 is)),
    ),
    λ certified. (certified_passes read known).1 (subst (Passes (width_in read) (test_in read.held) 64) (volume_is read.held plan made)
        (subst (λ t. Passes (width_in read) t 64 (volume_of plan)) (same_test read plan made whole (width_in read) (λ tick. refl)) certified.1)),
  );
}

module _ (file : List ℕ) (records : FileLaw 64 file) where
  -- a refused file has no certificate to be right
  pub refused_file : (bad : Fault) → outcome 64 file ≡ Err bad → (◌≡◌ {A = Result Certificate Fault} (Err bad) (file_certificate file)) × CertificateLaw file
  unfolding file_certificate
  refused_file bad is = (
    sym (ap certificate_by is),
    record {
      records = records;
      least = λ entries accepted. absurd (both_answers (outcome 64 file) accepted is);
      certified = λ entries accepted. absurd (both_answers (outcome 64 file) accepted is);
      plan = λ entries accepted. absurd (both_answers (outcome 64 file) accepted is);
    },
  )

  pub accepted_file : (entries : List Entry) (answer : Certificate) → outcome 64 file ≡ Ok entries → answer ≡ certificate_of (reading_of entries)
      → LeastYield (width_in (reading_of entries)) (test_in (reading_of entries).held) 64 (certificate_of (reading_of entries)).least
      → (◌≡◌ {A = Result Certificate Fault} (Ok answer) (file_certificate file)) × CertificateLaw file
  unfolding file_certificate
  accepted_file entries answer accepted is known = (
    ap Ok is ∙ sym (ap certificate_by accepted),
    record {
      records = records;
      least = λ others also. here others (same_value (outcome 64 file) accepted also);
      certified = λ others also. certified_passes (reading_of others) (here others (same_value (outcome 64 file) accepted also));
      plan = λ others also. of_plan (reading_of others) (here others (same_value (outcome 64 file) accepted also)) ((records.accepted others).0 also).ready;
    },
  ) where
    here : (others : List Entry) → entries ≡ others → LeastYield (width_in (reading_of others)) (test_in (reading_of others).held) 64 (certificate_of (reading_of others)).least
    here others same = subst (λ e. LeastYield (width_in (reading_of e)) (test_in (reading_of e).held) 64 (certificate_of (reading_of e)).least) same known

-- what the reader's answer tells of the outcome
pub from_refused : (o : Result (List Entry) Fault) (bad : Fault) → Err bad ≡ answer_to o → o ≡ Err bad
from_refused (Ok entries) bad is = absurd (both_answers (Err bad) is refl)
from_refused (Err other) bad is = ap Err (same_bad (Err bad) is refl)

pub from_accepted : (o : Result (List Entry) Fault) (layers : Layers) → Ok layers ≡ answer_to o → (entries : List Entry) × (o ≡ Ok entries) × (layers ≡ layers_of (reading_of entries))
from_accepted (Ok entries) layers is = (entries, refl, same_value (Ok layers) refl is)
from_accepted (Err bad) layers is = absurd (both_answers (Ok layers) refl is)

-- the cores of an accepted file are those that it grants, though its list has zeros behind the blocks
pub grants : (entries : List Entry) (o : Result (List Entry) Fault) (list : List Block) (layers : Layers) (tick : ℕ) → o ≡ Ok entries → list ≡ blocks_left 64 o → layers ≡ layers_of (reading_of entries)
    → granted list layers tick ≡ width_in (reading_of entries) tick
grants entries o list layers tick accepted left same =
    ap₂ (λ l k. granted l k tick) (left ∙ ap (blocks_left 64) accepted) same
    ∙ granted_with_zeros (reading_of entries).blocks (64 - length (reading_of entries).blocks) (layers_of (reading_of entries)) tick

-- the law of the one number
module _ (file : List ℕ) (law : CertificateLaw file) where
  both_told : {A : Type 0} (entries : List Entry) (bad : Fault) → outcome 64 file ≡ Err bad → Accepted 64 file entries → A
  both_told entries bad is accepted = absurd (both_answers (outcome 64 file) ((law.records.accepted entries).1 accepted) is)

  passes_or_fails : (width : ℕ → ℕ) (test : MarkingTest) (amount : ℕ) → Passes width test 64 amount → Fails width test 64 amount → ⊥
  passes_or_fails width test amount passes fails = omega (arith, passes fails.0 fails.1, fails.2)

  pub number_law : NumberLaw file (number_by (file_certificate file))
  unfolding file_certificate
  number_law = by (outcome 64 file) refl where
    by : (o : Result (List Entry) Fault) → outcome 64 file ≡ o → NumberLaw file (number_by (certificate_by (outcome 64 file)))
    by (Err bad) is = subst (λ o. NumberLaw file (number_by (certificate_by o))) (sym is) (record {
      certified = (λ none. absurd (omega (arith, (cause_from bad.cause).0, none)), λ found. both_told found.0 bad is found.1);
      uncertified = (λ eleven. absurd (omega (arith, (cause_from bad.cause).1, eleven)), λ found. both_told found.0 bad is found.1);
      refused = λ n low high. (
        λ same. (bad, (law.records.refused bad).0 is, same),
        λ found. ap (λ f. cause_number f.cause) (same_bad (outcome 64 file) is ((law.records.refused found.0).1 found.1)) ∙ found.2,
      );
      none_else = omega (arith, (cause_from bad.cause).1);
    })
    by (Ok entries) is = subst (λ o. NumberLaw file (number_by (certificate_by o))) (sym is) (verdict (certificate_of (reading_of entries)).certified refl) where
      only : (others : List Entry) → Accepted 64 file others → others ≡ entries
      only others accepted = same_value (outcome 64 file) ((law.records.accepted others).1 accepted) is

      no_fault : {A : Type 0} (bad : Fault) → Refused 64 file bad → A
      no_fault bad why = absurd (both_answers (outcome 64 file) is ((law.records.refused bad).1 why))

      here : Accepted 64 file entries
      here = (law.records.accepted entries).0 is

      fails : (certificate_of (reading_of entries)).certified ≡ false → Fails (width_in (reading_of entries)) (test_in (reading_of entries).held) 64 (volume_in (reading_of entries).held)
      fails told =
          let found = (law.least entries is).reached in
          let less = leb-false _ _ told in
          (found.0, found.1, omega (arith, found.2, less))

      verdict : (b : Bool) → (certificate_of (reading_of entries)).certified ≡ b → NumberLaw file (unwrap_or (option_map number_of (refusal_of (certificate_of (reading_of entries)).certified)) 0)
      verdict true told = subst (λ b. NumberLaw file (unwrap_or (option_map number_of (refusal_of b)) 0)) (sym told) (record {
        certified = (λ none. (entries, here, (law.certified entries is).0 told), λ found. refl);
        uncertified = (
          λ eleven. absurd (omega (arith, eleven)),
          λ found. absurd (passes_or_fails (width_in (reading_of entries)) (test_in (reading_of entries).held) (volume_in (reading_of entries).held) ((law.certified entries is).0 told)
              (subst (λ e. Fails (width_in (reading_of e)) (test_in (reading_of e).held) 64 (volume_in (reading_of e).held)) (only found.0 found.1) found.2)),
        );
        refused = λ n low high. (λ same. absurd (omega (arith, same)), λ found. no_fault found.0 found.1);
        none_else = omega arith;
      })
      verdict false told = subst (λ b. NumberLaw file (unwrap_or (option_map number_of (refusal_of b)) 0)) (sym told) (record {
        certified = (
          λ none. absurd (omega (arith, none)),
          λ found. absurd (both_ways _ told ((law.certified entries is).1
              (subst (λ e. Passes (width_in (reading_of e)) (test_in (reading_of e).held) 64 (volume_in (reading_of e).held)) (only found.0 found.1) found.2))),
        );
        uncertified = (λ eleven. (entries, here, fails told), λ found. refl);
        refused = λ n low high. (λ same. absurd (omega (arith, same)), λ found. no_fault found.0 found.1);
        none_else = omega arith;
      })
