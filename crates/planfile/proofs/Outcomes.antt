-- What the law says of a file, its outcome has.
use Rattle.std.proofs.Common.{◌≡◌, ℕ, ◌<◌, true, false, List, [], length, get_or, Some, None, Ok, Err, Option, Result, sym, refl, ap, ◌∙◌, subst, inl, inr}
use Rattle.std.specs.Option.{option_map}
use Rattle.std.specs.List.{slice_get}
use Rattle.std.proofs.lemmas.List.{nil_from_length}
use Rattle.std.proofs.lemmas.Bool.{cond-false, cond-true, eq-eqb, ne_eqb, or_from, or_left, or_right}
use Rattle.graph.specs.Drafts.{Content, FinishLaw, finish_refusal, lacking}
use Rattle.graph.specs.Implied.{FirstImpliedBy, first_implied}
use Rattle.graph.specs.declared.refusal.Refusal.TheVariants as refusal
use Rattle.planfile.specs.Files.{fault, read_on, unready, of_kind, begins, unless_implied, at_end, outcome, MadeOf, Unready, Accepted, BadRecord, PartMissing, Refused, FileLaw}
use Rattle.planfile.specs.Records.{Entry}
use Rattle.planfile.specs.Rules.{Reading, reading_of}
use Rattle.planfile.specs.declared.cause.Cause.TheVariants.{Incomplete, ImpliedEdge}
use Rattle.planfile.specs.declared.cause.Fault.{Fault}
use Rattle.planfile.proofs.Runs.{read_all, read_bad}

-- an answer that is both taken and refused
pub both_answers : {A B : Type 0} {value : A} {bad : B} (answer : Result A B) → answer ≡ Ok value → answer ≡ Err bad → ⊥
both_answers answer taken refused = cc

-- the value, and the fault, that an answer has
pub same_value : {A B : Type 0} {x y : A} (answer : Result A B) → answer ≡ Ok x → answer ≡ Ok y → x ≡ y
same_value answer is also = cc

pub same_bad : {A B : Type 0} {x y : B} (answer : Result A B) → answer ≡ Err x → answer ≡ Err y → x ≡ y
same_bad answer is also = cc

-- what is missing, as a test
pub is_unready : (read : Reading) → Unready read → unready read ≡ true
is_unready read (inl (inl none)) = or_left _ _ (or_left _ _ (eq-eqb _ 0 none))
is_unready read (inl (inr none)) = or_left _ _ (or_right _ _ (eq-eqb _ 0 (ap length none)))
is_unready read (inr none) = or_right _ _ (eq-eqb _ 0 (ap length none))

pub is_ready : (read : Reading) → (Unready read → ⊥) → unready read ≡ false
is_ready read ready =
    or_from _ _
    (or_from _ _ (ne_eqb _ 0 (λ none. ready (inl (inl none)))) (ne_eqb _ 0 (λ none. ready (inl (inr (nil_from_length _ none))))))
    (ne_eqb _ 0 (λ none. ready (inr (nil_from_length _ none))))

-- the first implied edge by why finishing is refused
module _ (held : Content) (whole : lacking held ≡ false) where
  edges_tell : finish_refusal held ≡ option_map (λ i. refusal.ImpliedEdge i) (first_implied held.edges)
  edges_tell = cond-false _ _ _ whole

  pub none_first : finish_refusal held ≡ None → first_implied held.edges ≡ None
  none_first is = from (first_implied held.edges) (sym edges_tell ∙ is) where
    from : (first : Option ℕ) → option_map (λ i. refusal.ImpliedEdge i) first ≡ None → first ≡ None
    from None none = refl
    from (Some i) none = cc

  pub one_first : (edge : ℕ) → finish_refusal held ≡ Some (refusal.ImpliedEdge edge) → first_implied held.edges ≡ Some edge
  one_first edge is = from (first_implied held.edges) (sym edges_tell ∙ is) where
    from : (first : Option ℕ) → option_map (λ i. refusal.ImpliedEdge i) first ≡ Some (refusal.ImpliedEdge edge) → first ≡ Some edge
    from None one = cc
    from (Some i) one = cc

module _ (places : ℕ) (file : List ℕ) (small : (i : ℕ) → get_or file i 0 < 256) where
  pub bad_outcome : (bad : Fault) → BadRecord places file bad → outcome places file ≡ Err bad
  unfolding outcome
  bad_outcome bad at = ap (at_end (length file)) (read_bad places file bad small at)

  made_outcome : (entries : List Entry) → MadeOf places file entries → outcome places file ≡ at_end (length file) (Ok entries)
  unfolding outcome
  made_outcome entries made = ap (at_end (length file)) (read_all places file entries made)

  made_not_bad : (entries : List Entry) (bad : Fault) → MadeOf places file entries → BadRecord places file bad → ⊥
  made_not_bad entries bad made at = both_answers (read_on (length file) places [] file) (read_all places file entries made) (read_bad places file bad small at)

  made_same : (entries others : List Entry) → MadeOf places file entries → MadeOf places file others → entries ≡ others
  made_same entries others made also = same_value (read_on (length file) places [] file) (read_all places file entries made) (read_all places file others also)

  -- a file with a bad record
  module _ (bad : Fault) (at : BadRecord places file bad) where
    pub bad_file : FileLaw places file
    bad_file = record {
      accepted = λ entries. (λ is. absurd (both_answers (outcome places file) is (bad_outcome bad at)), λ accepted. absurd (made_not_bad entries bad accepted.made at));
      refused = λ other. (λ is. subst (Refused places file) (same_bad (outcome places file) (bad_outcome bad at) is) (inl at), again other);
    } where
      again : (other : Fault) → Refused places file other → outcome places file ≡ Err other
      again other (inl first) = bad_outcome other first
      again other (inr (inl missing)) = absurd (made_not_bad missing.entries bad missing.made at)
      again other (inr (inr implied)) = absurd (made_not_bad implied.entries bad implied.made at)

  -- a file without one, in which something is missing
  module _ (entries : List Entry) (made : MadeOf places file entries) where
    pub missing_outcome : Unready (reading_of entries) → outcome places file ≡ Err (fault Incomplete (length file))
    missing_outcome missing = made_outcome entries made ∙ cond-true _ _ _ (is_unready (reading_of entries) missing)

    module _ (missing : Unready (reading_of entries)) where
      pub missing_file : FileLaw places file
      missing_file = record {
        accepted = λ others. (
          λ is. absurd (both_answers (outcome places file) is (missing_outcome missing)),
          λ accepted. absurd (accepted.ready (subst (λ e. Unready (reading_of e)) (made_same entries others made accepted.made) missing)),
        );
        refused = λ bad. (λ is. inr (inl (why bad (same_bad (outcome places file) is (missing_outcome missing)))), again bad);
      } where
        why : (bad : Fault) → bad ≡ fault Incomplete (length file) → PartMissing places file bad
        why bad is = record { entries = entries; made = made; missing = missing; is = is }

        again : (bad : Fault) → Refused places file bad → outcome places file ≡ Err bad
        again bad (inl at) = absurd (made_not_bad entries bad made at)
        again bad (inr (inl part)) = missing_outcome missing ∙ ap Err (sym part.is)
        again bad (inr (inr implied)) = absurd (implied.ready (subst (λ e. Unready (reading_of e)) (made_same entries implied.entries made implied.made) missing))

  -- a file without one, whose edges tell when finishing is refused
  module _ (entries : List Entry) (made : MadeOf places file entries) (law : FinishLaw (reading_of entries).held) where
    whole : (Unready (reading_of entries) → ⊥) → lacking (reading_of entries).held ≡ false
    whole ready = or_from _ _ (ne_eqb _ 0 (λ none. ready (inl (inl none)))) (ne_eqb _ 0 (λ none. ready (inl (inr (nil_from_length _ none)))))

    accepted_here : Accepted places file entries → outcome places file ≡ Ok entries
    accepted_here accepted =
        let held = (reading_of entries).held in
        made_outcome entries made
        ∙ cond-false _ _ _ (is_ready (reading_of entries) accepted.ready)
        ∙ ap (λ first. unless_implied first entries)
        (none_first held (whole accepted.ready) (law.none.1 ((λ lacks. accepted.ready (inl lacks)), accepted.direct)))

    implied_here : (edge place : ℕ) (body : List ℕ) → (Unready (reading_of entries) → ⊥) → FirstImpliedBy (reading_of entries).held.edges edge
        → slice_get (of_kind 3 entries) edge ≡ Some (place, body) → outcome places file ≡ Err (fault ImpliedEdge place)
    implied_here edge place body ready first there =
        let held = (reading_of entries).held in
        made_outcome entries made
        ∙ cond-false _ _ _ (is_ready (reading_of entries) ready)
        ∙ ap (λ found. unless_implied found entries)
        (one_first held (whole ready) edge ((law.implied edge).1 ((λ lacks. ready (inl lacks)), first)))
        ∙ ap (λ found. Err (fault ImpliedEdge (begins found))) there

    pub accepted_outcome : (others : List Entry) → Accepted places file others → outcome places file ≡ Ok others
    accepted_outcome others accepted =
        let same = made_same others entries accepted.made made in
        accepted_here (subst (Accepted places file) same accepted) ∙ ap Ok (sym same)

    pub refused_outcome : (bad : Fault) → Refused places file bad → outcome places file ≡ Err bad
    refused_outcome bad (inl at) = absurd (made_not_bad entries bad made at)
    refused_outcome bad (inr (inl missing)) =
        missing_outcome entries made (subst (λ e. Unready (reading_of e)) (made_same missing.entries entries missing.made made) missing.missing) ∙ ap Err (sym missing.is)
    refused_outcome bad (inr (inr implied)) =
        let same = made_same implied.entries entries implied.made made in
        implied_here implied.edge bad.place implied.body
        (subst (λ e. Unready (reading_of e) → ⊥) same implied.ready)
        (subst (λ e. FirstImpliedBy (reading_of e).held.edges implied.edge) same implied.first)
        (subst (λ e. slice_get (of_kind 3 e) implied.edge ≡ Some (bad.place, implied.body)) same implied.there)
        ∙ ap (λ cause. Err (fault cause bad.place)) (sym implied.cause)

    pub accepted_file : Accepted places file entries → FileLaw places file
    accepted_file accepted = record {
      accepted = λ others. (λ is. subst (Accepted places file) (same_value (outcome places file) (accepted_here accepted) is) accepted, accepted_outcome others);
      refused = λ bad. (λ is. absurd (both_answers (outcome places file) (accepted_here accepted) is), refused_outcome bad);
    }

    pub refused_file : (bad : Fault) → Refused places file bad → FileLaw places file
    refused_file bad why = record {
      accepted = λ others. (λ is. absurd (both_answers (outcome places file) is (refused_outcome bad why)), accepted_outcome others);
      refused = λ other. (λ is. subst (Refused places file) (same_bad (outcome places file) (refused_outcome bad why) is) why, refused_outcome other);
    }
