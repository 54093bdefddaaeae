-- What becomes of a file whose records are good.
use Rattle.std.proofs.Common.{◌≡◌, ℕ, ◌<◌, Bool, true, false, List, [], ◌∷◌, length, get_or, take, Some, None, Ok, Err, Option, sym, refl, ap, ◌∙◌, subst, inl, inr, ⊎_elim, arith}
use Rattle.std.specs.Option.{option_map}
use Rattle.std.specs.List.{slice_get}
use Rattle.std.proofs.lemmas.List.{length-append, length-take-le, nil_from_length}
use Rattle.std.proofs.lemmas.Option.{slice_get_cases}
use Rattle.std.proofs.lemmas.Bool.{cond-false, eqb-true, or_cases}
use Rattle.graph.specs.Drafts.{Content, Lacks, FinishLaw, finish_refusal, lacking, content}
use Rattle.graph.specs.Implied.{FirstImpliedBy, NoneImpliedBy, first_implied}
use Rattle.graph.specs.declared.refusal.Refusal.{Refusal}
use Rattle.graph.specs.declared.refusal.Refusal.TheVariants as refusal
use Rattle.planfile.specs.Cutting.{ReadTo}
use Rattle.planfile.specs.Files.{fault, of_kind, outcome, MadeOf, Unready, Accepted, Refused, FileLaw}
use Rattle.planfile.specs.Records.{Entry, deadline, step, edge, block, hold_back, late, file_of}
use Rattle.planfile.specs.Rules.{reading_of}
use Rattle.planfile.specs.declared.cause.Cause.TheVariants.{Incomplete, ImpliedEdge}
use Rattle.planfile.specs.declared.reader.Reader.{Reader}
use Rattle.planfile.proofs.Outcomes.{accepted_outcome, accepted_file, refused_outcome, refused_file, missing_file, missing_outcome}

-- there are as many edges as records of their kind
pub edges_count : (entries : List Entry) → length (of_kind 3 entries) ≡ length (reading_of entries).held.edges
edges_count [] = refl
edges_count (deadline ticks ∷ earlier) = edges_count earlier
edges_count (step time label ∷ earlier) = edges_count earlier
edges_count (edge from to ∷ earlier) =
    omega (
      arith,
      edges_count earlier,
      length-append (of_kind 3 earlier) ((length (file_of earlier), from ∷ (to ∷ [])) ∷ []),
      length-append (reading_of earlier).held.edges (record { from = from; to = to } ∷ []),
    )
edges_count (block cores ticks ∷ earlier) = edges_count earlier
edges_count (hold_back cores from until ∷ earlier) = edges_count earlier
edges_count (late ticks ∷ earlier) = edges_count earlier

nth_there : {X : Type 0} (xs : List X) (n : ℕ) → n < length xs → slice_get xs n ≡ None → ⊥
nth_there xs n under none = ⊎_elim (λ there. cc (there.2, none)) (λ past. omega (arith, past.0, under)) (slice_get_cases xs n).1

-- finishing is refused for an edge or for what is missing
pub lacks : (held : Content) (why : Refusal) → finish_refusal held ≡ Some why → ((i : ℕ) → why ≡ refusal.ImpliedEdge i → ⊥) → Lacks held
lacks held why is other = by (lacking held) refl where
  from_edges : (first : Option ℕ) → option_map (λ i. refusal.ImpliedEdge i) first ≡ Some why → ⊥
  from_edges None none = cc
  from_edges (Some i) same = other i (cc)

  by : (missing : Bool) → lacking held ≡ missing → Lacks held
  by true missing =
      ⊎_elim (λ none. inl (eqb-true _ 0 none)) (λ none. inr (nil_from_length _ (eqb-true _ 0 none))) (or_cases _ _ missing)
  by false missing = absurd (from_edges (first_implied held.edges) (sym (cond-false _ _ _ missing) ∙ is))

module _ (places : ℕ) (file : List ℕ) (small : (i : ℕ) → get_or file i 0 < 256) (entries : List Entry) (reader : Reader)
    (bytes : file ≡ file_of entries) (read : ReadTo places entries reader) where
  made : MadeOf places file entries
  made = record { bytes = bytes; kept = read.kept }

  pub held_is : content reader.draft ≡ (reading_of entries).held
  held_is = ap (λ r. r.held) read.reading

  -- a list with no place filled has no block, and another has one
  no_blocks : reader.filled ≡ 0 → (reading_of entries).blocks ≡ []
  no_blocks none = sym (ap (λ r. r.blocks) read.reading) ∙ ap (λ n. take n reader.blocks.now) none

  some_blocks : (reader.filled ≡ 0 → ⊥) → (reading_of entries).blocks ≡ [] → ⊥
  some_blocks some none =
      some (omega (arith, length-take-le reader.filled reader.blocks.now reader.few, ap length (ap (λ r. r.blocks) read.reading ∙ none)))

  pub without_blocks : reader.filled ≡ 0 → (outcome places file ≡ Err (fault Incomplete (length file))) × FileLaw places file
  without_blocks none = let missing = inr (no_blocks none) in (missing_outcome places file small entries made missing, missing_file places file small entries made missing)

  module _ (some : reader.filled ≡ 0 → ⊥) (law : FinishLaw (content reader.draft)) where
    law_here : FinishLaw (reading_of entries).held
    law_here = subst FinishLaw held_is law

    pub lacking_part : Lacks (content reader.draft) → (outcome places file ≡ Err (fault Incomplete (length file))) × FileLaw places file
    lacking_part part = let missing = inl (subst Lacks held_is part) in (missing_outcome places file small entries made missing, missing_file places file small entries made missing)

    ready : (Lacks (content reader.draft) → ⊥) → Unready (reading_of entries) → ⊥
    ready whole missing = ⊎_elim (λ part. whole (subst Lacks (sym held_is) part)) (some_blocks some) missing

    pub all_good : finish_refusal (content reader.draft) ≡ None → (outcome places file ≡ Ok entries) × FileLaw places file
    all_good none =
        let told = law.none.0 none in
        let accepted : Accepted places file entries = record { made = made; ready = ready told.0; direct = subst (λ h. NoneImpliedBy h.edges) held_is told.1 } in
        (accepted_outcome places file small entries made law_here entries accepted, accepted_file places file small entries made law_here accepted)

    module _ (i : ℕ) (is : finish_refusal (content reader.draft) ≡ Some (refusal.ImpliedEdge i)) where
      first : FirstImpliedBy (reading_of entries).held.edges i
      first = subst (λ h. FirstImpliedBy h.edges i) held_is ((law.implied i).0 is).1

      pub implied_at : (place : ℕ) (body : List ℕ) → slice_get (of_kind 3 entries) i ≡ Some (place, body) → (outcome places file ≡ Err (fault ImpliedEdge place)) × FileLaw places file
      implied_at place body there =
          let why : Refused places file (fault ImpliedEdge place) =
          inr (inr (record { entries = entries; made = made; ready = ready ((law.implied i).0 is).0; edge = i; first = first; body = body; there = there; cause = refl })) in
          (refused_outcome places file small entries made law_here (fault ImpliedEdge place) why, refused_file places file small entries made law_here (fault ImpliedEdge place) why)

      pub never_lost : slice_get (of_kind 3 entries) i ≡ None → ⊥
      never_lost none = nth_there (of_kind 3 entries) i (omega (arith, first.0, edges_count entries)) none
