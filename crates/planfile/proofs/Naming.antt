-- The labels of steps among the records of a file.
use Rattle.std.proofs.Common.{All, ◌≡◌, ℕ, zero, suc, ◌+◌, ◌<◌, ◌≤◌, false, ◌⊎◌, List, [], ◌∷◌, ◌++◌, map, length, take, drop, is_some, Some, None, Ok, Err, Option, Result, sym, refl, ap, ◌∙◌, subst, ap₂, inl, inr, ⊎_elim, arith}
use Rattle.std.specs.Option.{option_map}
use Rattle.std.specs.List.{slice_get}
use Rattle.std.specs.Result.{result_ok}
use Rattle.std.proofs.lemmas.List.Elements.{All-nil, All-cons, All-append, All-push}
use Rattle.std.proofs.lemmas.Option.{slice_get_cases}
use Rattle.std.proofs.lemmas.List.{append-nil, append_assoc, length-append, map-append, take_at, drop_at, drop-drop}
use Rattle.std.proofs.lemmas.Bool.{both_ways}
use Rattle.planfile.specs.Cutting.{Found}
use Rattle.planfile.specs.Files.{FileLaw, answer_to, of_kind, outcome}
use Rattle.planfile.specs.Labels.{LabelLaw, LabelOf, label_in, labels_in, label_by, label_of}
use Rattle.planfile.specs.Records.{Entry, deadline, step, edge, block, hold_back, late, kind_of, body_of, two, encoded, file_of}
use Rattle.planfile.specs.Rules.{reading_of}
use Rattle.planfile.specs.declared.cause.Fault.{Fault}
use Rattle.planfile.specs.declared.layers.Layers.{Layers}
use Rattle.planfile.specs.declared.record.Record.{Record}
use Rattle.planfile.proofs.Lookups.{file_append, nth_here}

-- a label in its record: behind the header and the time
abbrev pub behind_time : ℕ × List ℕ → ℕ × List ℕ
behind_time (place, body) = (place + 6, drop 2 body)

labels_by_kind : (entries : List Entry) → labels_in entries ≡ map behind_time (of_kind 2 entries)
labels_by_kind [] = refl
labels_by_kind (deadline ticks ∷ earlier) = append-nil _ ∙ labels_by_kind earlier
labels_by_kind (step time label ∷ earlier) =
    ap (λ l. l ++ ((length (file_of earlier) + 6, label) ∷ [])) (labels_by_kind earlier)
    ∙ sym (map-append behind_time (of_kind 2 earlier) ((length (file_of earlier), two time ++ label) ∷ []))
labels_by_kind (edge from to ∷ earlier) = append-nil _ ∙ labels_by_kind earlier
labels_by_kind (block cores ticks ∷ earlier) = append-nil _ ∙ labels_by_kind earlier
labels_by_kind (hold_back cores from until ∷ earlier) = append-nil _ ∙ labels_by_kind earlier
labels_by_kind (late ticks ∷ earlier) = append-nil _ ∙ labels_by_kind earlier

nth_map : {X Y : Type 0} (f : X → Y) (xs : List X) (n : ℕ) → slice_get (map f xs) n ≡ option_map f (slice_get xs n)
nth_map f [] n = refl
nth_map f (x ∷ xs) zero = refl
nth_map f (x ∷ xs) (suc n) = nth_map f xs n

-- what holds of each element holds of the one at a place
all_nth : {X : Type 0} (P : X → Type 0) (xs : List X) (n : ℕ) (x : X) → All P xs → slice_get xs n ≡ Some x → P x
all_nth P xs n x all is =
    ⊎_elim (λ there. subst P (cc (there.3, there.2, is)) (all n there.0 there.1)) (λ past. absurd (cc (past.1, is))) (slice_get_cases xs n).1

-- a step's body has its time
timed : (entries : List Entry) → All (λ found. 2 ≤ length found.1) (of_kind 2 entries)
timed [] = All-nil _
timed (deadline ticks ∷ earlier) = timed earlier
timed (step time label ∷ earlier) = All-push (λ found. 2 ≤ length found.1) (of_kind 2 earlier) (length (file_of earlier), two time ++ label) (timed earlier) (omega arith)
timed (edge from to ∷ earlier) = timed earlier
timed (block cores ticks ∷ earlier) = timed earlier
timed (hold_back cores from until ∷ earlier) = timed earlier
timed (late ticks ∷ earlier) = timed earlier

-- each label stands in the file at its place, whatever comes behind
abbrev Stands : List ℕ → ℕ × List ℕ → Type 0
Stands file (place, label) = take (length label) (drop place file) ≡ label

-- behind what was read before
abbrev StandsIn : List Entry → List ℕ → Entry → ℕ × List ℕ → Type 0
StandsIn earlier more one = Stands (file_of earlier ++ (encoded (kind_of one) (body_of one) ++ more))

stand : (entries : List Entry) (more : List ℕ) → All (Stands (file_of entries ++ more)) (labels_in entries)
stand [] more = All-nil _
stand (entry ∷ earlier) more =
    let record_bytes = encoded (kind_of entry) (body_of entry) in
    subst (λ file. All (Stands file) (labels_in (entry ∷ earlier))) (sym (append_assoc (file_of earlier) record_bytes more))
    (All-append (StandsIn earlier more entry) (labels_in earlier) (label_in (length (file_of earlier)) entry) (stand earlier (record_bytes ++ more)) (here entry)) where
      here : (one : Entry) → All (StandsIn earlier more one) (label_in (length (file_of earlier)) one)
      here (deadline ticks) = All-nil (StandsIn earlier more (deadline ticks))
      here (step time label) =
          let bytes = encoded 2 (two time ++ label) ++ more in
          let reached : drop (length (file_of earlier) + 6) (file_of earlier ++ bytes) ≡ label ++ more =
          sym (drop-drop 6 (length (file_of earlier)) (file_of earlier ++ bytes)) ∙ ap (drop 6) (drop_at (file_of earlier) bytes (length (file_of earlier)) refl) in
          All-cons (StandsIn earlier more (step time label)) (length (file_of earlier) + 6, label) [] (ap (take (length label)) reached ∙ take_at label more (length label) refl) (All-nil (StandsIn earlier more (step time label)))
      here (edge from to) = All-nil (StandsIn earlier more (edge from to))
      here (block cores ticks) = All-nil (StandsIn earlier more (block cores ticks))
      here (hold_back cores from until) = All-nil (StandsIn earlier more (hold_back cores from until))
      here (late ticks) = All-nil (StandsIn earlier more (late ticks))

module _ (file : List ℕ) (number : ℕ) where
  -- by what became of the file
  module _ (entries : List Entry) (is : outcome 64 file ≡ Ok entries) where
    label_found : label_of file number ≡ option_map behind_time (slice_get (of_kind 2 entries) number)
    unfolding label_of
    label_found = ap (λ o. label_by o number) is ∙ ap (λ l. slice_get l number) (labels_by_kind entries) ∙ nth_map behind_time (of_kind 2 entries) number

    long_enough : (place : ℕ) (body : List ℕ) → slice_get (of_kind 2 entries) number ≡ Some (place, body) → 2 ≤ length body
    long_enough place body found = all_nth (λ f. 2 ≤ length f.1) (of_kind 2 entries) number (place, body) (timed entries) found

-- there are as many labels as steps
labels_count : (entries : List Entry) → length (labels_in entries) ≡ length (reading_of entries).held.times
labels_count [] = refl
labels_count (deadline ticks ∷ earlier) = ap length (append-nil (labels_in earlier)) ∙ labels_count earlier
labels_count (step time label ∷ earlier) =
    omega (
      arith,
      labels_count earlier,
      length-append (labels_in earlier) ((length (file_of earlier) + 6, label) ∷ []),
      length-append (reading_of earlier).held.times (time ∷ []),
    )
labels_count (edge from to ∷ earlier) = ap length (append-nil (labels_in earlier)) ∙ labels_count earlier
labels_count (block cores ticks ∷ earlier) = ap length (append-nil (labels_in earlier)) ∙ labels_count earlier
labels_count (hold_back cores from until ∷ earlier) = ap length (append-nil (labels_in earlier)) ∙ labels_count earlier
labels_count (late ticks ∷ earlier) = ap length (append-nil (labels_in earlier)) ∙ labels_count earlier

-- the record that a label stands in
pub record Labelled (entries : List Entry) (number place : ℕ) (label : List ℕ) : Type 0 where
  pub later : List Entry
  pub time : ℕ
  pub earlier : List Entry
  pub parts : entries ≡ later ++ (step time label ∷ earlier)
  pub numbered : length (reading_of earlier).held.times ≡ number
  pub begins : place ≡ length (file_of earlier) + 6

nth_append : {X : Type 0} (xs : List X) (y : X) (n : ℕ) (x : X) → slice_get (xs ++ (y ∷ [])) n ≡ Some x → (slice_get xs n ≡ Some x) ⊎ ((n ≡ length xs) × (y ≡ x))
nth_append [] y zero x is = inr (refl, cc is)
nth_append [] y (suc n) x is = absurd (cc)
nth_append (z ∷ xs) y zero x is = inl is
nth_append (z ∷ xs) y (suc n) x is = ⊎_elim inl (λ last. inr (ap suc last.0, last.1)) (nth_append xs y n x is)

found_in : (entries : List Entry) (number place : ℕ) (label : List ℕ) → slice_get (labels_in entries) number ≡ Some (place, label) → Labelled entries number place label
found_in [] number place label is = absurd (cc)
found_in (entry ∷ earlier) number place label is = by entry is (found_in earlier number place label) where
  further : (one : Entry) → Labelled earlier number place label → Labelled (one ∷ earlier) number place label
  further one found = record {
    later = one ∷ found.later;
    time = found.time;
    earlier = found.earlier;
    parts = ap (λ l. one ∷ l) found.parts;
    numbered = found.numbered;
    begins = found.begins;
  }

  passed : (one : Entry) → slice_get (labels_in earlier ++ []) number ≡ Some (place, label) → (slice_get (labels_in earlier) number ≡ Some (place, label) → Labelled earlier number place label) → Labelled (one ∷ earlier) number place label
  passed one there rest = further one (rest (ap (λ l. slice_get l number) (sym (append-nil (labels_in earlier))) ∙ there))

  by : (one : Entry) → slice_get (labels_in (one ∷ earlier)) number ≡ Some (place, label) → (slice_get (labels_in earlier) number ≡ Some (place, label) → Labelled earlier number place label) → Labelled (one ∷ earlier) number place label
  by (deadline ticks) there rest = passed (deadline ticks) there rest
  by (step time word) there rest =
      ⊎_elim
      (λ before. further (step time word) (rest before))
      (λ last. record {
        later = [];
        time = time;
        earlier = earlier;
        parts = ap (λ l. step time l ∷ earlier) (ap (λ (f : ℕ × List ℕ). f.1) last.1);
        numbered = sym (labels_count earlier) ∙ sym last.0;
        begins = sym (ap (λ (f : ℕ × List ℕ). f.0) last.1);
      })
      (nth_append (labels_in earlier) (length (file_of earlier) + 6, word) number (place, label) there)
  by (edge from to) there rest = passed (edge from to) there rest
  by (block cores ticks) there rest = passed (block cores ticks) there rest
  by (hold_back cores from until) there rest = passed (hold_back cores from until) there rest
  by (late ticks) there rest = passed (late ticks) there rest

-- and back: more labels come behind
more_labels : (later earlier : List Entry) → (more : List (ℕ × List ℕ)) × (labels_in (later ++ earlier) ≡ labels_in earlier ++ more)
more_labels [] earlier = ([], sym (append-nil (labels_in earlier)))
more_labels (entry ∷ later) earlier =
    let rest = more_labels later earlier in
    let here = label_in (length (file_of (later ++ earlier))) entry in
    (rest.0 ++ here, ap (λ l. l ++ here) rest.1 ∙ append_assoc (labels_in earlier) rest.0 here)

in_found : (entries : List Entry) (number place : ℕ) (label : List ℕ) → Labelled entries number place label → slice_get (labels_in entries) number ≡ Some (place, label)
in_found entries number place label found =
    let more = more_labels found.later (step found.time label ∷ found.earlier) in
    let at : number ≡ length (labels_in found.earlier) = omega (arith, found.numbered, labels_count found.earlier) in
    ap₂ slice_get (ap labels_in found.parts ∙ more.1) at
    ∙ nth_here (labels_in found.earlier) (length (file_of found.earlier) + 6, label) more.0
    ∙ ap (λ p. Some (p, label)) (sym found.begins)

-- a label is within the file
within_file : (entries : List Entry) (number place : ℕ) (label : List ℕ) → Labelled entries number place label → place + length label ≤ length (file_of entries)
within_file entries number place label found =
    omega (
      arith,
      found.begins,
      ap (λ e. length (file_of e)) found.parts,
      ap length (file_append found.later (step found.time label ∷ found.earlier)),
      length-append (file_of found.earlier ++ encoded 2 (two found.time ++ label)) (file_of found.later),
      length-append (file_of found.earlier) (encoded 2 (two found.time ++ label)),
    )

module _ (file : List ℕ) (number : ℕ) (law : FileLaw 64 file) where
  -- by what became of the file
  pub label_law : LabelLaw file number
  unfolding label_of
  label_law place label = (from (outcome 64 file) refl, back) where
    from : (o : Result (List Entry) Fault) → outcome 64 file ≡ o → label_by (outcome 64 file) number ≡ Some (place, label) → LabelOf file number place label
    from (Err bad) is found = absurd (both_ways false refl (ap is_some (sym (ap (λ o. label_by o number) is) ∙ found)))
    from (Ok entries) is found =
        let listed : slice_get (labels_in entries) number ≡ Some (place, label) = sym (ap (λ o. label_by o number) is) ∙ found in
        let accepted = (law.accepted entries).0 is in
        let stands = all_nth (Stands (file_of entries ++ [])) (labels_in entries) number (place, label) (stand entries []) listed in
        let at = found_in entries number place label listed in
        let bytes = accepted.made.bytes in
        record {
          entries = entries;
          accepted = accepted;
          later = at.later;
          time = at.time;
          earlier = at.earlier;
          parts = at.parts;
          numbered = at.numbered;
          begins = at.begins;
          within = omega (arith, ap length bytes, within_file entries number place label at);
          bytes = ap (λ f. take (length label) (drop place f)) (bytes ∙ sym (append-nil (file_of entries))) ∙ stands;
        }

    back : LabelOf file number place label → label_by (outcome 64 file) number ≡ Some (place, label)
    back found =
        ap (λ o. label_by o number) ((law.accepted found.entries).1 found.accepted)
        ∙ in_found found.entries number place label (record {
          later = found.later;
          time = found.time;
          earlier = found.earlier;
          parts = found.parts;
          numbered = found.numbered;
          begins = found.begins;
        })

-- what a file has as a step's label, by what the reader answers and the step's record that was found
module _ (file : List ℕ) (number : ℕ) (law : FileLaw 64 file) (answer : Result Layers Fault) (is : answer ≡ answer_to (outcome 64 file)) where
  pub none_refused : result_ok answer ≡ None → label_of file number ≡ None
  unfolding label_of
  none_refused none = by (outcome 64 file) is where
    by : (o : Result (List Entry) Fault) → answer ≡ answer_to o → label_by o number ≡ None
    by (Ok entries) taken = absurd (cc (sym none ∙ ap result_ok taken))
    by (Err bad) taken = refl

  module _ (layers : Layers) (some : result_ok answer ≡ Some layers) (found : Option Record)
      (stands : (entries : List Entry) → file ≡ file_of entries → Found (slice_get (of_kind 2 entries) number) found) where
    accepted : (entries : List Entry) × (outcome 64 file ≡ Ok entries)
    accepted = by (outcome 64 file) refl where
      by : (o : Result (List Entry) Fault) → outcome 64 file ≡ o → (entries : List Entry) × (outcome 64 file ≡ Ok entries)
      by (Ok entries) taken = (entries, taken)
      by (Err bad) taken = absurd (cc (sym some ∙ ap result_ok (is ∙ ap answer_to taken)))

    found_here : Found (slice_get (of_kind 2 accepted.0) number) found
    found_here = stands accepted.0 ((law.accepted accepted.0).0 accepted.1).made.bytes

    pub none_found : found ≡ None → label_of file number ≡ None
    none_found none = label_found file number accepted.0 accepted.1 ∙ ap (option_map behind_time) (subst (Found (slice_get (of_kind 2 accepted.0) number)) none found_here)

    module _ (named : Record) (one : found ≡ Some named) where
      there : slice_get (of_kind 2 accepted.0) number ≡ Some (named.place, named.body.now)
      there = subst (Found (slice_get (of_kind 2 accepted.0) number)) one found_here

      pub label_here : label_of file number ≡ Some (named.place + 6, drop 2 named.body.now)
      label_here = label_found file number accepted.0 accepted.1 ∙ ap (option_map behind_time) there

      pub never_short : length named.body.now < 2 → ⊥
      never_short short = omega (arith, short, long_enough file number accepted.0 accepted.1 named.place named.body.now there)
