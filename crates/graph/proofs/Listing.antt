-- What stands in a list that is made of others, and how often.
use Rattle.std.proofs.Common.{◌≡◌, ℕ, zero, suc, ◌⊎◌, List, [], ◌∷◌, ◌++◌, map, get_or, replicate, sym, refl, ap, subst, inl, inr, ⊎_elim}
use Rattle.std.specs.List.{flat_map}
use Rattle.graph.specs.Paths.{Among, Distinct}

module _ {X : Type 0} where
  pub among_append : (x : X) (xs ys : List X) → Among x (xs ++ ys) → Among x xs ⊎ Among x ys
  among_append x [] ys there = inr there
  among_append x (y ∷ xs) ys (inl same) = inl (inl same)
  among_append x (y ∷ xs) ys (inr later) = ⊎_elim (λ left. inl (inr left)) (λ right. inr right) (among_append x xs ys later)

  pub append_among_left : (x : X) (xs ys : List X) → Among x xs → Among x (xs ++ ys)
  append_among_left x [] ys there = absurd there
  append_among_left x (y ∷ xs) ys (inl same) = inl same
  append_among_left x (y ∷ xs) ys (inr later) = inr (append_among_left x xs ys later)

  pub append_among_right : (x : X) (xs ys : List X) → Among x ys → Among x (xs ++ ys)
  append_among_right x [] ys there = there
  append_among_right x (y ∷ xs) ys there = inr (append_among_right x xs ys there)

  pub distinct_append : (xs ys : List X) → Distinct xs → Distinct ys → ((x : X) → Among x xs → Among x ys → ⊥) → Distinct (xs ++ ys)
  distinct_append [] ys one two apart = two
  distinct_append (x ∷ xs) ys one two apart = (
    λ again. ⊎_elim one.0 (apart x (inl refl)) (among_append x xs ys again),
    distinct_append xs ys one.1 two (λ y left right. apart y (inr left) right),
  )

module _ {X Y : Type 0} (f : X → Y) where
  pub among_map : (y : Y) (xs : List X) → Among y (map f xs) → (x : X) × (y ≡ f x) × Among x xs
  among_map y [] there = absurd there
  among_map y (x ∷ xs) (inl same) = (x, same, inl refl)
  among_map y (x ∷ xs) (inr later) = let found = among_map y xs later in (found.0, found.1, inr found.2)

  pub map_among : (x : X) (xs : List X) → Among x xs → Among (f x) (map f xs)
  map_among x [] there = absurd there
  map_among x (y ∷ xs) (inl same) = inl (ap f same)
  map_among x (y ∷ xs) (inr later) = inr (map_among x xs later)

  pub distinct_map : ((x y : X) → f x ≡ f y → x ≡ y) → (xs : List X) → Distinct xs → Distinct (map f xs)
  distinct_map apart [] one = tt
  distinct_map apart (x ∷ xs) one = (
    λ again. let found = among_map (f x) xs again in one.0 (subst (λ y. Among y xs) (sym (apart x found.0 found.1)) found.2),
    distinct_map apart xs one.1,
  )

module _ {X Y : Type 0} (f : X → List Y) where
  pub among_joined : (y : Y) (xs : List X) → Among y (flat_map f xs) → (x : X) × Among x xs × Among y (f x)
  among_joined y [] there = absurd there
  among_joined y (x ∷ xs) there =
      ⊎_elim
      (λ here. (x, inl refl, here))
      (λ later. let found = among_joined y xs later in (found.0, inr found.1, found.2))
      (among_append y (f x) (flat_map f xs) there)

  pub joined_among : (y : Y) (x : X) (xs : List X) → Among x xs → Among y (f x) → Among y (flat_map f xs)
  joined_among y x [] there here = absurd there
  joined_among y x (z ∷ xs) (inl same) here = append_among_left y (f z) (flat_map f xs) (subst (λ w. Among y (f w)) same here)
  joined_among y x (z ∷ xs) (inr later) here = append_among_right y (f z) (flat_map f xs) (joined_among y x xs later here)

  -- lists that have nothing in common and nothing twice
  pub distinct_joined : (xs : List X) → Distinct xs → ((x : X) → Among x xs → Distinct (f x)) → ((x z : X) (y : Y) → Among x xs → Among z xs → Among y (f x) → Among y (f z) → x ≡ z) → Distinct (flat_map f xs)
  distinct_joined [] one each apart = tt
  distinct_joined (x ∷ xs) one each apart =
      distinct_append (f x) (flat_map f xs) (each x (inl refl))
      (distinct_joined xs one.1 (λ z there. each z (inr there)) (λ w z y left right. apart w z y (inr left) (inr right)))
      (λ y here later.
      let found = among_joined y xs later in
      one.0 (subst (λ z. Among z xs) (sym (apart x found.0 y (inl refl) (inr found.1) here found.2)) found.1))

-- a list of one value has it everywhere
pub everywhere : {X : Type 0} (n i : ℕ) (x d : X) → x ≡ d → get_or (replicate n x) i d ≡ d
everywhere zero i x d same = refl
everywhere (suc n) zero x d same = same
everywhere (suc n) (suc i) x d same = everywhere n i x d same
