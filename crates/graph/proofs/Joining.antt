-- Joins of many values.
use Rattle.std.proofs.Common.{◌≡◌, ℕ, List, [], ◌∷◌, ◌++◌, map, Some, None, Option, sym, refl, ap, ◌∙◌}
use Rattle.std.specs.Option.{option_map}
use Rattle.graph.specs.Walks.{plus, join_all}

module _ {V : Type 0} (join : V → V → V) (groups : (a b c : V) → join (join a b) c ≡ join a (join b c)) where
  pub plus_none : (a : Option V) → plus join a None ≡ a
  plus_none None = refl
  plus_none (Some a) = refl

  pub plus_groups : (a b c : Option V) → plus join (plus join a b) c ≡ plus join a (plus join b c)
  plus_groups None b c = refl
  plus_groups (Some a) None c = refl
  plus_groups (Some a) (Some b) None = refl
  plus_groups (Some a) (Some b) (Some c) = ap Some (groups a b c)

  pub join_append : (xs ys : List V) → join_all join (xs ++ ys) ≡ plus join (join_all join xs) (join_all join ys)
  join_append [] ys = refl
  join_append (x ∷ xs) ys = ap (plus join (Some x)) (join_append xs ys) ∙ sym (plus_groups (Some x) (join_all join xs) (join_all join ys))

  -- one value more, taken from the front of those that are left
  pub plus_more : (value : ℕ → V) (sum more all : Option V) (step : ℕ) (steps left : List ℕ) → left ≡ step ∷ steps → more ≡ plus join sum (Some (value step)) → plus join sum (join_all join (map value left)) ≡ all → plus join more (join_all join (map value steps)) ≡ all
  plus_more value sum more all step steps left is next so_far =
      ap (λ taken. plus join taken (join_all join (map value steps))) next
      ∙ plus_groups sum (Some (value step)) (join_all join (map value steps))
      ∙ ap (λ rest. plus join sum (join_all join (map value rest))) (sym is)
      ∙ so_far

module _ {V : Type 0} (join : V → V → V) (f : V → V) (spreads : (a b : V) → f (join a b) ≡ join (f a) (f b)) where
  plus_mapped : (a b : Option V) → option_map f (plus join a b) ≡ plus join (option_map f a) (option_map f b)
  plus_mapped None b = refl
  plus_mapped (Some a) None = refl
  plus_mapped (Some a) (Some b) = ap Some (spreads a b)

  -- what spreads over the join of two spreads over the join of many
  pub join_map : (xs : List V) → join_all join (map f xs) ≡ option_map f (join_all join xs)
  join_map [] = refl
  join_map (x ∷ xs) = ap (plus join (Some (f x))) (join_map xs) ∙ sym (plus_mapped (Some x) (join_all join xs))
