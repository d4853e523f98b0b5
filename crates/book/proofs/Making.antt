-- How many are made, where none or one is made of each element.
use Rattle.std.proofs.Common.{◌≡◌, ◌≤◌, Bool, cond, List, [], ◌∷◌, map, length, filter, sym, ap, ◌∙◌, arith}
use Rattle.std.specs.List.{flat_map, sum_by}
use Rattle.std.proofs.lemmas.List.{length-append}
use Rattle.std.proofs.lemmas.List.Concat.{length-flat_map}
use Rattle.std.proofs.lemmas.List.Folds.{flat_map-map}
use Rattle.std.proofs.lemmas.List.Sums.{length-filter}

module _ {X Y : Type 0} (v : X → Y) (f : Y → List Y) (one : Y → Bool) (is : (y : Y) → length (f y) ≡ cond (one y) 1 0) where
  pub made_count : (xs : List X) → length (filter (λ x. one (v x)) xs) ≡ length (flat_map f (map v xs))
  made_count xs =
      length-filter (λ x. one (v x)) xs
      ∙ (λ t. sum_by (λ x. sym (is (v x)) t) xs)
      ∙ sym (length-flat_map (λ x. f (v x)) xs)
      ∙ ap length (sym (flat_map-map f v xs))

pub made_fewer : {X Y : Type 0} (f : X → List Y) (few : (x : X) → length (f x) ≤ 1) (xs : List X) → length (flat_map f xs) ≤ length xs
made_fewer f few [] = omega arith
made_fewer f few (x ∷ xs) = omega (arith, length-append (f x) (flat_map f xs), few x, made_fewer f few xs)
