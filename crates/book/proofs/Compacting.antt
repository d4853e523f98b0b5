-- A loop that goes through a list, and writes what it keeps of each element to the front.
use Rattle.std.proofs.Common.{◌≡◌, ℕ, ◌+◌, ◌<◌, ◌≤◌, List, [], ◌∷◌, ◌++◌, map, length, get_or, take, drop, set, sym, ap, ◌∙◌, arith}
use Rattle.std.specs.List.{flat_map}
use Rattle.std.proofs.lemmas.List.{append-nil, length-set, take_more_set, drop_more, drop-set-lt, map_more, map_push, flat_map_more}

-- ys began as xs. What f makes of the first i of xs stands in the first k places of ys, for each such f, and from i on ys
-- is as it was
pub record Compacting {X Y : Type 0} (v : X → Y) (Such : (Y → List Y) → Type 0) (xs ys : List X) (k i : ℕ) : Type 0 where
  pub front : (f : Y → List Y) → Such f → map v (take k ys) ≡ flat_map f (map v (take i xs))
  pub rest : drop i ys ≡ drop i xs
  pub behind : k ≤ i
  pub within : i ≤ length xs
  pub long : length ys ≡ length xs

-- ys is from i on as xs was
module _ {X Y : Type 0} (v : X → Y) (xs ys : List X) {i : ℕ} {x : X}
    (rest : drop i ys ≡ drop i xs) (long : length ys ≡ length xs) (lt : i < length ys) (is : x ≡ get_or ys i x) where
  both : x ∷ drop (i + 1) ys ≡ get_or xs i x ∷ drop (i + 1) xs
  both = ap (λ y. y ∷ drop (i + 1) ys) is ∙ sym (drop_more ys i x lt) ∙ rest ∙ drop_more xs i x (omega arith)

  pub rest_more : drop (i + 1) ys ≡ drop (i + 1) xs
  rest_more = ap (drop 1) both

  -- what f makes of one element more
  pub made_more : (f : Y → List Y) → flat_map f (map v (take (i + 1) xs)) ≡ flat_map f (map v (take i xs)) ++ f (v x)
  made_more f =
      let read : get_or xs i x ≡ x = sym (ap (λ l. get_or l 0 x) both) in
      ap (flat_map f) (map_more v xs i x (omega arith))
      ∙ sym (flat_map_more f [] (map v (take i xs)) (v (get_or xs i x)))
      ∙ ap (λ y. flat_map f (map v (take i xs)) ++ f (v y)) read

module _ {X Y : Type 0} {v : X → Y} {Such : (Y → List Y) → Type 0} {xs ys : List X} {k i : ℕ} {x : X}
    (h : Compacting v Such xs ys k i) (lt : i < length ys) (is : x ≡ get_or ys i x) where
  step : (f : Y → List Y) → Such f → flat_map f (map v (take (i + 1) xs)) ≡ map v (take k ys) ++ f (v x)
  step f s = made_more v xs ys h.rest h.long lt is f ∙ ap (λ l. l ++ f (v x)) (sym (h.front f s))

  -- nothing is made of the element
  pub compacting_drop : ((f : Y → List Y) → Such f → f (v x) ≡ []) → Compacting v Such xs ys k (i + 1)
  compacting_drop e = record {
    front = λ f s. sym (step f s ∙ ap (λ l. map v (take k ys) ++ l) (e f s) ∙ append-nil (map v (take k ys)));
    rest = rest_more v xs ys h.rest h.long lt is;
    behind = omega (arith, h.behind);
    within = omega (arith, h.long);
    long = h.long;
  }

  -- z is made of it
  pub compacting_keep : (z : X) → ((f : Y → List Y) → Such f → f (v x) ≡ v z ∷ []) → Compacting v Such xs (set ys k z) (k + 1) (i + 1)
  compacting_keep z e = record {
    front = λ f s. ap (map v) (take_more_set ys k z (omega (arith, h.behind))) ∙ map_push v (take k ys) z ∙ sym (step f s ∙ ap (λ l. map v (take k ys) ++ l) (e f s));
    rest = drop-set-lt (i + 1) ys k z (omega (arith, h.behind)) ∙ rest_more v xs ys h.rest h.long lt is;
    behind = omega (arith, h.behind);
    within = omega (arith, h.long);
    long = length-set ys k z ∙ h.long;
  }
