-- A loop that changes each element of a list where it stands, and may write one more into the room behind.
use Rattle.std.proofs.Common.{◌≡◌, ℕ, ◌+◌, ◌<◌, ◌≤◌, max, List, [], ◌∷◌, ◌++◌, map, length, get_or, take, drop, set, sym, refl, ap, ◌∙◌, append-nil, arith}
use Rattle.std.proofs.Math.Seq.{take-append-add, drop-append-add}
use Rattle.std.specs.List.{flat_map}
use Rattle.std.proofs.lemmas.List.{length-append, length-map, length-set, length-take-le, take-append-drop, take_more_set, take_all, map_push, map-append, drop-set-lt}
use Rattle.std.proofs.lemmas.List.Concat.{flat_map-append, flat_map_single}
use Rattle.book.proofs.Dropping.{drop_further}
use Rattle.book.proofs.Compacting.{Compacting, compacting_keep, made_more}

-- xs' began as xs, and the first i of it are changed by s. What e makes of them stands in the first k places of ys', which
-- is ys beyond
pub record Splitting {X Y : Type 0} (v : X → Y) (s : Y → Y) (e : Y → List Y) (xs xs' ys ys' : List X) (k i : ℕ) : Type 0 where
  pub stay : Compacting v (λ f. f ≡ (λ y. s y ∷ [])) xs xs' i i
  pub added : map v (take k ys') ≡ flat_map e (map v (take i xs))
  pub within : k ≤ length ys'
  pub room : length (flat_map e (map v xs)) ≤ length ys'
  pub beyond : drop k ys' ≡ drop k ys

module _ {X Y : Type 0} {v : X → Y} {s : Y → Y} {e : Y → List Y} {xs xs' ys ys' : List X} {k i : ℕ} where
  pub splitting_all : Splitting v s e xs xs' ys ys' k i → length xs ≤ i
      → (map v xs' ≡ map s (map v xs)) × (map v (take k ys') ≡ flat_map e (map v xs))
  splitting_all h le =
      let all = take_all i xs le in (
        ap (map v) (sym (take_all i xs' (omega (arith, h.stay.long)))) ∙ h.stay.front _ refl ∙ ap (λ l. flat_map (λ y. s y ∷ []) (map v l)) all ∙ flat_map_single s (map v xs),
        h.added ∙ ap (λ l. flat_map e (map v l)) all,
      )

module _ {X Y : Type 0} {v : X → Y} {s : Y → Y} {e : Y → List Y} {xs xs' ys ys' : List X} {k i : ℕ}
    (h : Splitting v s e xs xs' ys ys' k i) (lt : i < length xs') {x : X} (is : x ≡ get_or xs' i x) where
  more : flat_map e (map v (take (i + 1) xs)) ≡ map v (take k ys') ++ e (v x)
  more = made_more v xs xs' h.stay.rest h.stay.long lt is e ∙ ap (λ l. l ++ e (v x)) (sym h.added)

  -- there is room for what is added
  pub splitting_room : (z : Y) → e (v x) ≡ z ∷ [] → k < length ys'
  splitting_room z adds =
      let n = i + 1 in
      let parts : map v xs ≡ map v (take n xs) ++ map v (drop n xs) = ap (map v) (sym (take-append-drop n xs)) ∙ map-append v (take n xs) (drop n xs) in
      let whole : flat_map e (map v xs) ≡ flat_map e (map v (take n xs)) ++ flat_map e (map v (drop n xs)) = ap (flat_map e) parts ∙ flat_map-append e (map v (take n xs)) (map v (drop n xs)) in
      omega (
        arith,
        ap length whole,
        length-append (flat_map e (map v (take n xs))) (flat_map e (map v (drop n xs))),
        ap length (more ∙ ap (λ l. map v (take k ys') ++ l) adds),
        length-append (map v (take k ys')) (z ∷ []),
        length-map (take k ys') v,
        length-take-le k ys' h.within,
        h.room,
        h.within,
      )

  module _ (z : X) (stays : v z ≡ s (v x)) where
    pub splitting_none : e (v x) ≡ [] → Splitting v s e xs (set xs' i z) ys ys' k (i + 1)
    splitting_none adds = record {
      stay = compacting_keep h.stay lt is z (λ f e. ap (λ f. f (v x)) e ∙ ap (λ y. y ∷ []) (sym stays));
      added = sym (more ∙ ap (λ l. map v (take k ys') ++ l) adds ∙ append-nil (map v (take k ys')));
      within = h.within;
      room = h.room;
      beyond = h.beyond;
    }

    pub splitting_one : (w : X) → e (v x) ≡ v w ∷ [] → Splitting v s e xs (set xs' i z) ys (set ys' k w) (k + 1) (i + 1)
    splitting_one w adds =
        let room = splitting_room (v w) adds in
        record {
          stay = compacting_keep h.stay lt is z (λ f e. ap (λ f. f (v x)) e ∙ ap (λ y. y ∷ []) (sym stays));
          added = ap (map v) (take_more_set ys' k w room) ∙ map_push v (take k ys') w ∙ sym (more ∙ ap (λ l. map v (take k ys') ++ l) adds);
          within = omega (arith, length-set ys' k w);
          room = omega (arith, length-set ys' k w, h.room);
          beyond = drop-set-lt (k + 1) ys' k w (omega arith) ∙ drop_further k (k + 1) ys' ys (omega arith) h.beyond;
        }

-- a list that is put together of a part of n elements and the rest, k places into the rest
module _ {X : Type 0} (xs ys : List X) (n k : ℕ) (long : length xs ≡ n) where
  pub take_past : take (n + k) (xs ++ ys) ≡ xs ++ take k ys
  take_past = ap (λ n. take (n + k) (xs ++ ys)) (sym long) ∙ take-append-add xs ys k

  pub drop_past : drop (max n (n + k)) (xs ++ ys) ≡ drop k ys
  drop_past =
      let at : max n (n + k) ≡ length xs + k = omega arith in
      ap (λ n. drop n (xs ++ ys)) at ∙ drop-append-add xs ys k
