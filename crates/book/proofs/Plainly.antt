-- An update leaves what it leaves line by line, in another order.
use Rattle.std.proofs.Common.{◌≡◌, true, false, cond, List, [], ◌∷◌, ◌++◌, map, sym, refl, subst, inl, inr, arith}
use Rattle.std.specs.List.{flat_map, AllByRecursion}
use Rattle.std.specs.List.Sorted.{IsPermutation}
use Rattle.std.proofs.lemmas.Bool.{both_ways, cases_Bool}
use Rattle.std.proofs.lemmas.List.{append_assoc}
use Rattle.std.proofs.lemmas.Grind.{flat_map-append}
use Rattle.std.proofs.lemmas.List.Sorted.{IsPermutation-refl, IsPermutation-cons, IsPermutation-trans, IsPermutation-append_left, IsPermutation-append_right, IsPermutation-append_comm}
use Rattle.std.proofs.ByRecursion.{all_shuffled, All-append}
use Rattle.conditions.specs.Choices.{positions}
use Rattle.conditions.proofs.Meaning.{half_nowhere, halves_nowhere}
use Rattle.book.specs.Lines.{Fact, impossible, kept}
use Rattle.book.specs.Writes.{Rewrite, rewritten, original, copy, plainly_updated, stay_line, extra_line, split_lines, updated_lines}
use Rattle.book.proofs.Possibly.{Possible, kept_possible, each_possible}

-- what stands in a line's place, and what is added to it
abbrev both : Rewrite → Fact → List Fact
both u g = stay_line u g ∷ extra_line u g

-- a possible line leaves both, and an impossible one nothing
left_of : (u : Rewrite) (f : Fact) → plainly_updated u f ≡ flat_map (both u) (kept f)
left_of u f =
    elim (cases_Bool (impossible f)) [
      | inl h ↦
          grind (arith, half_nowhere positions u.position false f.meaning h, half_nowhere positions u.position true f.meaning h)
      | inr h ↦ elim (cases_Bool (impossible (original u f))) [
        | inl o ↦ elim (cases_Bool (impossible (copy u f))) [
          | inl c ↦ absurd (both_ways (impossible f) h (halves_nowhere positions u.position f.meaning o c))
          | inr c ↦ grind arith
        ]
        | inr o ↦ grind arith
      ]
    ]

by_line : (u : Rewrite) (fs : List Fact) → flat_map (plainly_updated u) fs ≡ flat_map (both u) (flat_map kept fs)
by_line u [] = refl
by_line u (f ∷ fs) =
    let one = left_of u f in
    let rest = by_line u fs in
    grind (arith, flat_map-append)

-- what stands in their places, and then what is added
module _ {X Y : Type 0} (s : Y → X) (e : Y → List X) where
  all_inward : (xs ys zs : List X) → IsPermutation (xs ++ (ys ++ zs)) (ys ++ (xs ++ zs))
  all_inward xs ys zs =
      rw (← append_assoc xs ys zs, ← append_assoc ys xs zs) (IsPermutation-append_left zs (xs ++ ys) (ys ++ xs) (IsPermutation-append_comm xs ys))

  apart : (gs : List Y) → IsPermutation (flat_map (λ g. s g ∷ e g) gs) (map s gs ++ flat_map e gs)
  apart [] = IsPermutation-refl []
  apart (g ∷ gs) =
      IsPermutation-cons (s g) (e g ++ flat_map (λ g. s g ∷ e g) gs) (map s gs ++ (e g ++ flat_map e gs))
      (IsPermutation-trans (e g ++ flat_map (λ g. s g ∷ e g) gs) (e g ++ (map s gs ++ flat_map e gs)) (map s gs ++ (e g ++ flat_map e gs))
      (IsPermutation-append_right (e g) (flat_map (λ g. s g ∷ e g) gs) (map s gs ++ flat_map e gs) (apart gs)) (all_inward (e g) (map s gs) (flat_map e gs)))

pub update_is_plain : (u : Rewrite) (fs : List Fact) → IsPermutation (flat_map (plainly_updated u) fs) (updated_lines u fs)
unfolding updated_lines split_lines
update_is_plain u fs =
    subst (λ l. IsPermutation l (map (stay_line u) (flat_map kept fs) ++ flat_map (extra_line u) (flat_map kept fs))) (sym (by_line u fs))
    (apart (stay_line u) (extra_line u) (flat_map kept fs))

both_possible : (u : Rewrite) (f : Fact) → AllByRecursion Possible (plainly_updated u f)
both_possible u f =
    elim (rewritten u f) as (λ t. AllByRecursion Possible (cond t (kept (original u f) ++ kept (copy u f)) (kept f))) [
      | true ↦ All-append Possible (kept (original u f)) (kept (copy u f)) (kept_possible (original u f) _ refl) (kept_possible (copy u f) _ refl)
      | false ↦ kept_possible f _ refl
    ]

pub update_leaves_possible : (u : Rewrite) (fs : List Fact) → AllByRecursion Possible (updated_lines u fs)
update_leaves_possible u fs = all_shuffled Possible (flat_map (plainly_updated u) fs) (updated_lines u fs) (update_is_plain u fs) (each_possible (plainly_updated u) (both_possible u) fs)
