-- A position put into a number, or taken out: the choice of before a decision, and a set that closes up.
use Rattle.std.proofs.Common.{◌≡◌, ℕ, suc, ◌+◌, ◌-◌, ◌*◌, ◌/◌, ◌%◌, ◌^◌, ◌<◌, Bool, cond, ltb, sym, ap, ◌∙◌, add-zero, arith}
use native.Mathlib.Nat.{mul-mod_left}
use Rattle.std.proofs.lemmas.Nat.{mod_below, mod-pow-add, mul-add-lt, pow-add, pow_pos, shl-shr}
use Rattle.std.proofs.lemmas.Nat.Bits.{bit_at_cat_low, bit_at_cat_high}
use Rattle.std.proofs.lemmas.Bool.Decides.{nat_tests}
use Rattle.conditions.specs.Choices.{bit, worth, source}
use Rattle.conditions.specs.Kinds.{skipping}
use Rattle.conditions.proofs.Bits.{bit_half, bit_shr, bit_mod}

low : (x i : ℕ) → x % 2 ^ i < 2 ^ i
low x i = mod_below x (2 ^ i) (pow_pos i)

-- the bits of x below position i, and those of a from there on
joined : (i j a x : ℕ) → bit j (a * 2 ^ i + x % 2 ^ i) ≡ cond (ltb j i) (bit j x) (bit (j - i) a)
joined i j a x = grind (arith, nat_tests, bit_at_cat_low a i (x % 2 ^ i) j, bit_mod j i x, bit_at_cat_high a i (x % 2 ^ i) j (low x i))

-- the set x without position i
pub closed_bit : (i j x : ℕ) → bit j (x % 2 ^ i + x / (2 ^ i * 2) * 2 ^ i) ≡ bit (skipping i j) x
closed_bit i j x =
    let e : x % 2 ^ i + x / (2 ^ i * 2) * 2 ^ i ≡ x / 2 ^ (i + 1) * 2 ^ i + x % 2 ^ i = rw (pow-add 2 i 1) (omega arith) in
    rw e (grind (arith, nat_tests, joined i j (x / 2 ^ (i + 1)) x, bit_shr (j - i) (i + 1) x))

module _ (n i : ℕ) (s : Bool) (c : ℕ) (h : i < n) where
  -- the positions from i on, with s put in
  upper : ℕ
  upper = c / 2 ^ i % 2 ^ (n - suc i) * 2 + worth s

  parts : source n i s c ≡ upper * 2 ^ i + c % 2 ^ i
  unfolding source upper
  parts =
      let y = c / 2 ^ i * 2 ^ (i + 1) in
      let e : n ≡ n - suc i + (i + 1) = omega arith in
      let m : y % 2 ^ n ≡ c / 2 ^ i % 2 ^ (n - suc i) * 2 ^ (i + 1) = ap (λ k. y % 2 ^ k) e ∙ mod-pow-add y (n - suc i) (i + 1) ∙ simp (shl-shr, mul-mod_left, add-zero) in
      rw (m, pow-add 2 i 1) (omega arith)

  pub source_below : source n i s c < 2 ^ n
  unfolding upper
  source_below =
      let d = suc (n - suc i) in
      let e : i + d ≡ n = omega arith in
      let p : 2 ^ i * 2 ^ d ≡ 2 ^ n = sym (pow-add 2 i d) ∙ ap (λ k. 2 ^ k) e in
      let l : upper < 2 ^ d = grind (arith, low (c / 2 ^ i) (n - suc i)) in
      rw (parts, ← p) (mul-add-lt upper (2 ^ i) (c % 2 ^ i) (2 ^ d) l (low c i))

  pub source_own : bit i (source n i s c) ≡ s
  unfolding upper
  source_own = rw parts (grind (arith, nat_tests, joined i i upper c))

  pub source_other : (j : ℕ) → skipping i j < n → bit (skipping i j) (source n i s c) ≡ bit j c
  unfolding upper
  source_other j k =
      rw parts (grind (arith, nat_tests, joined i (skipping i j) upper c, bit_half (j - i) upper, bit_mod (j - i) (n - suc i) (c / 2 ^ i), bit_shr (j - i) i c))
