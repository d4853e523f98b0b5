-- The bits of a number, of any width and at any position: what the library says of `bit_at`, as tests.
use Rattle.std.proofs.Common.{◌≡◌, ℕ, zero, suc, ◌+◌, ◌-◌, ◌/◌, ◌%◌, ◌^◌, ◌<◌, ◌≤◌, Bool, true, false, not, ◌&&◌, ◌||◌, eqb, sym, ap, ◌∙◌, arith}
use lib.Bits.{bit_and, bit_or}
use Rattle.std.proofs.lemmas.Nat.{shr-shr, shr_split}
use Rattle.std.proofs.lemmas.Nat.Bits.{bit_at-suc, bit_at-zero, bit_at-lt, bit_at-pow_same, bit_at-pow_other, bit_at_above, bit_at_and, bit_at_or, bit_at_ones, bit_at_cat_low, shr_and_one, same_from_bits_below}
use Rattle.std.proofs.lemmas.Bool.Decides.{nat_tests}
use Rattle.conditions.specs.Choices.{bit}

-- whether a bit is 1
abbrev on : ℕ → Bool
on b = eqb b 1

pub bit_half : (j x : ℕ) → bit (suc j) x ≡ bit j (x / 2)
bit_half j x = ap on (bit_at-suc x j)

pub bit_past : (n j x : ℕ) → x < 2 ^ n → n ≤ j → bit j x ≡ false
bit_past n j x h k = ap on (bit_at_above x n j h k)

pub bit_zero : (j : ℕ) → bit j 0 ≡ false
bit_zero j = ap on (bit_at-zero j)

-- as the code reads it
pub bit_read : (j x : ℕ) → eqb (bit_and (x / 2 ^ j) 1) 1 ≡ bit j x
bit_read j x = ap on (shr_and_one x j)

pub bit_of_and : (j x y : ℕ) → bit j (bit_and x y) ≡ (bit j x && bit j y)
bit_of_and j x y = rw (bit_at_and x y j) (grind (arith, nat_tests, bit_at-lt x j, bit_at-lt y j))

pub bit_of_or : (j x y : ℕ) → bit j (bit_or x y) ≡ (bit j x || bit j y)
bit_of_or j x y = rw (bit_at_or x y j) (grind (arith, nat_tests, bit_at-lt x j, bit_at-lt y j))

pub bit_not : (n j x : ℕ) → x < 2 ^ n → j < n → bit j (2 ^ n - 1 - x) ≡ not (bit j x)
bit_not zero j x h k = absurd (omega arith)
bit_not (suc n) zero x h k = grind (arith, nat_tests)
bit_not (suc n) (suc j) x h k =
    grind (arith, bit_half j (2 ^ suc n - 1 - x), bit_half j x, bit_not n j (x / 2) (omega arith) (omega arith))

pub bit_ones : (n j : ℕ) → j < n → bit j (2 ^ n - 1) ≡ true
bit_ones n j h = ap on (bit_at_ones n j h)

pub bit_pow : (j i : ℕ) → bit j (2 ^ i) ≡ eqb j i
bit_pow j i = grind (arith, nat_tests, bit_at-pow_same i, bit_at-pow_other i j)

-- numbers with the same bits are equal
pub bits_alike : (n x y : ℕ) → x < 2 ^ n → y < 2 ^ n → ((j : ℕ) → j < n → bit j x ≡ bit j y) → x ≡ y
bits_alike n x y h k f = same_from_bits_below n x y h k (λ j l. grind (arith, nat_tests, f j l, bit_at-lt x j, bit_at-lt y j))

-- from position k on, and below it
pub bit_shr : (j k x : ℕ) → bit j (x / 2 ^ k) ≡ bit (j + k) x
bit_shr j k x = let e : k + j ≡ j + k = omega arith in rw (shr-shr x k j, e)

pub bit_mod : (j k x : ℕ) → j < k → bit j (x % 2 ^ k) ≡ bit j x
bit_mod j k x h = sym (ap on (bit_at_cat_low (x / 2 ^ k) k (x % 2 ^ k) j h)) ∙ ap (bit j) (shr_split x k)
