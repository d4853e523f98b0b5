-- What conditions mean, for any number of positions: impossible and possible, narrowed and decided.
use Rattle.std.proofs.Common.{◌≡◌, ℕ, ◌^◌, ◌<◌, ◌≤◌, Bool, true, false, not, Decides, refl, arith}
use mathlib.Core.Path.{fun_ext}
use lib.Pow.{ones_lt}
use Rattle.std.proofs.lemmas.Bool.{not-true, not_from_false}
use Rattle.std.proofs.lemmas.Bool.Decides.{nat_tests, same_from_decides, Decides-like, Decides-below_and}
use Rattle.conditions.specs.Meanings.{everywhere, narrowing, deciding, none_below, nowhere}
use Rattle.conditions.specs.Kinds.{all_below}
use Rattle.conditions.proofs.Bits.{bit_ones}

-- what tests decide, and when two of them are the same
pub is_true : (b : Bool) → Decides b (b ≡ true)
is_true b = (λ e. e, λ e. e)

pub alike : {P Q : Type 0} (r s : Bool) → Decides r P → Decides s Q → (P → Q) → (Q → P) → r ≡ s
alike r s d e f g = same_from_decides r s d (Decides-like s g f e)

pub all_decides : (k : ℕ) (f : ℕ → Bool) → Decides (all_below k f) ((j : ℕ) → j < k → f j ≡ true)
all_decides k f = Decides-below_and f (λ j. f j ≡ true) (λ k. all_below k f) (λ j. is_true (f j)) refl (λ _. refl) k

pub nowhere_decides : (n : ℕ) (m : ℕ → Bool) → Decides (nowhere n m) ((c : ℕ) → c < 2 ^ n → m c ≡ false)
unfolding nowhere none_below
nowhere_decides n m =
    Decides-below_and (λ c. not (m c)) (λ c. m c ≡ false) (λ k. none_below k m) (λ c. (not-true (m c), not_from_false (m c))) refl (λ _. refl) (2 ^ n)

-- a half of what is impossible is impossible
pub half_nowhere : (n i : ℕ) (s : Bool) (m : ℕ → Bool) → nowhere n m ≡ true → nowhere n (narrowing n i s m) ≡ true
unfolding narrowing
half_nowhere n i s m h = (nowhere_decides n (narrowing n i s m)).1 (λ c l. rw ((nowhere_decides n m).0 h c l))

-- what has two impossible halves is impossible
pub halves_nowhere : (n i : ℕ) (m : ℕ → Bool) → nowhere n (narrowing n i false m) ≡ true → nowhere n (narrowing n i true m) ≡ true → nowhere n m ≡ true
unfolding narrowing
halves_nowhere n i m f t = (nowhere_decides n m).1 (λ c l. grind (arith, (nowhere_decides n (narrowing n i false m)).0 f c l, (nowhere_decides n (narrowing n i true m)).0 t c l))

-- a half of always is possible: the choice in which all commit is in it
pub half_somewhere : (n i : ℕ) → nowhere n (narrowing n i true (everywhere n)) ≡ false
unfolding narrowing
half_somewhere n i = grind (arith, nat_tests, nowhere_decides n (narrowing n i true (everywhere n)), bit_ones n i, ones_lt n)

pub narrowed_past : (n i : ℕ) (s : Bool) (m : ℕ → Bool) → n ≤ i → m ≡ narrowing n i s m
unfolding narrowing
narrowed_past n i s m h = fun_ext (λ c. grind (arith, nat_tests))

pub decided_past : (n i : ℕ) (s : Bool) (m : ℕ → Bool) → n ≤ i → m ≡ deciding n i s m
unfolding deciding
decided_past n i s m h = fun_ext (λ c. grind (arith, nat_tests))
