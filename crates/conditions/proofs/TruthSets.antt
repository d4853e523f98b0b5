-- What a truth set means, for any number of positions.
use Rattle.std.proofs.Common.{◌≡◌, ℕ, ◌-◌, ◌/◌, ◌^◌, ◌<◌, Bool, ◌&&◌, eqb, ltb, arith}
use mathlib.Core.Path.{fun_ext}
use lib.Bits.{bit_and}
use Rattle.std.proofs.lemmas.Bool.{lt-ltb}
use Rattle.std.proofs.lemmas.Bool.Decides.{nat_tests, Decides-eqb}
use Rattle.conditions.specs.Choices.{bit, same, source}
use Rattle.conditions.specs.Meanings.{everywhere, narrowing, deciding, nowhere}
use Rattle.conditions.specs.Kinds.{in_set}
use Rattle.conditions.proofs.Bits.{bit_read, bit_of_and, bit_zero, bit_ones, bits_alike}
use Rattle.conditions.proofs.Meaning.{alike, nowhere_decides, narrowed_past, decided_past}

pub set_always : (n : ℕ) → in_set n (2 ^ 2 ^ n - 1) ≡ everywhere n
unfolding in_set
set_always n = fun_ext (λ c. grind (arith, nat_tests, bit_ones (2 ^ n) c))

-- k: the choices in which position i ends as s
pub set_narrowed : (n i : ℕ) (s : Bool) (v k : ℕ) → i < n → ((c : ℕ) → c < 2 ^ n → bit c k ≡ same s (bit i c)) → in_set n (bit_and v k) ≡ narrowing n i s (in_set n v)
unfolding in_set narrowing
set_narrowed n i s v k h is = fun_ext (λ c. grind (arith, nat_tests, bit_of_and c v k, is c))

pub set_decided : (n i : ℕ) (s : Bool) (v w : ℕ) → i < n → ((c : ℕ) → c < 2 ^ n → bit c w ≡ in_set n v (source n i s c)) → in_set n w ≡ deciding n i s (in_set n v)
unfolding in_set deciding
set_decided n i s v w h is = fun_ext (λ c. grind (arith, nat_tests, is c))

pub set_nowhere : (n v : ℕ) → v < 2 ^ 2 ^ n → eqb v 0 ≡ nowhere n (in_set n v)
unfolding in_set
set_nowhere n v h =
    alike _ _ (Decides-eqb v 0) (nowhere_decides n (in_set n v))
    (λ e c l. grind (arith, bit_zero c))
    (λ f. bits_alike (2 ^ n) v 0 h (omega arith) (λ c l. grind (arith, nat_tests, bit_zero c, f c l)))

-- as the code reads it
pub set_holds : (n v c : ℕ) → in_set n v c ≡ (ltb c (2 ^ n) && eqb (bit_and (v / 2 ^ c) 1) 1)
unfolding in_set
set_holds n v c = rw (bit_read c v)

pub set_verdict : (n v c : ℕ) → c < 2 ^ n → in_set n v c ≡ bit c v
unfolding in_set
set_verdict n v c h = rw (lt-ltb c (2 ^ n) h)

pub ruleset meanings = (narrowed_past, decided_past, set_always, set_narrowed, set_decided, set_nowhere, set_holds, set_verdict)
