-- What a chain gives, collected as the bits of one number.
use Rattle.std.proofs.Common.{◌≡◌, ℕ, zero, suc, ◌+◌, ◌*◌, ◌%◌, ◌^◌, ◌<◌, Bool, ◌&&◌, ltb, leb, eqb, bit_or, Option, List, [], ◌∷◌, ◌++◌, filter, inl, inr, arith}
use Rattle.std.specs.Fn.{Called}
use Rattle.std.specs.Iterator.{FoldsItems}
use Rattle.std.specs.List.{list_any, range_with_len}
use Rattle.std.proofs.lemmas.Bool.{cases_Bool}
use Rattle.std.proofs.lemmas.Bool.Decides.{nat_tests}
use Rattle.std.proofs.lemmas.Fn.{fold_over}
use Rattle.std.proofs.lemmas.Grind.{common_steps}
use Rattle.std.proofs.lemmas.Iterator.{YieldsList}
use denote.Param.Members.{Mut}
use Rattle.conditions.specs.Choices.{bit}
use Rattle.conditions.proofs.Bits.{bit_of_or, bit_zero, bit_mod, bit_pow}

abbrev pub Collected : List ℕ → ℕ → Type 0
Collected xs v = (k : ℕ) → k < 64 → bit k v ≡ list_any (λ x. eqb k x) xs

-- one more, wherever the shift sends it
more : (xs : List ℕ) (v x w : ℕ) → Collected xs v → w ≡ bit_or v (1 * 2 ^ x % 2 ^ 64) → Collected (xs ++ x ∷ []) w
more xs v x w f e k h = rw e (grind (arith, common_steps, f k h, bit_of_or k v (1 * 2 ^ x % 2 ^ 64), bit_mod k 64 (1 * 2 ^ x), bit_pow k x))

pub collected : {S F : Type 0} {steps : S → Option ℕ → S → Type 0} {g : Mut F (ℕ × (ℕ × Unit {0})) ℕ} {f : F} {s : S} {xs : List ℕ} {r : ℕ} → FoldsItems steps g s f 0 r
    → ((v x w : ℕ) (q : F) → Called g f (v, (x, tt)) w q → (w ≡ bit_or v (1 * 2 ^ x % 2 ^ 64)) × (q ≡ f)) → YieldsList steps (λ x. x) s xs → Collected xs r
collected {S} {F} {steps} {g} {f} {s} {xs} {r} ran adds gives =
    fold_over steps (λ x. x) g Collected f
    (λ ys v x w q j k. let a : (w ≡ bit_or v (1 * 2 ^ x % 2 ^ 64)) × (q ≡ f) = adds v x w q k in (more ys v x w j a.0, a.1))
    s xs 0 r gives.runs (λ k l. bit_zero k) ran

-- which numbers from a on pass a test
pub passing : (p : ℕ → Bool) (a n k : ℕ) → list_any (λ x. eqb k x) (filter p (range_with_len a n)) ≡ (leb a k && ltb k (a + n) && p k)
passing p a zero k = grind (arith, nat_tests)
passing p a (suc n) k = elim (cases_Bool (p a)) [ inl t ↦ rw t (grind (arith, nat_tests, passing p (a + 1) n k)) | inr f ↦ rw f (grind (arith, nat_tests, passing p (a + 1) n k)) ]
