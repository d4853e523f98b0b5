-- What a signed pair means, for any number of positions.
use Rattle.std.proofs.Common.{◌≡◌, ℕ, ◌+◌, ◌-◌, ◌*◌, ◌/◌, ◌^◌, ◌<◌, ◌≤◌, Bool, true, false, cond, not, ◌&&◌, ◌||◌, eqb, ltb, ◌⊎◌, Decides, sym, ap, ◌∙◌, inl, inr, add-one, arith}
use mathlib.Core.Path.{fun_ext}
use lib.Bits.{bit_and, and_le_r}
use Rattle.std.proofs.lemmas.Nat.{pow_pos, shr_split, mod_below}
use Rattle.std.proofs.lemmas.Bool.{lt-ltb, and_from, and_parts, both_ways, cases_Bool, cases_eq, cases_lt}
use Rattle.std.proofs.lemmas.Bool.Decides.{nat_tests, Decides-eqb, Decides-ltb, Decides-like, Decides-at, Decides-and, Decides-not}
use Rattle.conditions.specs.Choices.{bit, same, source}
use Rattle.conditions.specs.Meanings.{everywhere, narrowing, deciding, nowhere}
use Rattle.conditions.specs.Kinds.{implied, agreeing, in_pair, skipping, contradicting}
use Rattle.conditions.proofs.Bits.{bit_of_and, bit_past, bit_zero, bits_alike}
use Rattle.conditions.proofs.Sources.{source_below, source_own, source_other}
use Rattle.conditions.proofs.Meaning.{is_true, alike, all_decides, nowhere_decides, narrowed_past, decided_past}

-- one position more
pub agreeing_more : (n : ℕ) (s : Bool) (x c : ℕ) → agreeing (n + 1) s x c ≡ (implied (bit n x) (same s (bit n c)) && agreeing n s x c)
unfolding agreeing
agreeing_more n s x c = rw (add-one n)

-- positions past the last of the set ask for nothing
pub agreeing_rest : (k n : ℕ) (s : Bool) (x c : ℕ) → x / 2 ^ k ≡ 0 → k ≤ n → agreeing k s x c ≡ agreeing n s x c
unfolding agreeing
agreeing_rest k n s x c none l =
    alike _ _ (all_decides k _) (all_decides n _)
    (λ f j m. elim (cases_lt j k) [ inl a ↦ f j a | inr b ↦ rw (bit_past k j x small b) ])
    (λ f j m. f j (omega arith))
  where
    small : x < 2 ^ k
    small = omega (arith, shr_split x k, ap (λ q. q * 2 ^ k) none, mod_below x (2 ^ k) (pow_pos k))

-- what the sets p and a ask of position j in the choice c
abbrev asked : ℕ → ℕ → ℕ → ℕ → Bool
asked p a c j = implied (bit j p) (bit j c) && implied (bit j a) (not (bit j c))

pair_decides : (n p a c : ℕ) → Decides (in_pair n p a c) ((c < 2 ^ n) × ((j : ℕ) → j < n → asked p a c j ≡ true))
unfolding in_pair agreeing
pair_decides n p a c =
    Decides-like (in_pair n p a c)
    (λ f. (f.0, λ j l. and_from _ _ (f.1.0 j l) (f.1.1 j l)))
    (λ f. (f.0, (λ j l. (and_parts _ _ (f.1 j l)).0, λ j l. (and_parts _ _ (f.1 j l)).1)))
    (Decides-and _ _ (Decides-ltb c (2 ^ n)) (Decides-and _ _ (all_decides n _) (all_decides n _)))

pub pair_always : (n : ℕ) → in_pair n 0 0 ≡ everywhere n
pair_always n = fun_ext (λ c. alike _ _ (pair_decides n 0 0 c) (Decides-ltb c (2 ^ n)) (λ f. f.0) (λ l. (l, λ j k. grind (arith, bit_zero j))))

-- what a position added to one set asks besides
added : (s x y e b q r : Bool) → q ≡ cond s (x || e) x → r ≡ cond s y (y || e) → (implied q b && implied r (not b)) ≡ ((implied x b && implied y (not b)) && implied e (same s b))
added s x y e b q r f g = grind arith

pub pair_narrowed : (n i : ℕ) (s : Bool) (p a q b : ℕ) → i < n → ((j : ℕ) → bit j q ≡ cond s (bit j p || eqb j i) (bit j p))
    → ((j : ℕ) → bit j b ≡ cond s (bit j a) (bit j a || eqb j i)) → in_pair n q b ≡ narrowing n i s (in_pair n p a)
unfolding narrowing
pair_narrowed n i s p a q b h isq isb = fun_ext (λ c. rw (lt-ltb i n h) (
    alike _ _ (pair_decides n q b c) (Decides-and _ _ (pair_decides n p a c) (is_true _))
    (λ f. ((f.0, λ j l. ((one c j).0 (f.1 j l)).0), let t = ((one c i).0 (f.1 i h)).1 in grind (arith, nat_tests)))
    (λ f. (f.0.0, λ j l. (one c j).1 (f.0.1 j l, let u = f.1 in grind (arith, nat_tests))))))
  where
    one : (c j : ℕ) → Decides (asked q b c j) ((asked p a c j ≡ true) × (implied (eqb j i) (same s (bit j c)) ≡ true))
    one c j = Decides-at _ _ (added s (bit j p) (bit j a) (eqb j i) (bit j c) (bit j q) (bit j b) (isq j) (isb j)) (Decides-and _ _ (is_true _) (is_true _))

-- a choice in which one position ends otherwise than asked
refused : (n p a c j : ℕ) → j < n → asked p a c j ≡ false → in_pair n p a c ≡ false
refused n p a c j h e = grind (arith, pair_decides n p a c)

-- decided otherwise than asked: no choice is left
pub pair_contrary : (n i : ℕ) (s : Bool) (p a : ℕ) → i < n → bit i (contradicting s p a) ≡ true → in_pair n 1 1 ≡ deciding n i s (in_pair n p a)
unfolding deciding
pair_contrary n i s p a h t = fun_ext (λ c.
    let o = source_own n i s c h in
    let x = refused n 1 1 c 0 (omega arith) (grind arith) in
    let y = refused n p a (source n i s c) i h (grind arith) in
    grind (arith, nat_tests))

module _ (n p a : ℕ) (hp : p < 2 ^ n) (ha : a < 2 ^ n) where
  -- decided as asked, or not asked: both sets close up
  pub pair_decided : (i : ℕ) (s : Bool) (q b : ℕ) → i < n → ((j : ℕ) → bit j q ≡ bit (skipping i j) p) → ((j : ℕ) → bit j b ≡ bit (skipping i j) a)
      → bit i (contradicting s p a) ≡ false → in_pair n q b ≡ deciding n i s (in_pair n p a)
  unfolding deciding
  pair_decided i s q b h isq isb free = fun_ext (λ c. rw (lt-ltb i n h) (
      alike _ _ (pair_decides n q b c) (Decides-and _ _ (Decides-ltb c (2 ^ n)) (pair_decides n p a (source n i s c)))
      (λ f. (f.0, (source_below n i s c h, λ j l. there c f.1 j l (cases_eq j i))))
      (λ f. (f.0, λ j l. back c f.1.1 j (cases_lt (skipping i j) n)))))
    where
      moved : (c k : ℕ) → skipping i k < n → asked p a (source n i s c) (skipping i k) ≡ asked q b c k
      moved c k l = rw (isq k, isb k, source_other n i s c h k l)

      there : (c : ℕ) → ((k : ℕ) → k < n → asked q b c k ≡ true) → (j : ℕ) → j < n → (j ≡ i) ⊎ (j ≡ i → ⊥) → asked p a (source n i s c) j ≡ true
      there c f j l (inl e) = rw e (let o = source_own n i s c h in grind arith)
      there c f j l (inr ne) =
          let k = cond (ltb j i) j (j - 1) in
          let e : j ≡ skipping i k = grind (arith, nat_tests) in
          let m : k < n = grind (arith, nat_tests) in
          rw e (moved c k (rw e at l) ∙ f k m)

      back : (c : ℕ) → ((k : ℕ) → k < n → asked p a (source n i s c) k ≡ true) → (j : ℕ) → (skipping i j < n) ⊎ (n ≤ skipping i j) → asked q b c j ≡ true
      back c f j (inl m) = sym (moved c j m) ∙ f (skipping i j) m
      back c f j (inr g) = grind (arith, isq j, isb j, bit_past n (skipping i j) p hp g, bit_past n (skipping i j) a ha g)

  pub pair_holds : (c : ℕ) → in_pair n p a c ≡ (ltb c (2 ^ n) && (eqb (bit_and c p) p && eqb (bit_and c a) 0))
  pair_holds c =
      alike _ _ (pair_decides n p a c) (Decides-and _ _ (Decides-ltb c (2 ^ n)) (Decides-and _ _ (Decides-eqb (bit_and c p) p) (Decides-eqb (bit_and c a) 0)))
      (λ f. (
        f.0,
        (
          bits_alike n (bit_and c p) p (omega (arith, and_le_r c p)) hp (λ j l. grind (arith, f.1 j l, bit_of_and j c p)),
          bits_alike n (bit_and c a) 0 (omega (arith, and_le_r c a)) (pow_pos n) (λ j l. grind (arith, f.1 j l, bit_of_and j c a, bit_zero j)),
        ),
      ))
      (λ f. (f.0, λ j l. grind (arith, f.1, bit_of_and j c p, bit_of_and j c a, bit_zero j)))

  -- where the sets share no position, the choice p is in it
  pub pair_nowhere : not (eqb (bit_and p a) 0) ≡ nowhere n (in_pair n p a)
  pair_nowhere =
      alike _ _ (Decides-not _ (Decides-eqb (bit_and p a) 0)) (nowhere_decides n (in_pair n p a))
      (λ ne c l. elim (cases_Bool (in_pair n p a c)) [
        | inl t ↦ absurd (ne (bits_alike n (bit_and p a) 0 (omega (arith, and_le_r p a)) (pow_pos n) (λ j k. grind (arith, ((pair_decides n p a c).0 t).1 j k, bit_of_and j p a, bit_zero j))))
        | inr f ↦ f
      ])
      (λ f e. both_ways (in_pair n p a p) (f p hp) ((pair_decides n p a p).1 (hp, λ j k. grind (arith, bit_of_and j p a, bit_zero j))))

pub pair_verdict : (n p a c : ℕ) → c < 2 ^ n → in_pair n p a c ≡ (agreeing n true p c && agreeing n false a c)
unfolding in_pair
pair_verdict n p a c h = rw (lt-ltb c (2 ^ n) h)

pub ruleset meanings = (narrowed_past, decided_past, pair_always, pair_narrowed, pair_contrary, pair_decided, pair_nowhere, pair_holds, pair_verdict, bit_of_and)
