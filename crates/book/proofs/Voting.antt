-- The choices that speak against a transaction, all at once.
use Rattle.std.proofs.Common.{◌≡◌, ℕ, zero, suc, ◌+◌, ◌-◌, ◌/◌, ◌%◌, ◌^◌, ◌<◌, ◌≤◌, Bool, true, false, cond, not, ◌&&◌, ◌||◌, eqb, ltb, List, [], ◌∷◌, ◌++◌, map, length, get_or, take, Some, None, Option, inl, inr, sym, refl, ap, ◌∙◌, arith}
use lib.Bits.{bit_and, bit_or}
use lib.Count.{count_trailing_zeros, under}
use native.Mathlib.Nat.{pow-succ'}
use Rattle.std.specs.List.{find, range_with_len}
use Rattle.std.proofs.lemmas.List.Folds.{list_any-append, list_any_more}
use Rattle.std.proofs.lemmas.Bool.{cases_lt, lt-ltb}
use Rattle.std.proofs.lemmas.Bool.Decides.{nat_tests}
use Rattle.conditions.specs.Choices.{bit}
use Rattle.conditions.proofs.Bits.{bit_zero, bit_half, bit_of_and, bit_of_or, bit_not}
use Rattle.book.specs.declared.row.Row.{Row}
use Rattle.book.specs.declared.line.Line.{Line}
use Rattle.book.specs.Lines.{seen}
use Rattle.book.specs.Tables.{rows}
use Rattle.book.specs.Votes.{has_cue, orphan, some_orphan, lowest_below}
use Rattle.book.proofs.Counting.{stands_passing, any_row}
use Rattle.book.proofs.Lowest.{Finds, finds, lowest_is}

-- the lines of the music cues and those of the firing script, at a choice c
module _ {C : Type 0} (m : C → ℕ → Bool) (c : ℕ) where
  module _ (cue : ℕ) where
    abbrev pub cued : List (Line C) → Bool
    cued ls = has_cue cue (rows 2 c (map (seen m) ls))

    abbrev is_cue : Line C → Bool
    is_cue = stands_passing (seen m) 2 c (λ r. eqb r.first cue)

    pub cued_append : (xs ys : List (Line C)) → cued (xs ++ ys) ≡ (cued xs || cued ys)
    cued_append xs ys =
        let by_line = any_row (seen m) 2 c (λ r. eqb r.first cue) in
        by_line (xs ++ ys) ∙ list_any-append is_cue xs ys ∙ (λ k. sym (by_line xs) k || sym (by_line ys) k)

    cued_push : (ls : List (Line C)) (l : Line C) → cued (ls ++ l ∷ []) ≡ (cued ls || is_cue l)
    cued_push ls l =
        cued_append ls (l ∷ []) ∙ ap (λ b. cued ls || b) (grind arith)

    -- one line more, from the last back: v has the choices so far, and w those in which the line holds
    module _ (v : ℕ) (ls : List (Line C)) (l : Line C) where
      pub cue_then : (w : ℕ) → w < 2 ^ 64 → c < 64 → true ≡ (eqb l.table 2 && eqb l.row.first cue) → bit c w ≡ m l.condition c
          → (bit c (bit_and v (2 ^ 64 - 1 - w)) && not (cued ls)) ≡ (bit c v && not (cued (ls ++ l ∷ [])))
      cue_then w small among is holds =
          grind (arith, nat_tests, bit_of_and c v (2 ^ 64 - 1 - w), bit_not 64 c w small among, cued_push ls l)

  -- against the cues in all lines, of the choices a: one shot more
  module _ (cues : List Row) where
    abbrev pub lacking : List (Line C) → Bool
    lacking ls = some_orphan (rows 1 c (map (seen m) ls)) cues

    abbrev is_orphan : Line C → Bool
    is_orphan = stands_passing (seen m) 1 c (λ r. orphan r cues)

    module _ (a v i : ℕ) (ls : List (Line C)) (l : Line C) (within : i < length ls) (at : l ≡ get_or ls i l) (before : bit c v ≡ (bit c a && lacking (take i ls))) where
      more : lacking (take (i + 1) ls) ≡ (lacking (take i ls) || is_orphan l)
      more =
          let by_line = any_row (seen m) 1 c (λ r. orphan r cues) in
          by_line (take (i + 1) ls) ∙ list_any_more is_orphan ls i l within ∙ (λ k. sym (by_line (take i ls)) k || is_orphan (sym at k))

      pub orphan_then : (w q : ℕ) → v < 2 ^ 64 → c < 64 → l.table ≡ 1 → bit c w ≡ m l.condition c
          → bit c q ≡ (bit c (bit_and (bit_and a (2 ^ 64 - 1 - v)) w) && not (has_cue l.row.first cues))
          → bit c (bit_or v q) ≡ (bit c a && lacking (take (i + 1) ls))
      orphan_then w q small among is holds found =
          let o = bit_of_or c v q in
          let x = bit_of_and c (bit_and a (2 ^ 64 - 1 - v)) w in
          let y = bit_of_and c a (2 ^ 64 - 1 - v) in
          let n = bit_not 64 c v small among in
          let s = more in
          grind (arith, nat_tests)

      pub orphan_else : (l.table ≡ 1 → ⊥) → bit c v ≡ (bit c a && lacking (take (i + 1) ls))
      orphan_else is = let s = more in grind (arith, nat_tests)

-- the lowest bit that is set

pub none_set : (k : ℕ) → lowest_below k (λ c. bit c 0) ≡ None
none_set k = lowest_is k (λ c. bit c 0) None (λ d l m. bit_zero d)

-- of the k digits from c on
lowest_bit : (c k x : ℕ) (test : ℕ → Bool) → ((j : ℕ) → test (c + j) ≡ bit j x) → find test (range_with_len c k) ≡ cond (ltb (count_trailing_zeros k x) k) (Some (c + count_trailing_zeros k x)) None
unfolding count_trailing_zeros
lowest_bit c zero x test h = refl
lowest_bit c (suc k) x test h =
    go (x % 2) refl (lowest_bit (c + 1) k (x / 2) test (λ j. let e : c + 1 + j ≡ c + suc j = omega arith in ap test e ∙ h (suc j) ∙ bit_half j x))
  where
    here : test c ≡ eqb (x % 2) 1
    here = let e : c ≡ c + 0 = omega arith in let f : x / 1 % 2 ≡ x % 2 = omega arith in ap test e ∙ h 0 ∙ ap (λ d. eqb d 1) f

    go : (d : ℕ) → x % 2 ≡ d → find test (range_with_len (c + 1) k) ≡ cond (ltb (count_trailing_zeros k (x / 2)) k) (Some (c + 1 + count_trailing_zeros k (x / 2))) None
        → cond (test c) (Some c) (find test (range_with_len (c + 1) k)) ≡ cond (ltb (under d (count_trailing_zeros k (x / 2))) (suc k)) (Some (c + under d (count_trailing_zeros k (x / 2)))) None
    go zero e rest =
        let f : test c ≡ false = here ∙ ap (λ d. eqb d 1) e in
        let g : c + 1 + count_trailing_zeros k (x / 2) ≡ c + suc (count_trailing_zeros k (x / 2)) = omega arith in
        let s : ltb (count_trailing_zeros k (x / 2)) k ≡ ltb (suc (count_trailing_zeros k (x / 2))) (suc k) = grind (arith, nat_tests) in
        rw f (rest ∙ (λ t. cond (s t) (Some (g t)) None))
    go (suc zero) e rest =
        let f : test c ≡ true = here ∙ ap (λ d. eqb d 1) e in
        let g : c ≡ c + 0 = omega arith in
        let s : ltb 0 (suc k) ≡ true = lt-ltb 0 (suc k) (omega arith) in
        rw (f, s) (ap Some g)
    go (suc (suc d)) e rest = absurd (omega arith)

trailing_below : (k x : ℕ) → 0 < x → x < 2 ^ k → count_trailing_zeros k x < k
unfolding count_trailing_zeros
trailing_below zero x h l = absurd (omega arith)
trailing_below (suc k) x h l = go (x % 2) refl (λ p q. trailing_below k (x / 2) p q)
  where
    go : (d : ℕ) → x % 2 ≡ d → (0 < x / 2 → x / 2 < 2 ^ k → count_trailing_zeros k (x / 2) < k) → under d (count_trailing_zeros k (x / 2)) < suc k
    go zero e rest = let t = rest (omega arith) (omega (arith, pow-succ' 2 k)) in omega arith
    go (suc d) e rest = omega arith

pub first_set : (k x : ℕ) → 0 < x → x < 2 ^ k → lowest_below k (λ c. bit c x) ≡ Some (count_trailing_zeros k x)
unfolding lowest_below
first_set k x h l =
    let e = lt-ltb _ k (trailing_below k x h l) in lowest_bit 0 k x (λ c. bit c x) (λ j. let z : 0 + j ≡ j = omega arith in ap (λ n. bit n x) z) ∙ (let z : 0 + count_trailing_zeros k x ≡ count_trailing_zeros k x = omega arith in rw (e, z) refl)

-- of the first m alone
widened : (k m : ℕ) (t u : ℕ → Bool) → m ≤ k → ((d : ℕ) → d < k → t d ≡ (ltb d m && u d)) → (o : Option ℕ) → Finds 0 m u o → Finds 0 k t o
widened k m t u h same None f = λ d l n.
    same d (omega arith) ∙ elim (cases_lt d m) [ inl p ↦ grind (arith, nat_tests, f d l (omega arith)) | inr p ↦ grind (arith, nat_tests) ]
widened k m t u h same (Some e) f =
    let s = same e (omega (arith, f.0)) in
    (omega (arith, f.0), grind (arith, nat_tests, f.0, f.1), λ d l n. same d (omega (arith, f.0)) ∙ grind (arith, nat_tests, f.2 d l n))

pub lowest_first : (k m : ℕ) (t u : ℕ → Bool) → m ≤ k → ((d : ℕ) → d < k → t d ≡ (ltb d m && u d)) → lowest_below k t ≡ lowest_below m u
unfolding lowest_below
lowest_first k m t u h same = lowest_is k t (lowest_below m u) (widened k m t u h same (find u (range_with_len 0 m)) (finds 0 m u))
