-- The lowest number that passes a test passes it, and no lower one does; and no other number is so.
use Rattle.std.proofs.Common.{◌≡◌, ℕ, zero, suc, ◌+◌, ◌<◌, ◌≤◌, Bool, true, false, cond, Some, None, Option, refl, ap, inl, inr, arith}
use Rattle.std.proofs.lemmas.Bool.{both_ways, cases_eq, cases_lt}
use Rattle.std.specs.List.{find, range_with_len}
use Rattle.book.specs.Votes.{lowest_below, vote_on, Says}

-- of k numbers from c on: the outcome o is the lowest that passes, or none does
abbrev pub Finds : ℕ → ℕ → (ℕ → Bool) → Option ℕ → Type 0
Finds c k test None = (d : ℕ) → c ≤ d → d < c + k → test d ≡ false
Finds c k test (Some e) = (e < c + k) × (test e ≡ true) × ((d : ℕ) → c ≤ d → d < e → test d ≡ false)

later : (c d : ℕ) (test : ℕ → Bool) → test c ≡ false → c ≤ d → (suc c ≤ d → test d ≡ false) → test d ≡ false
later c d test e l f = elim (cases_eq d c) [ inl same ↦ rw same e | inr other ↦ f (omega arith) ]

one_more : (c k : ℕ) (test : ℕ → Bool) (o : Option ℕ) → test c ≡ false → Finds (c + 1) k test o → Finds c (suc k) test o
one_more c k test None e h = λ d l m. later c d test e l (λ n. h d (omega arith) (omega arith))
one_more c k test (Some x) e h = (omega (arith, h.0), h.1, λ d l m. later c d test e l (λ n. h.2 d (omega arith) m))

pub finds : (c k : ℕ) (test : ℕ → Bool) → Finds c k test (find test (range_with_len c k))
finds c zero test = λ d l m. absurd (omega arith)
finds c (suc k) test = go (test c) refl (finds (c + 1) k test)
  where
    go : (b : Bool) → test c ≡ b → Finds (c + 1) k test (find test (range_with_len (c + 1) k)) → Finds c (suc k) test (cond b (Some c) (find test (range_with_len (c + 1) k)))
    go true e h = (omega arith, e, λ d l m. absurd (omega arith))
    go false e h = one_more c k test (find test (range_with_len (c + 1) k)) e h

-- the outcome is the only one
module _ (k : ℕ) (test : ℕ → Bool) where
  alike : (o p : Option ℕ) → Finds 0 k test o → Finds 0 k test p → o ≡ p
  alike None None g h = refl
  alike None (Some f) g h = absurd (both_ways (test f) (g f (omega arith) (omega (arith, h.0))) h.1)
  alike (Some e) None g h = absurd (both_ways (test e) (h e (omega arith) (omega (arith, g.0))) g.1)
  alike (Some e) (Some f) g h =
      ap Some (elim (cases_lt e f) [
        | inl n ↦ absurd (both_ways (test e) (h.2 e (omega arith) n) g.1)
        | inr n ↦ elim (cases_lt f e) [ inl p ↦ absurd (both_ways (test f) (g.2 f (omega arith) p) h.1) | inr p ↦ omega (arith, n, p) ]
      ])

  pub lowest_is : (o : Option ℕ) → Finds 0 k test o → lowest_below k test ≡ o
  unfolding lowest_below
  lowest_is o = alike (find test (range_with_len 0 k)) o (finds 0 k test)

says_of : (n : ℕ) (test : ℕ → Bool) (o : Option ℕ) → Finds 0 n test o → Says (vote_on o) n test
says_of n test None h = λ c l. h c (omega arith) (omega arith)
says_of n test (Some e) h = (omega (arith, h.0), h.1, λ d. h.2 d (omega arith))

pub vote_says : (n : ℕ) (test : ℕ → Bool) → Says (vote_on (lowest_below n test)) n test
unfolding lowest_below
vote_says n test = says_of n test (find test (range_with_len 0 n)) (finds 0 n test)
