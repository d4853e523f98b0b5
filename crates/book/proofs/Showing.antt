-- What the tables show under a choice after a call, as plain tables would have it.
use Rattle.std.proofs.Common.{◌≡◌, ℕ, ◌^◌, ◌<◌, Bool, true, false, cond, not, ◌&&◌, eqb, List, [], ◌∷◌, ◌++◌, map, filter, sym, refl, ap, ◌∙◌, arith}
use Rattle.std.specs.List.{flat_map}
use Rattle.std.proofs.lemmas.List.{append-nil, map-append}
use Rattle.std.proofs.lemmas.List.Elements.{filter-append}
use Rattle.std.proofs.lemmas.Bool.{lt-ltb}
use Rattle.std.proofs.lemmas.Bool.Decides.{nat_tests}
use Rattle.conditions.specs.Choices.{positions, bit, same, source}
use Rattle.conditions.specs.Meanings.{everywhere, narrowing, deciding}
use Rattle.conditions.proofs.Meaning.{nowhere_decides}
use Rattle.book.specs.declared.row.Row.{Row}
use Rattle.book.specs.Lines.{Fact, impossible, kept, inserted_line, decided_line, ending}
use Rattle.book.specs.Tables.{stands, rows}
use Rattle.book.specs.Writes.{Rewrite, touched, deleted_line, original, copy, plainly_updated}

module _ (t c : ℕ) where
  -- what one line shows
  abbrev shows : Fact → List Row
  shows f = rows t c (f ∷ [])

  rows_append : (fs gs : List Fact) → rows t c (fs ++ gs) ≡ rows t c fs ++ rows t c gs
  rows_append fs gs = ap (map (λ f. f.row)) (filter-append (stands t c) fs gs) ∙ map-append (λ f. f.row) (filter (stands t c) fs) (filter (stands t c) gs)

  -- a line that is impossible shows nothing
  kept_shows : c < 2 ^ positions → (f : Fact) → rows t c (kept f) ≡ shows f
  kept_shows l f = go (impossible f) refl
    where
      go : (b : Bool) → impossible f ≡ b → rows t c (cond b [] (f ∷ [])) ≡ shows f
      go true e = let n = (nowhere_decides positions f.meaning).0 e c l in grind (arith, nat_tests)
      go false e = refl

-- where each line comes to show what w makes of what it showed under the choice d, so do all of them
module _ (t c d : ℕ) (w : List Row → List Row) (none : w [] ≡ []) (more : (xs ys : List Row) → w (xs ++ ys) ≡ w xs ++ w ys) (h : Fact → List Fact)
    (one : (f : Fact) → rows t c (h f) ≡ w (rows t d (f ∷ []))) where
  pub each_shows : (fs : List Fact) → rows t c (flat_map h fs) ≡ w (rows t d fs)
  each_shows [] = sym none
  each_shows (f ∷ fs) =
      rows_append t c (h f) (flat_map h fs) ∙ (λ k. one f k ++ each_shows fs k)
      ∙ sym (more (rows t d (f ∷ [])) (rows t d fs)) ∙ ap w (sym (rows_append t d (f ∷ []) fs))

-- a transaction at position i, and a choice c
module _ (i : ℕ) (at : i < positions) (c : ℕ) (among : c < 2 ^ positions) (t : ℕ) where
  pub narrowed_at : (s : Bool) (m : ℕ → Bool) → narrowing positions i s m c ≡ (m c && same s (bit i c))
  unfolding narrowing
  narrowed_at s m = ap (λ b. m c && cond b (same s (bit i c)) true) (lt-ltb i positions at)

  -- Insert
  pub insert_shows : (table : ℕ) (r : Row) (fs : List Fact)
      → rows t c (fs ++ inserted_line i table r ∷ []) ≡ cond (bit i c) (cond (eqb table t) (rows t c fs ++ r ∷ []) (rows t c fs)) (rows t c fs)
  insert_shows table r fs =
      let m = narrowed_at true (everywhere positions) in
      let l = lt-ltb c (2 ^ positions) among in
      let n = append-nil (rows t c fs) in
      rows_append t c fs (inserted_line i table r ∷ []) ∙ grind (arith, nat_tests)

  -- Delete
  pub delete_one : (table : ℕ) (p : Row → Bool) (f : Fact)
      → rows t c (deleted_line i table p f) ≡ cond (bit i c) (cond (eqb table t) (filter (λ r. not (p r)) (rows t c (f ∷ []))) (rows t c (f ∷ []))) (rows t c (f ∷ []))
  delete_one table p f =
      let n = narrowed_at false f.meaning in
      kept_shows t c among (cond (touched table p f) (ending i false f) f) ∙ grind (arith, nat_tests)

  -- Decide
  pub decide_one : (s : Bool) (f : Fact) → rows t c (decided_line i s f) ≡ rows t (source positions i s c) (f ∷ [])
  unfolding deciding
  decide_one s f =
      kept_shows t c among (record { table = f.table; row = f.row; meaning = deciding positions i s f.meaning }) ∙ grind (arith, nat_tests)

  -- Update
  pub update_one : (u : Rewrite) → u.position ≡ i → (f : Fact)
      → rows t c (plainly_updated u f) ≡ cond (bit i c) (cond (eqb u.table t) (map (λ r. cond (u.passing r) (u.changing r) r) (rows t c (f ∷ []))) (rows t c (f ∷ []))) (rows t c (f ∷ []))
  update_one u e f =
      let a : narrowing positions u.position false f.meaning c ≡ (f.meaning c && not (bit i c)) = rw e (narrowed_at false f.meaning) in
      let b : narrowing positions u.position true f.meaning c ≡ (f.meaning c && bit i c) = rw e (narrowed_at true f.meaning) in
      let o = kept_shows t c among (original u f) in
      let p = kept_shows t c among (copy u f) in
      let q = kept_shows t c among f in
      let r = rows_append t c (kept (original u f)) (kept (copy u f)) in
      grind (arith, nat_tests)
