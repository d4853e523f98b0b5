-- Each write does to the tables, under every choice, what plain tables would do if its transaction commits.
use Rattle.std.proofs.Common.{◌≡◌, ℕ, ◌<◌, Bool, cond, not, eqb, List, [], ◌++◌, map, filter, sym, refl, ap, ◌∙◌, arith}
use Rattle.std.specs.List.{flat_map, list_any}
use Rattle.std.specs.List.Sorted.{IsPermutation}
use Rattle.std.proofs.lemmas.List.{map-append, map-id}
use Rattle.std.proofs.lemmas.List.Elements.{filter-append}
use Rattle.std.proofs.lemmas.List.Sorted.{list_any-IsPermutation}
use Rattle.conditions.specs.Choices.{positions, bit}
use Rattle.book.specs.declared.row.Row.{Row}
use Rattle.book.specs.Lines.{Fact, decided_line}
use Rattle.book.specs.Tables.{same_row, rows, has}
use Rattle.book.specs.Writes.{Rewrite, deleted_line, plainly_updated, updated_lines}
use Rattle.book.specs.Calls.{State, position, with_lines, lines_inserted}
use Rattle.book.specs.Plain.{row_added, rows_removed, rows_changed, tables, Writes, Decides}
use Rattle.book.proofs.Counting.{stands_passing, any_row}
use Rattle.book.proofs.Plainly.{update_is_plain}
use Rattle.book.proofs.Showing.{each_shows, insert_shows, delete_one, decide_one, update_one}

-- the order of lines does not matter
module _ (t c : ℕ) (r : Row) where
  abbrev shows_row : Fact → Bool
  shows_row = stands_passing (λ f. f) t c (λ x. same_row x r)

  by_line : (fs : List Fact) → has r (rows t c fs) ≡ list_any shows_row fs
  by_line fs = ap (λ gs. has r (rows t c gs)) (sym (map-id fs)) ∙ any_row (λ f. f) t c (λ x. same_row x r) fs

  shuffled_has : (fs gs : List Fact) → IsPermutation fs gs → has r (rows t c fs) ≡ has r (rows t c gs)
  shuffled_has fs gs h = by_line fs ∙ list_any-IsPermutation shows_row fs gs h ∙ sym (by_line gs)

at_table : {A B : Type 0} (b : Bool) (f g : A → B) (t : A) → cond b (f t) (g t) ≡ cond b f g t
at_table b f g t = grind arith

-- what a write does to the rows of a table, in parts
module _ (b e : Bool) where
  in_parts : (w : List Row → List Row) → ((xs ys : List Row) → w (xs ++ ys) ≡ w xs ++ w ys) → (xs ys : List Row)
      → cond b (cond e (w (xs ++ ys)) (xs ++ ys)) (xs ++ ys) ≡ cond b (cond e (w xs) xs) xs ++ cond b (cond e (w ys) ys) ys
  in_parts w more xs ys = let m = more xs ys in grind arith

  nothing : (w : List Row → List Row) → w [] ≡ [] → cond b (cond e (w []) []) [] ≡ []
  nothing w n = grind arith

module _ (n : ℕ) (s : State) (at : position n s < positions) where
  pub insert_writes : (table : ℕ) (row : Row) → Writes n (row_added table row) s (with_lines s (lines_inserted n table row s))
  insert_writes table row c among t r =
      ap (has r) (insert_shows (position n s) at c among t table row s.lines ∙ at_table (bit (position n s) c) (row_added table row (tables c s.lines)) (tables c s.lines) t)

  pub delete_writes : (table : ℕ) (p : Row → Bool) → Writes n (rows_removed table p) s (with_lines s (flat_map (deleted_line (position n s) table p) s.lines))
  delete_writes table p c among t r =
      let b = bit (position n s) c in
      let e = eqb table t in
      let q : Row → Bool = λ r. not (p r) in
      ap (has r)
      (each_shows t c c (λ rs. cond b (cond e (filter q rs) rs) rs) (nothing b e (filter q) refl) (in_parts b e (filter q) (filter-append q)) (deleted_line (position n s) table p)
      (delete_one (position n s) at c among t table p) s.lines
      ∙ at_table b (rows_removed table p (tables c s.lines)) (tables c s.lines) t)

  pub decide_decides : (commits : Bool) (ps : List ℕ) → Decides n commits s (record { capacity = s.capacity; first = s.first; next = s.next; pending = ps; lines = flat_map (decided_line (position n s) commits) s.lines })
  decide_decides commits ps c among t r =
      ap (has r) (each_shows t c _ (λ rs. rs) refl (λ xs ys. refl) (decided_line (position n s) commits) (decide_one (position n s) at c among t commits) s.lines)

  pub update_writes : (u : Rewrite) → u.position ≡ position n s → Writes n (rows_changed u.table u.passing u.changing) s (with_lines s (updated_lines u s.lines))
  update_writes u i c among t r =
      let b = bit (position n s) c in
      let e = eqb u.table t in
      let g : Row → Row = λ r. cond (u.passing r) (u.changing r) r in
      sym (shuffled_has t c r (flat_map (plainly_updated u) s.lines) (updated_lines u s.lines) (update_is_plain u s.lines))
      ∙ ap (has r)
      (each_shows t c c (λ rs. cond b (cond e (map g rs) rs) rs) (nothing b e (map g) refl) (in_parts b e (map g) (map-append g)) (plainly_updated u)
      (update_one (position n s) at c among t u i) s.lines
      ∙ at_table b (rows_changed u.table u.passing u.changing (tables c s.lines)) (tables c s.lines) t)
