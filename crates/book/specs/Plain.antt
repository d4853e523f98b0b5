-- Plain tables: what the writes mean, with no transactions, no memory and no refusals.
use Rattle.std.specs.Prelude.{◌≡◌, ℕ, ◌^◌, ◌<◌, Bool, cond, not, List, [], ◌∷◌, ◌++◌, map, filter as kept_by, ◌==◌}
use Rattle.std.specs.List.{flat_map}
use Rattle.std.specs.List.Sorted.{IsPermutation}
use Rattle.conditions.specs.Choices.{positions, bit, source}
use Rattle.book.specs.declared.row.Row.{Row}
use Rattle.book.specs.Lines.{Fact}
use Rattle.book.specs.Tables.{rows, has}
use Rattle.book.specs.declared.filter.RawFilter.{RawFilter}
use Rattle.book.specs.declared.change.RawChange.{RawChange}
use Rattle.book.specs.Filters.{passes, changed}
use Rattle.book.specs.Writes.{plainly_updated}
use Rattle.book.specs.Calls.{State, position, rewrite_of}

-- the rows of each table, as sets
abbrev pub Tables : Type 0
Tables = ℕ → List Row

-- order and repetition do not matter
abbrev pub SameRows : Tables → Tables → Type 0
SameRows a b = (table : ℕ) (r : Row) → has r (a table) ≡ has r (b table)

-- Insert adds the row
abbrev pub row_added : ℕ → Row → Tables → Tables
row_added table r a t = cond (table == t) (a t ++ r ∷ []) (a t)

-- Delete removes the rows that pass
abbrev pub rows_removed : ℕ → (Row → Bool) → Tables → Tables
rows_removed table passing a t = cond (table == t) (kept_by (λ r. not (passing r)) (a t)) (a t)

-- Update replaces each row that passes by its changed row, all together
abbrev pub rows_changed : ℕ → (Row → Bool) → (Row → Row) → Tables → Tables
rows_changed table passing changing a t = cond (table == t) (map (λ r. cond (passing r) (changing r) r) (a t)) (a t)

-- the book's tables under a choice
abbrev pub tables : ℕ → List Fact → Tables
tables c fs t = rows t c fs

-- A write of the transaction n took the book s to t: under every choice it did what plain tables would do if the
-- transaction commits in it, and otherwise nothing.
abbrev pub Writes : ℕ → (Tables → Tables) → State → State → Type 0
Writes n write s t =
    (c : ℕ) → c < 2 ^ positions →
    SameRows (tables c t.lines) (cond (bit (position n s) c) (write (tables c s.lines)) (tables c s.lines))

-- A decision on the transaction n took the book s to t: under every choice it left what stood under the choice of before.
abbrev pub Decides : ℕ → Bool → State → State → Type 0
Decides n commits s t =
    (c : ℕ) → c < 2 ^ positions → SameRows (tables c t.lines) (tables (source positions (position n s) commits c) s.lines)

-- An Update: its lines, too, are those of the plain sentence, in some order.
pub record Updates (n table : ℕ) (filter : RawFilter) (change : RawChange) (s t : State) : Type 0 where
  pub writes : Writes n (rows_changed table (passes filter) (changed change)) s t
  pub reordered : IsPermutation (flat_map (plainly_updated (rewrite_of n table filter change s)) s.lines) t.lines
