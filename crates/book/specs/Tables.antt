-- Tables under a choice.
use Rattle.std.specs.Prelude.{ℕ, Bool, cond, ◌&&◌, List, [], ◌∷◌, map, filter, length, ◌==◌}
use Rattle.std.specs.List.{list_any}
use Rattle.book.specs.declared.row.Row.{Row}
use Rattle.book.specs.Lines.{Fact}

abbrev pub same_row : Row → Row → Bool
same_row a b = a.first == b.first && (a.second == b.second && (a.third == b.third && a.fourth == b.fourth))

-- a line of the table holds under the choice
abbrev pub stands : ℕ → ℕ → Fact → Bool
stands table choice f = f.table == table && f.meaning choice

-- the rows of a table under a choice, one for each line
abbrev pub rows : ℕ → ℕ → List Fact → List Row
rows table choice fs = map (λ f. f.row) (filter (stands table choice) fs)

abbrev pub has : Row → List Row → Bool
has r rs = list_any (λ x. same_row x r) rs

-- each row once
abbrev pub distinct : List Row → List Row
distinct [] = []
distinct (r ∷ rs) = cond (has r rs) (distinct rs) (r ∷ distinct rs)

-- how many distinct rows a table has under a choice
unfoldable pub row_count : ℕ → ℕ → List Fact → ℕ
row_count table choice fs = length (distinct (rows table choice fs))
