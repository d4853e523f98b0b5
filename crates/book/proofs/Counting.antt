-- Looking for a row, and counting distinct rows, line by line.
use Rattle.std.proofs.Common.{◌≡◌, ℕ, ◌+◌, Bool, cond, not, ◌&&◌, List, [], ◌∷◌, map, refl, arith}
use Rattle.std.specs.List.{list_any}
use Rattle.book.specs.declared.row.Row.{Row}
use Rattle.book.specs.Lines.{Fact}
use Rattle.book.specs.Tables.{stands, rows, has, row_count}

-- a row of the table passes a test where a line that stands in it has such a row
module _ {X : Type 0} (v : X → Fact) (table choice : ℕ) (p : Row → Bool) where
  abbrev pub stands_passing : X → Bool
  stands_passing x = stands table choice (v x) && p (v x).row

  pub any_row : (xs : List X) → list_any p (rows table choice (map v xs)) ≡ list_any stands_passing xs
  any_row [] = refl
  any_row (x ∷ xs) =
      let rest = any_row xs in
      grind arith

-- one line more: it counts where no line behind it shows its row
pub count_more : {X : Type 0} (v : X → Fact) (table choice : ℕ) (x : X) (xs ys : List X) (b : Bool) → ys ≡ x ∷ xs
    → b ≡ (stands table choice (v x) && not (has (v x).row (rows table choice (map v xs)))) → row_count table choice (map v ys) ≡ cond b 1 0 + row_count table choice (map v xs)
unfolding row_count
count_more v table choice x xs ys b whole e = rw whole (grind arith)
