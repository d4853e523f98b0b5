use Rattle.std.proofs.Common.{◌≡◌, ◌+◌, ◌≤◌, map, length}
use Rattle.book.specs.Lines.{seen}
use Rattle.book.specs.Tables.{row_count}
use Rattle.book.proofs.tables.View.count_rows.Given as goal

abbrev pub invariant-loop-line : goal.invariant-loop-line
invariant-loop-line g l =
    (l.count + row_count l.self.table l.self.choice (map (seen g.C.Condition.meaning) l.left) ≡ row_count l.self.table l.self.choice (map (seen g.C.Condition.meaning) l.lines))
    × (l.count + length l.left ≤ length l.lines)

abbrev pub decreases-loop-line : goal.decreases-loop-line
decreases-loop-line g l = length l.left
