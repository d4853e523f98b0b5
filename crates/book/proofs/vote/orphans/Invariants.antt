use Rattle.std.proofs.Common.{◌≡◌, ℕ, ◌^◌, ◌<◌, ◌&&◌, map, take}
use Rattle.conditions.specs.Choices.{positions, bit}
use Rattle.book.specs.Lines.{seen}
use Rattle.book.specs.Tables.{rows}
use Rattle.book.specs.Votes.{some_orphan}
use Rattle.book.proofs.vote.orphans.Given as goal

abbrev pub invariant-loop-at : goal.invariant-loop-at
invariant-loop-at g l =
    (c : ℕ) → c < 2 ^ positions →
    bit c l.found ≡ (bit c l.choices && some_orphan (rows 1 c (map (seen g.C.Condition.meaning) (take l.at l.lines))) (rows 2 c (map (seen g.C.Condition.meaning) l.lines)))
