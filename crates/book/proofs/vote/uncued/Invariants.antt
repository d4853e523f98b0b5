use Rattle.std.proofs.Common.{◌≡◌, ℕ, ◌^◌, ◌<◌, not, ◌&&◌, map}
use Rattle.std.specs.Iterator.Adapters.{rev_source}
use Rattle.std.specs.Slice.Iter.{iter_rest}
use Rattle.conditions.specs.Choices.{positions, bit}
use Rattle.book.specs.Lines.{seen}
use Rattle.book.specs.Tables.{rows}
use Rattle.book.specs.Votes.{has_cue}
use Rattle.book.proofs.vote.uncued.Given as goal

abbrev pub invariant-loop-line : goal.invariant-loop-line
invariant-loop-line g l =
    (c : ℕ) → c < 2 ^ positions →
    (bit c l.left && not (has_cue l.cue (rows 2 c (map (seen g.C.Condition.meaning) (iter_rest (rev_source l.line-iterator))))))
    ≡ (bit c l.choices && not (has_cue l.cue (rows 2 c (map (seen g.C.Condition.meaning) l.lines))))
