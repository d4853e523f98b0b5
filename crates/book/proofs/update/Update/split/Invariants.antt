use Rattle.book.specs.Lines.{seen}
use Rattle.book.specs.Writes.{rewrite, stay_line, extra_line}
use Rattle.book.proofs.Splitting.{Splitting}
use Rattle.book.proofs.update.Update.split.Given as goal

abbrev pub invariant-loop-line : goal.invariant-loop-line
invariant-loop-line g l =
    Splitting (seen g.C.Condition.meaning) (stay_line (rewrite l.self)) (extra_line (rewrite l.self)) l.initial.lines l.lines l.initial.room l.room l.added l.line-index
