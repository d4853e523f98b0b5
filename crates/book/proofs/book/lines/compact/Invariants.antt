use Rattle.book.specs.Lines.{seen, Makes}
use Rattle.book.proofs.Compacting.{Compacting}
use Rattle.book.proofs.book.lines.compact.Given as goal

abbrev pub invariant-loop-at : goal.invariant-loop-at
invariant-loop-at g l = Compacting (seen g.C.Condition.meaning) (Makes g.C.Condition.meaning (goal.F-post g l.step)) l.initial.lines l.lines l.count l.at
