use Rattle.std.proofs.Common.{map, ap, arith}
use Rattle.std.proofs.lemmas.List.{nil_from_length}
use Rattle.book.specs.Lines.{seen}
use Rattle.book.specs.Tables.{row_count}
use Rattle.book.proofs.Counting.{count_more}
use Rattle.book.proofs.tables.View.count_rows.Goals as goal

pub loop-line-preserved : goal.loop-line-preserved
loop-line-preserved g c =
    let p = c.in-Some.ensures.cases in
    let step = count_more (seen g.C.Condition.meaning) c.args.self.table c.args.self.choice c.in-Some.line.now c.in-Some.rest.now c.loop-line.left.now c.is_last.result p.0 c.is_last.ensures in
    (grind (arith, step, c.from-count.ensures, c.loop-line.invariant.0), grind (arith, p.1, c.from-count.ensures, c.loop-line.invariant.1))

pub returns : goal.returns
unfolding row_count
returns g c =
    let left = ap (λ ls. row_count c.args.self.table c.args.self.choice (map (seen g.C.Condition.meaning) ls)) (nil_from_length c.loop-line.left.now c.in_default.ensures.cases) in
    omega (arith, left, c.loop-line.invariant.0)
