use Rattle.std.proofs.Common.{sym, ◌∙◌, rules, tests}
use Rattle.std.proofs.lemmas.Iterator.{YieldsList-from_slice}
use Rattle.std.proofs.lemmas.Iterator.Search.{any_from_yields_List}
use Rattle.book.specs.Lines.{seen}
use Rattle.book.specs.Tables.{same_row}
use Rattle.book.proofs.Counting.{stands_passing, any_row}
use Rattle.book.proofs.tables.View.has_row.Goals as goal

pub returns : goal.returns
returns g c =
    let v = seen g.C.Condition.meaning in
    let a = c.args in
    any_from_yields_List (stands_passing v a.self.table a.self.choice (λ x. same_row x a.row)) _ _ _ c.any.ensures.ran (YieldsList-from_slice a.lines.now cc) (λ x b q k. search (rules, tests))
    ∙ sym (any_row v a.self.table a.self.choice (λ x. same_row x a.row) a.lines.now)
