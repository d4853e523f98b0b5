use Rattle.std.proofs.Common.{not, length, ap, ◌∙◌, rules}
use Rattle.std.specs.List.{flat_map}
use Rattle.std.proofs.lemmas.Iterator.{YieldsList-from_slice}
use Rattle.std.proofs.lemmas.Iterator.Consumers.{count_from_yields_List, YieldsList-from_filter}
use Rattle.book.specs.Lines.{seen, impossible, kept}
use Rattle.book.proofs.Making.{made_count}
use Rattle.book.proofs.Updating.{kept_one}
use Rattle.book.proofs.book.Book.count_possible.Goals as goal

pub returns : goal.returns
returns g c =
    let m = g.C.Condition.meaning in
    let ls = c.lines_in_use.result.now in
    count_from_yields_List c.filter.result _ c.count.ensures.ran
    (YieldsList-from_filter _ (λ l. not (impossible (seen m l))) (YieldsList-from_slice ls (cc)) c.filter.ensures.closure (λ l b q k. search rules))
    ∙ made_count (seen m) kept (λ f. not (impossible f)) kept_one ls
    ∙ ap (λ fs. length (flat_map kept fs)) c.lines_in_use.ensures
