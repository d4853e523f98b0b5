use Rattle.std.proofs.Common.{◌∙◌, rules}
use Rattle.std.proofs.lemmas.Iterator.{YieldsList-from_slice}
use Rattle.std.proofs.lemmas.Iterator.Consumers.{count_from_yields_List, YieldsList-from_filter}
use Rattle.book.specs.Lines.{seen}
use Rattle.book.specs.Writes.{rewrite, forked, extra_line}
use Rattle.book.proofs.Making.{made_count}
use Rattle.book.proofs.Updating.{forked_one}
use Rattle.book.proofs.update.Update.count_forks.Goals as goal

pub returns : goal.returns
returns g c =
    let m = g.C.Condition.meaning in
    let u = rewrite c.args.self.now in
    count_from_yields_List c.filter.result _ c.count.ensures.ran
    (YieldsList-from_filter _ (λ l. forked u (seen m l)) (YieldsList-from_slice c.args.lines.now (cc)) c.filter.ensures.closure (λ l b q k. search rules))
    ∙ made_count (seen m) (extra_line u) (forked u) (forked_one u) c.args.lines.now
