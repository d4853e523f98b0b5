use Rattle.std.proofs.Common.{arith}
use Rattle.std.proofs.lemmas.List.{take_more_set}
use Rattle.book.proofs.pending.Pending.add.Goals as goal

pub returns : goal.returns
returns c =
    let p = c.args.self.now in
    take_more_set p.numbers p.count c.args.number (omega (arith, p.size))
