use Rattle.book.proofs.Calling.{held_few}
use Rattle.book.proofs.pending.Pending.as_slice.Goals as goal

pub returns-clause-few : goal.returns-clause-few
returns-clause-few c = held_few c.args.self.now
