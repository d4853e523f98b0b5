use Rattle.std.proofs.Common.{rules}
use Rattle.run.specs.declared.calls.Answer.TheVariants.{Opened, Lines}
use Rattle.run.proofs.Relabelling.{called_as}
use Rattle.run.proofs.performing.perform.Goals as goal

pub returns-in-Open : goal.returns-in-Open
returns-in-Open g c = rw c.in-Open.is (called_as Opened g.C.Condition.meaning c.open.ensures (search rules))

pub returns-in-Insert : goal.returns-in-Insert
returns-in-Insert g c = rw c.in-Insert.is (called_as Lines g.C.Condition.meaning c.insert.ensures.called (search rules))

pub returns-in-Delete : goal.returns-in-Delete
returns-in-Delete g c = rw c.in-Delete.is (called_as Lines g.C.Condition.meaning c.delete.ensures.called (search rules))

pub returns-in-Update : goal.returns-in-Update
returns-in-Update g c = rw c.in-Update.is (called_as Lines g.C.Condition.meaning c.update.ensures.called (search rules))
