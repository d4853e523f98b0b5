use Rattle.std.proofs.Common.{rules}
use Rattle.conditions.proofs.Sources.{closed_bit}
use Rattle.conditions.proofs.positions.Positions.closed_up.Goals as goal

pub returns : goal.returns
returns c j = search (rules, closed_bit)
