use Rattle.std.proofs.Common.{rules}
use Rattle.std.proofs.lemmas.Nat.{pow_below}
use Rattle.conditions.proofs.positions.Position.step.Goals as goal

pub returns-clause-among : goal.returns-clause-among
returns-clause-among c = search (rules, pow_below)
