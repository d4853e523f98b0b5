use Rattle.std.proofs.Common.{arith, rules}
use lib.Bits.{or_lt}
use Rattle.conditions.proofs.Bits.{bit_of_or, bit_pow}
use Rattle.conditions.proofs.positions.Positions.with.Goals as goal

pub invariant_of-result : goal.invariant_of-result
invariant_of-result c = search (rules, or_lt 6)

pub returns : goal.returns
returns c j = grind (arith, bit_of_or, bit_pow)
