use Rattle.std.proofs.Common.{◌∙◌, arith, rules}
use Rattle.conditions.specs.Choices.{positions}
use Rattle.conditions.specs.Kinds.{agreeing}
use Rattle.conditions.proofs.Bits.{bit_of_and, bit_ones}
use Rattle.conditions.proofs.SignedPairs.{agreeing_more, agreeing_rest}
use Rattle.conditions.proofs.positions.Positions.mask.Goals as goal

pub loop-number-init : goal.loop-number-init
unfolding agreeing
loop-number-init c k h = search (bit_ones 64)

pub loop-number-preserved : goal.loop-number-preserved
loop-number-preserved c k h = search (rules, agreeing_more, bit_of_and)

pub returns-then-self-number-eq0 : goal.returns-then-self-number-eq0
returns-then-self-number-eq0 c k h =
    c.loop-number.invariant k h
    ∙ agreeing_rest c.loop-number.number positions c.args.commits c.args.self.bits k c.if-self-number-eq0.true (omega arith)
