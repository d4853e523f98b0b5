-- The masks of the positions so far.
use Rattle.std.proofs.Common.{◌≡◌, ℕ, ◌^◌, ◌<◌}
use Rattle.conditions.specs.Choices.{positions, bit}
use Rattle.conditions.specs.Kinds.{agreeing}
use Rattle.conditions.proofs.positions.Positions.mask.Given as goal

abbrev pub invariant-loop-number : goal.invariant-loop-number
invariant-loop-number l = (c : ℕ) → c < 2 ^ positions → bit c l.verdicts ≡ agreeing l.number l.commits l.self.bits c
