use Rattle.std.proofs.Common.{◌+◌, ◌-◌, ◌^◌, arith}
use Rattle.std.proofs.lemmas.Bool.Decides.{nat_tests}
use Rattle.conditions.proofs.Bits.{bit_shr, bit_ones, bit_past}
use Rattle.book.proofs.vote.first_choices.Goals as goal

pub returns : goal.returns
returns c k =
    let n = c.args.count in
    grind (arith, nat_tests, bit_shr k (64 - n) (2 ^ 64 - 1), bit_ones 64 (k + (64 - n)), bit_past 64 (k + (64 - n)) (2 ^ 64 - 1))
