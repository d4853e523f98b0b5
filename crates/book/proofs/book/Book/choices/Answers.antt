use Rattle.std.proofs.Common.{length, arith, pow_mono}
use Rattle.std.proofs.lemmas.Nat.{one_shl, pow_pos}
use Rattle.book.proofs.book.Book.choices.Goals as goal

pub returns-clause-within : goal.returns-clause-within
returns-clause-within g c =
    let n = length c.as_slice.result.now in
    let few = c.as_slice.ensures.few in
    let shift = one_shl n 8 (omega (arith, few)) in
    (omega (arith, shift, pow_pos n), omega (arith, shift, pow_mono few))
