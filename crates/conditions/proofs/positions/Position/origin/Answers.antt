-- What is moved up by one loses the bit that leaves the last position.
use Rattle.std.proofs.Common.{◌≡◌, ℕ, ◌+◌, ◌-◌, ◌*◌, ◌%◌, ◌^◌, Bool, arith}
use Rattle.std.proofs.lemmas.Nat.{pow-add, shr_split}
use Rattle.conditions.specs.Choices.{positions, worth, source}
use Rattle.conditions.proofs.positions.Position.origin.Goals as goal

moved : (i : ℕ) (s : Bool) (c : ℕ) → c % 2 ^ i + worth s * 2 ^ i + (c - c % 2 ^ i) % 32 * 2 ≡ source positions i s c
unfolding source
moved i s c = rw (pow-add 2 i 1) (omega (arith, shr_split c i))

pub returns : goal.returns
returns c = grind (arith, moved)
