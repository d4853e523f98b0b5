-- Choices: how the pending transactions end.
-- A choice is a number. Its bit i, worth 2 ^ i, is 1 where the transaction at position i commits, and 0 where it aborts.
use Rattle.std.specs.Prelude.{◌≡◌, ℕ, ◌+◌, ◌*◌, ◌/◌, ◌%◌, ◌^◌, ◌<◌, Bool, true, false, not, ◌==◌}

-- How many positions there are. Every other limit on choices follows from it; the facts about choices are argued for any number.
abbrev pub positions : ℕ
positions = 6

-- bit i of a number
abbrev pub bit : ℕ → ℕ → Bool
bit i c = c / 2 ^ i % 2 == 1

-- the word v has a bit for each choice of n positions, which says what m says of it
abbrev pub Tells : ℕ → ℕ → (ℕ → Bool) → Type 0
Tells n v m = (c : ℕ) → c < 2 ^ n → bit c v ≡ m c

-- the bit b is s
abbrev pub same : Bool → Bool → Bool
same true b = b
same false b = not b

-- 1 for commits, 0 for aborts
abbrev pub worth : Bool → ℕ
worth true = 1
worth false = 0

-- Position i of n is decided as s, and the later positions close up: the choice c then stands for this one of before.
unfoldable pub source : ℕ → ℕ → Bool → ℕ → ℕ
source n i s c = c % 2 ^ i + worth s * 2 ^ i + c / 2 ^ i * 2 ^ (i + 1) % 2 ^ n
