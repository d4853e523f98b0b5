-- What a condition means: it says of each choice of n positions whether it holds, and no beyond them.
use Rattle.std.specs.Prelude.{ℕ, zero, suc, ◌^◌, Bool, true, cond, not, ◌&&◌, nat_lt}
use Rattle.conditions.specs.Choices.{bit, same, source}

-- always: in every choice
abbrev pub everywhere : ℕ → ℕ → Bool
everywhere n c = nat_lt c (2 ^ n)

-- narrowed: where m holds and bit i of the choice is s; a position past the last leaves m as it is
unfoldable pub narrowing : ℕ → ℕ → Bool → (ℕ → Bool) → ℕ → Bool
narrowing n i s m c = m c && cond (nat_lt i n) (same s (bit i c)) true

-- decided: where m holds in the choice that c stands for; a position past the last leaves m as it is
unfoldable pub deciding : ℕ → ℕ → Bool → (ℕ → Bool) → ℕ → Bool
deciding n i s m c = cond (nat_lt i n) (everywhere n c && m (source n i s c)) (m c)

-- m holds at no number below k
unfoldable pub none_below : ℕ → (ℕ → Bool) → Bool
none_below zero m = true
none_below (suc k) m = not (m k) && none_below k m

-- impossible: in no choice
unfoldable pub nowhere : ℕ → (ℕ → Bool) → Bool
nowhere n m = none_below (2 ^ n) m
