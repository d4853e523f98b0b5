-- When the two kinds of condition hold.
use Rattle.std.specs.Prelude.{ℕ, zero, suc, ◌+◌, Bool, true, false, cond, ◌&&◌, nat_lt}
use Rattle.conditions.specs.Choices.{bit, same}
use Rattle.conditions.specs.Meanings.{everywhere}

-- the truth set of these verdicts, one bit for each choice
unfoldable pub in_set : ℕ → ℕ → ℕ → Bool
in_set n verdicts c = everywhere n c && bit c verdicts

-- f at every number below k
abbrev pub all_below : ℕ → (ℕ → Bool) → Bool
all_below zero f = true
all_below (suc k) f = f k && all_below k f

-- where a holds, so does b
abbrev pub implied : Bool → Bool → Bool
implied true b = b
implied false b = true

-- every position of the set ends as s in the choice c
unfoldable pub agreeing : ℕ → Bool → ℕ → ℕ → Bool
agreeing n s set c = all_below n (λ i. implied (bit i set) (same s (bit i c)))

-- the signed pair of these two sets, one bit for each position: those of the first commit, and those of the second abort
unfoldable pub in_pair : ℕ → ℕ → ℕ → ℕ → Bool
in_pair n committing aborting c = everywhere n c && (agreeing n true committing c && agreeing n false aborting c)

-- without position i, those above it moved down by one: where the one at j comes from
abbrev pub skipping : ℕ → ℕ → ℕ
skipping i j = cond (nat_lt j i) j (j + 1)

-- the set whose positions end otherwise than s
abbrev pub contradicting : Bool → ℕ → ℕ → ℕ
contradicting true committing aborting = aborting
contradicting false committing aborting = committing
