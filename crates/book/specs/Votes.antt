-- Votes: whether a transaction can commit and leave no shot without its cue.
use Rattle.std.specs.Prelude.{◌≡◌, ℕ, ◌<◌, Bool, true, false, not, List, Some, None, Option, ◌==◌}
use Rattle.std.specs.List.{find, list_any, range_with_len}
use Rattle.book.specs.declared.row.Row.{Row}
use Rattle.book.specs.declared.vote.Vote.{Vote}
use Rattle.book.specs.declared.vote.Vote.TheVariants.{Yes, No}
use Rattle.book.specs.Lines.{Fact}
use Rattle.book.specs.Tables.{rows}

-- some row has this cue number
abbrev pub has_cue : ℕ → List Row → Bool
has_cue cue rs = list_any (λ r. r.first == cue) rs

-- a shot whose cue is not among the music cues
abbrev pub orphan : Row → List Row → Bool
orphan shot cues = not (has_cue shot.first cues)

abbrev pub some_orphan : List Row → List Row → Bool
some_orphan shots cues = list_any (λ shot. orphan shot cues) shots

-- the firing script has an orphan under the choice
unfoldable pub orphaned : ℕ → List Fact → Bool
orphaned c fs = some_orphan (rows 1 c fs) (rows 2 c fs)

-- the lowest number below k that passes the test
unfoldable pub lowest_below : ℕ → (ℕ → Bool) → Option ℕ
lowest_below k test = find test (range_with_len 0 k)

-- yes where no choice speaks against it, else no with that choice
abbrev pub vote_on : Option ℕ → Vote
vote_on None = Yes
vote_on (Some c) = No c

-- What a vote says of n choices, where `against` are those that speak against it: yes, none of them does; or no, this is
-- the lowest that does.
abbrev pub Says : Vote → ℕ → (ℕ → Bool) → Type 0
Says Yes n against = (c : ℕ) → c < n → against c ≡ false
Says (No c) n against = (c < n) × (against c ≡ true) × ((d : ℕ) → d < c → against d ≡ false)
