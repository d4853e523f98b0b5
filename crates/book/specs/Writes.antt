-- What becomes of the lines under a Delete or an Update.
use Rattle.std.specs.Prelude.{ℕ, Bool, true, false, cond, not, ◌&&◌, List, [], ◌++◌, map, ◌==◌}
use Rattle.std.specs.List.{flat_map}
use Rattle.conditions.specs.Choices.{positions}
use Rattle.conditions.specs.Meanings.{narrowing}
use Rattle.book.specs.declared.row.Row.{Row}
use Rattle.book.specs.declared.update.Update.{Update}
use Rattle.book.specs.Filters.{passes_checked, changed_checked}
use Rattle.book.specs.Lines.{Fact, impossible, kept, ending}

-- a line of the table whose row passes
abbrev pub touched : ℕ → (Row → Bool) → Fact → Bool
touched table passing f = f.table == table && passing f.row

-- Delete: a line that passes holds where the transaction aborts; whatever is impossible is dropped
abbrev pub deleted_line : ℕ → ℕ → (Row → Bool) → Fact → List Fact
deleted_line i table passing f = kept (cond (touched table passing f) (ending i false f) f)

-- an Update: the position of its transaction, the table, the rows that pass, and what they become
pub record Rewrite : Type 0 where
  pub position : ℕ
  pub table : ℕ
  pub passing : Row → Bool
  pub changing : Row → Row

-- one in memory, its filter and its change checked
abbrev pub rewrite : Update → Rewrite
rewrite u = record { position = u.position; table = u.selection.table; passing = passes_checked u.selection.filter; changing = changed_checked u.change }

module _ (u : Rewrite) where
  abbrev pub rewritten : Fact → Bool
  rewritten f = touched u.table u.passing f

  -- a line where the transaction aborts, and its copy with the changed row where it commits
  abbrev pub original : Fact → Fact
  original f = ending u.position false f

  abbrev pub copy : Fact → Fact
  copy f = record { table = f.table; row = u.changing f.row; meaning = narrowing positions u.position true f.meaning }

  -- The plain sentence: a line that passes gives the original and a copy, another stays; whatever is impossible is dropped.
  abbrev pub plainly_updated : Fact → List Fact
  plainly_updated f = cond (rewritten f) (kept (original f) ++ kept (copy f)) (kept f)

  -- The order in which they stand: first the impossible lines go.
  -- Then each line keeps its place, or gives it to its copy where the original is impossible,
  abbrev pub stay_line : Fact → Fact
  stay_line f = cond (rewritten f) (cond (impossible (original f)) (copy f) (original f)) f

  -- and the other copies stand behind all lines.
  abbrev pub extra_line : Fact → List Fact
  extra_line f = cond (rewritten f) (cond (impossible (original f)) [] (kept (copy f))) []

  -- A line makes two where it is touched, and both are possible.
  abbrev pub forked : Fact → Bool
  forked f = rewritten f && (not (impossible (original f)) && not (impossible (copy f)))

  unfoldable pub split_lines : List Fact → List Fact
  split_lines fs = map stay_line fs ++ flat_map extra_line fs

  unfoldable pub updated_lines : List Fact → List Fact
  updated_lines fs = split_lines (flat_map kept fs)
