-- Lines as they are meant.
use Rattle.std.specs.Prelude.{◌≡◌, ℕ, Bool, true, cond, List, [], ◌∷◌, map, take, Some, None, Option}
use Rattle.conditions.specs.Choices.{positions}
use Rattle.conditions.specs.Meanings.{everywhere, narrowing, deciding, nowhere}
use Rattle.book.specs.declared.row.Row.{Row}
use Rattle.book.specs.declared.line.Line.{Line}

-- a row of a table, and the choices in which it holds: of a line, whatever its kind of condition, nothing else matters
pub record Fact : Type 0 where
  pub table : ℕ
  pub row : Row
  pub meaning : ℕ → Bool

-- in no choice
abbrev pub impossible : Fact → Bool
impossible f = nowhere positions f.meaning

-- a line, unless it is impossible
abbrev pub kept : Fact → List Fact
kept f = cond (impossible f) [] (f ∷ [])

-- over a kind of condition with the meaning m
module _ {C : Type 0} (m : C → ℕ → Bool) where
  abbrev pub seen : Line C → Fact
  seen l = record { table = l.table; row = l.row; meaning = m l.condition }

  -- the first n lines
  abbrev pub facts : ℕ → List (Line C) → List Fact
  facts n ls = map seen (take n ls)

  -- a line, if there is one
  abbrev pub shown : Option (Line C) → List Fact
  shown None = []
  shown (Some l) = seen l ∷ []

  -- what a step answers for a line is its new condition: that line, unless it is impossible, is what becomes of it as it is meant
  abbrev pub Makes : (Line C → C → Type 0) → (Fact → List Fact) → Type 0
  Makes answers becomes = (l : Line C) (c : C) → answers l c → becomes (seen l) ≡ kept (seen (record { table = l.table; row = l.row; condition = c }))

-- a line, where the transaction at position i ends as s
abbrev pub ending : ℕ → Bool → Fact → Fact
ending i s f = record { table = f.table; row = f.row; meaning = narrowing positions i s f.meaning }

-- a line that holds when the transaction at position i commits
abbrev pub inserted_line : ℕ → ℕ → Row → Fact
inserted_line i table row = record { table = table; row = row; meaning = narrowing positions i true (everywhere positions) }

-- what is left of a line where position i is decided as s
abbrev pub decided_line : ℕ → Bool → Fact → List Fact
decided_line i s f = kept (record { table = f.table; row = f.row; meaning = deciding positions i s f.meaning })
