-- A page run on a book.
use Rattle.std.specs.Prelude.{◌≡◌, ℕ, zero, suc, max, Bool, cond, List, [], ◌∷◌, length, drop, Ok, Err, fold, Result, nat_lt, slice_index}
use Rattle.book.specs.declared.line.Line.{Line}
use Rattle.book.specs.declared.book.Book.{Book}
use Rattle.book.specs.declared.faults.BookFault.{BookFault}
use Rattle.book.specs.Lines.{facts}
use Rattle.book.specs.Books.{state, reach, SameMemory, Possible}
use Rattle.book.specs.Calls.{State, fresh, Effect, reply, after, opened, inserted, deleted, updated, decided, voted, counted}
use Rattle.run.specs.declared.calls.Call.{Call}
use Rattle.run.specs.declared.calls.Call.TheVariants.{Open, Insert, Delete, Update, Decide, Vote, Count}
use Rattle.run.specs.declared.calls.Answer.{Answer}
use Rattle.run.specs.declared.calls.Answer.TheVariants.{Opened, Lines, Voted, Rows}
use Rattle.run.specs.declared.faults.PageFault.{PageFault}
use Rattle.run.specs.declared.faults.RunFault.{RunFault}
use Rattle.run.specs.declared.faults.RunFault.TheVariants.{OnPage, InBook}
use Rattle.run.specs.declared.faults.Reply.{Reply}
use Rattle.run.specs.declared.records.Record.{Record}
use Rattle.run.specs.Records.{decoded}

-- the same call, with its answer under another name
abbrev pub answering : {A B : Type 0} → (A → B) → Effect A → Effect B
answering f e = record { grounds = e.grounds; answer = λ s. f (e.answer s); leaves = e.leaves }

-- what a call does to a book
abbrev pub effect : Call → Effect Answer
effect Open = answering Opened opened
effect (Insert number table row) = answering Lines (inserted number table row)
effect (Delete number table filter) = answering Lines (deleted number table filter)
effect (Update number table filter change) = answering Lines (updated number table filter change)
effect (Decide number word) = answering Lines (decided number word)
effect (Vote number) = answering Voted (voted number)
effect (Count table choice) = answering Rows (counted table choice)

-- a record of a page: its place, its kind, and what was read
abbrev pub record_at : List ℕ → ℕ → Record
record_at page at = record { place = at; kind = slice_index page at; read = decoded page at }

-- where the next record begins: one that cannot be read is the last
abbrev pub next_of : List ℕ → Result (Call × ℕ) PageFault → ℕ
next_of page (Ok done) = done.1
next_of page (Err e) = length page

-- the records from a place on, at most n of them
unfoldable pub records_from : ℕ → List ℕ → ℕ → List Record
records_from zero page at = []
records_from (suc n) page at = cond (nat_lt at (length page)) (record_at page at ∷ records_from n page (next_of page (decoded page at))) []

-- all the records from a place on: each takes a byte or more
abbrev pub records_within : List ℕ → ℕ → List Record
records_within page at = records_from (length page) page at

abbrev pub records : List ℕ → List Record
records page = records_within page 0

-- what is told of a call
abbrev pub told : ℕ → ℕ → Result Answer BookFault → Result Answer RunFault
told place kind (Ok answer) = Ok answer
told place kind (Err e) = Err (InBook (record { place = place; kind = kind; fault = e }))

abbrev pub outcome_of : ℕ → ℕ → Result (Call × ℕ) PageFault → State → Result Answer RunFault
outcome_of place kind (Ok done) s = told place kind (reply (effect done.0) s)
outcome_of place kind (Err e) s = Err (OnPage (record { place = place; kind = kind; fault = e }))

-- the book after a record: one that cannot be read leaves it
abbrev pub left_by : State → Result (Call × ℕ) PageFault → State
left_by s (Ok done) = after (effect done.0) s
left_by s (Err e) = s

-- the reply to a record
abbrev pub reply_to : Record → State → Reply
reply_to r s = record { place = r.place; kind = r.kind; outcome = outcome_of r.place r.kind r.read s }

unfoldable pub replies : List Record → State → List Reply
replies [] s = []
replies (r ∷ rs) s = reply_to r s ∷ replies rs (left_by s r.read)

-- the book after all of them
unfoldable pub final : List Record → State → State
final rs s = fold (λ s r. left_by s r.read) s rs

-- the most lines that are in use at any time of a run
unfoldable pub peak : List Record → State → ℕ
peak [] s = length s.lines
peak (r ∷ rs) s = max (length s.lines) (peak rs (left_by s r.read))

-- over a kind of condition with the meaning m
module _ {C : Type 0} (m : C → ℕ → Bool) where
  -- A record was taken from the book a to b.
  pub record Taken (read : Result (Call × ℕ) PageFault) (a b : Book C) : Type 0 where
    pub leaves : state m b ≡ left_by (state m a) read
    pub beyond : drop (reach m a b) b.lines.now ≡ drop (reach m a b) a.lines.now
    pub possible : Possible (state m a) → Possible (state m b)
    pub lender : SameMemory m a b

  -- A page was run from the book a to b, with these replies: places that were in use at no time hold what they held.
  pub record Paged (page : List ℕ) (a b : Book C) (rs : List Reply) : Type 0 where
    pub answers : rs ≡ replies (records page) (state m a)
    pub leaves : state m b ≡ final (records page) (state m a)
    pub beyond : drop (peak (records page) (state m a)) b.lines.now ≡ drop (peak (records page) (state m a)) a.lines.now
    pub possible : Possible (state m a) → Possible (state m b)
    pub lender : SameMemory m a b

  -- A page was run on a new book in the memory xs, which became ys.
  pub record LeftIn (page : List ℕ) (first : ℕ) (xs ys : List (Line C)) : Type 0 where
    pub lines : facts m (length (final (records page) (fresh (length xs) first)).lines) ys ≡ (final (records page) (fresh (length xs) first)).lines
    pub beyond : drop (peak (records page) (fresh (length xs) first)) ys ≡ drop (peak (records page) (fresh (length xs) first)) xs
