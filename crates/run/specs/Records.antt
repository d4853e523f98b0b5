-- The records of a page: one byte of kind, then a body whose length the kind fixes.
use Rattle.std.specs.Prelude.{ℕ, ◌+◌, ◌*◌, cond, List, length, take, drop, Some, None, Ok, Err, Option, Result, ◌==◌, nat_le, slice_index, slice_range}
use Rattle.book.specs.declared.row.Row.{Row}
use Rattle.book.specs.declared.filter.RawFilter.{RawFilter}
use Rattle.book.specs.declared.change.RawChange.{RawChange}
use Rattle.run.specs.declared.calls.Call.{Call}
use Rattle.run.specs.declared.calls.Call.TheVariants.{Open, Insert, Delete, Update, Decide, Vote, Count}
use Rattle.run.specs.declared.calls.Kind.{Kind}
use Rattle.run.specs.declared.calls.Kind.TheVariants.{OpenKind, InsertKind, DeleteKind, UpdateKind, DecideKind, VoteKind, CountKind}
use Rattle.run.specs.declared.faults.PageFault.{PageFault}
use Rattle.run.specs.declared.faults.PageFault.TheVariants.{CutShort, UnknownKind}

-- the kind that a byte stands for
abbrev pub kind_of : ℕ → Option Kind
kind_of k =
    cond (k == 1) (Some OpenKind)
    (cond (k == 2) (Some InsertKind)
    (cond (k == 3) (Some DeleteKind)
    (cond (k == 4) (Some UpdateKind)
    (cond (k == 5) (Some DecideKind)
    (cond (k == 6) (Some VoteKind)
    (cond (k == 7) (Some CountKind)
    None))))))

-- how many bytes its body has
abbrev pub body_size : Kind → ℕ
body_size OpenKind = 0
body_size InsertKind = 21
body_size DeleteKind = 14
body_size UpdateKind = 20
body_size DecideKind = 5
body_size VoteKind = 4
body_size CountKind = 2

-- the number of four bytes, the highest first
abbrev pub number_of : List ℕ → ℕ
number_of b = slice_index b 0 * 16777216 + slice_index b 1 * 65536 + slice_index b 2 * 256 + slice_index b 3

abbrev pub row_of : List ℕ → Row
row_of b = record { first = number_of (slice_range b 0 4); second = number_of (slice_range b 4 8); third = number_of (slice_range b 8 12); fourth = number_of (slice_range b 12 16) }

abbrev pub filter_of : List ℕ → RawFilter
filter_of b = record { field = slice_index b 0; low = number_of (slice_range b 1 5); high = number_of (slice_range b 5 9) }

abbrev pub change_of : List ℕ → RawChange
change_of b = record { field = slice_index b 0; operation = slice_index b 1; amount = number_of (slice_range b 2 6) }

-- the call that a body stands for
abbrev pub call_of : Kind → List ℕ → Call
call_of OpenKind b = Open
call_of InsertKind b = Insert (number_of (slice_range b 0 4)) (slice_index b 4) (row_of (slice_range b 5 21))
call_of DeleteKind b = Delete (number_of (slice_range b 0 4)) (slice_index b 4) (filter_of (slice_range b 5 14))
call_of UpdateKind b = Update (number_of (slice_range b 0 4)) (slice_index b 4) (filter_of (slice_range b 5 14)) (change_of (slice_range b 14 20))
call_of DecideKind b = Decide (number_of (slice_range b 0 4)) (slice_index b 4)
call_of VoteKind b = Vote (number_of b)
call_of CountKind b = Count (slice_index b 0) (slice_index b 1)

-- the n bytes behind the kind of the record at a place
abbrev pub part : List ℕ → ℕ → ℕ → List ℕ
part page at n = take n (drop (at + 1) page)

-- a record of a kind, and the place behind it
abbrev pub of_kind : Option Kind → List ℕ → ℕ → Result (Call × ℕ) PageFault
of_kind None page at = Err UnknownKind
of_kind (Some k) page at =
    cond (nat_le (at + 1 + body_size k) (length page)) (Ok (call_of k (part page at (body_size k)), at + 1 + body_size k)) (Err CutShort)

-- the record at a place of the page
unfoldable pub decoded : List ℕ → ℕ → Result (Call × ℕ) PageFault
decoded page at = of_kind (kind_of (slice_index page at)) page at
