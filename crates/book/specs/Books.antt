-- A book in memory, and what every call promises of it.
use Rattle.std.specs.Prelude.{◌≡◌, ℕ, ◌^◌, ◌<◌, max, Bool, false, List, length, drop, IfOk, Ok, Err, Result}
use Rattle.std.specs.List.{AllByRecursion}
use Rattle.book.specs.declared.book.Book.{Book}
use Rattle.book.specs.declared.faults.BookFault.{BookFault}
use Rattle.book.specs.declared.faults.BookFault.TheVariants.{NoRoom}
use Rattle.book.specs.Numbers.{held}
use Rattle.book.specs.Lines.{Fact, facts, impossible}
use Rattle.book.specs.declared.vote.Vote.{Vote}
use Rattle.book.specs.Votes.{Says}
use Rattle.book.specs.Calls.{State, Effect, reply, after, Told, voted, speaks_against}

-- no line in use is impossible
abbrev pub Possible : State → Type 0
Possible s = AllByRecursion (λ f. impossible f ≡ false) s.lines

-- over a kind of condition with the meaning m
module _ {C : Type 0} (m : C → ℕ → Bool) where
  -- the lines in use are the first of the memory
  abbrev pub in_use : Book C → List Fact
  in_use b = facts m b.used b.lines.now

  -- a book as it is meant
  abbrev pub state : Book C → State
  state b = record {
    capacity = length b.lines.now;
    first = b.first;
    next = b.next;
    pending = held b.pending;
    lines = in_use b;
  }

  -- both stand on the memory of one lender
  abbrev pub SameMemory : Book C → Book C → Type 0
  SameMemory a b = b.lines.ghost_name ≡ a.lines.ghost_name

  -- the places that are in use in a or in b
  abbrev pub reach : Book C → Book C → ℕ
  reach a b = max (length (state a).lines) (length (state b).lines)

  -- A write took the lines of the book a to those of b.
  --   lines    now fs are in use
  --   size     the memory is as large as it was
  --   numbers  nothing else of the book has changed
  --   beyond   places in use neither before nor after hold what they held
  --   lender   the book stays on the memory that it was lent
  pub record Became (fs : List Fact) (a b : Book C) : Type 0 where
    pub lines : in_use b ≡ fs
    pub size : length b.lines.now ≡ length a.lines.now
    pub numbers : (b.first ≡ a.first) × (b.next ≡ a.next) × (b.pending ≡ a.pending)
    pub beyond : drop (max a.used b.used) b.lines.now ≡ drop (max a.used b.used) a.lines.now
    pub lender : SameMemory a b

  -- A write that leaves fs, where there is room for them; where there is none, it writes nothing and says so.
  abbrev pub Fitted : List Fact → Book C → Book C → Result (Unit {0}) BookFault → Type 0
  Fitted fs a b (Ok _) = Became fs a b
  Fitted fs a b (Err e) = (e ≡ NoRoom) × (length a.lines.now < length fs) × (b ≡ a)

  -- A call took the book a to b, and answered r.
  --   answers   the reply is the one defined, and
  --   leaves    so is the book: its numbers, and its lines in their order
  --   told      the smallest number wins, and nothing else is refused
  --   refused   a refusal leaves the book and the whole memory as they were
  --   beyond    places that are in use neither before nor after hold what they held
  --   possible  no line becomes impossible
  --   lender    the book stays on the memory that it was lent
  pub record Called {A : Type 0} (e : Effect A) (a b : Book C) (r : Result A BookFault) : Type 0 where
    pub answers : r ≡ reply e (state a)
    pub leaves : state b ≡ after e (state a)
    pub told : Told (e.grounds (state a)) r
    pub refused : (f : BookFault) → r ≡ Err f → b ≡ a
    pub beyond : drop (reach a b) b.lines.now ≡ drop (reach a b) a.lines.now
    pub possible : Possible (state a) → Possible (state b)
    pub lender : SameMemory a b

  -- A call that also means this of the book before and after it, where it is accepted.
  pub record Performed {A : Type 0} (e : Effect A) (meaning : State → State → Type 0) (a b : Book C) (r : Result A BookFault) : Type 0 where
    pub called : Called e a b r
    pub plainly : IfOk r (λ _. meaning (state a) (state b))

  -- A call that only reads the book answered r.
  pub record Answered {A : Type 0} (e : Effect A) (b : Book C) (r : Result A BookFault) : Type 0 where
    pub answers : r ≡ reply e (state b)
    pub told : Told (e.grounds (state b)) r

  -- A vote on the transaction n answered r: where it is accepted, it says this of the choices of the pending ones.
  pub record Polled (n : ℕ) (b : Book C) (r : Result Vote BookFault) : Type 0 where
    pub answered : Answered (voted n) b r
    pub plainly : IfOk r (λ v. Says v (2 ^ length (state b).pending) (speaks_against n (state b)))
