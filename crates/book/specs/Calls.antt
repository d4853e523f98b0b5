-- What each call of a book answers, on which grounds it is refused, and how it leaves the book.
use Rattle.std.specs.Prelude.{◌≡◌, ℕ, ◌^◌, ◌≤◌, Bool, true, false, cond, not, ◌&&◌, ◌||◌, List, [], ◌∷◌, ◌++◌, length, is_some, Some, None, Ok, Err, Option, Result, ◌==◌, nat_le, nat_lt}
use Rattle.std.specs.List.{flat_map, ContainsAt, AllByRecursion}
use Rattle.conditions.specs.Choices.{positions, bit}
use Rattle.book.specs.declared.row.Row.{Row}
use Rattle.book.specs.declared.filter.RawFilter.{RawFilter}
use Rattle.book.specs.declared.change.RawChange.{RawChange}
use Rattle.book.specs.declared.vote.Vote.{Vote}
use Rattle.book.specs.declared.faults.BookFault.{BookFault}
use Rattle.book.specs.declared.faults.BookFault.TheVariants.{GarbledWord, NotPending, NoTable, BadFilter, BadChange, BadChoice, TooManyPending, NumbersSpent, NoRoom, BadMaking}
use Rattle.book.specs.Faults.{refusal}
use Rattle.book.specs.Filters.{passes, good_filter, filter_fault, changed, good_change, change_fault}
use Rattle.book.specs.Numbers.{place, others, following}
use Rattle.book.specs.Lines.{Fact, inserted_line, decided_line}
use Rattle.book.specs.Writes.{Rewrite, deleted_line, updated_lines}
use Rattle.book.specs.Tables.{row_count}
use Rattle.book.specs.Votes.{orphaned, lowest_below, vote_on}

-- a book as it is meant: the lines its memory has room for, its first number, the next one unless they are spent,
-- the numbers pending in order of opening, and the lines in use
pub record State : Type 0 where
  pub capacity : ℕ
  pub first : ℕ
  pub next : Option ℕ
  pub pending : List ℕ
  pub lines : List Fact

-- a book just made
abbrev pub fresh : ℕ → ℕ → State
fresh capacity first = record { capacity = capacity; first = first; next = Some first; pending = []; lines = [] }

-- a ground for refusing a call, and whether it applies
pub record Ground : Type 0 where
  pub applies : Bool
  pub fault : BookFault

-- the first ground that applies is told; where none does, the call is accepted
abbrev pub refusing : {A : Type 0} → List Ground → A → Result A BookFault
refusing [] a = Ok a
refusing (g ∷ gs) a = cond g.applies (Err g.fault) (refusing gs a)

-- a call that answers with an A: the grounds for refusing it, smaller numbers first; its answer; and the book that it leaves
pub record Effect (A : Type 0) : Type 0 where
  pub grounds : State → List Ground
  pub answer : State → A
  pub leaves : State → State

abbrev pub reply : {A : Type 0} → Effect A → State → Result A BookFault
reply e s = refusing (e.grounds s) (e.answer s)

-- what was accepted, or else the book as it was
abbrev pub accepted : State → Result State BookFault → State
accepted s (Ok t) = t
accepted s (Err _) = s

abbrev pub after : {A : Type 0} → Effect A → State → State
after e s = accepted s (refusing (e.grounds s) (e.leaves s))

-- The smallest number wins, and nothing else is refused: of a refusal, it is on a ground that applies, and no ground
-- with a smaller number does; of an acceptance, no ground applies.
abbrev pub Told : {A : Type 0} → List Ground → Result A BookFault → Type 0
Told gs (Ok _) = AllByRecursion (λ g. g.applies ≡ false) gs
Told gs (Err e) =
    ContainsAt gs (record { applies = true; fault = e })
    × AllByRecursion (λ g. g.applies ≡ true → (refusal e).number ≤ (refusal g.fault).number) gs

-- Grounds

abbrev pub garbled : ℕ → Ground
garbled word = record { applies = nat_lt 1 word; fault = GarbledWord word }

abbrev pub not_pending : ℕ → State → Ground
not_pending n s = record { applies = not (is_some (place n s.pending)); fault = NotPending n }

abbrev pub no_table : ℕ → Ground
no_table table = record { applies = not (nat_le 1 table && nat_le table 4); fault = NoTable table }

abbrev pub bad_filter : RawFilter → Ground
bad_filter filter = record { applies = not (good_filter filter); fault = BadFilter (filter_fault filter) }

abbrev pub bad_change : RawChange → Ground
bad_change change = record { applies = not (good_change change); fault = BadChange (change_fault change) }

-- a choice is named by its bits at the positions in use
abbrev pub bad_choice : ℕ → State → Ground
bad_choice choice s = record { applies = nat_le (2 ^ length s.pending) choice; fault = BadChoice choice }

abbrev pub too_many : State → Ground
too_many s = record { applies = nat_le positions (length s.pending); fault = TooManyPending }

abbrev pub spent : State → Ground
spent s = record { applies = not (is_some s.next); fault = NumbersSpent }

-- the lines that are to be in use would outnumber the memory
abbrev pub no_room : State → List Fact → Ground
no_room s fs = record { applies = nat_lt s.capacity (length fs); fault = NoRoom }

abbrev pub bad_making : ℕ → ℕ → Ground
bad_making capacity first = record { applies = capacity == 0 || (nat_lt 4096 capacity || first == 0); fault = BadMaking }

-- Calls

abbrev pub or_zero : Option ℕ → ℕ
or_zero None = 0
or_zero (Some n) = n

abbrev pub or_none : Option ℕ → Option ℕ
or_none None = None
or_none (Some n) = following n

abbrev pub opened : Effect ℕ
opened = record {
  grounds = λ s. too_many s ∷ (spent s ∷ (bad_making s.capacity s.first ∷ []));
  answer = λ s. or_zero s.next;
  leaves = λ s. record { capacity = s.capacity; first = s.first; next = or_none s.next; pending = s.pending ++ or_zero s.next ∷ []; lines = s.lines };
}

-- the position of a number that is pending
abbrev pub position : ℕ → State → ℕ
position n s = or_zero (place n s.pending)

-- a write that leaves the lines fs
abbrev pub with_lines : State → List Fact → State
with_lines s fs = record { capacity = s.capacity; first = s.first; next = s.next; pending = s.pending; lines = fs }

-- one line more
abbrev pub lines_inserted : ℕ → ℕ → Row → State → List Fact
lines_inserted n table row s = s.lines ++ inserted_line (position n s) table row ∷ []

abbrev pub inserted : ℕ → ℕ → Row → Effect ℕ
inserted n table row = record {
  grounds = λ s. not_pending n s ∷ (no_table table ∷ (no_room s (lines_inserted n table row s) ∷ []));
  answer = λ s. length (lines_inserted n table row s);
  leaves = λ s. with_lines s (lines_inserted n table row s);
}

abbrev pub lines_deleted : ℕ → ℕ → RawFilter → State → List Fact
lines_deleted n table filter s = flat_map (deleted_line (position n s) table (passes filter)) s.lines

abbrev pub deleted : ℕ → ℕ → RawFilter → Effect ℕ
deleted n table filter = record {
  grounds = λ s. not_pending n s ∷ (no_table table ∷ (bad_filter filter ∷ []));
  answer = λ s. length (lines_deleted n table filter s);
  leaves = λ s. with_lines s (lines_deleted n table filter s);
}

abbrev pub rewrite_of : ℕ → ℕ → RawFilter → RawChange → State → Rewrite
rewrite_of n table filter change s = record { position = position n s; table = table; passing = passes filter; changing = changed change }

abbrev pub lines_updated : ℕ → ℕ → RawFilter → RawChange → State → List Fact
lines_updated n table filter change s = updated_lines (rewrite_of n table filter change s) s.lines

abbrev pub updated : ℕ → ℕ → RawFilter → RawChange → Effect ℕ
updated n table filter change = record {
  grounds = λ s.
      not_pending n s ∷ (no_table table ∷ (bad_filter filter ∷ (bad_change change ∷ (no_room s (lines_updated n table filter change s) ∷ []))));
  answer = λ s. length (lines_updated n table filter change s);
  leaves = λ s. with_lines s (lines_updated n table filter change s);
}

-- every line decided at the number's position, and the impossible ones dropped
abbrev pub lines_decided : ℕ → ℕ → State → List Fact
lines_decided n word s = flat_map (decided_line (position n s) (word == 1)) s.lines

-- the number leaves the list, so that later positions close up
abbrev pub decided : ℕ → ℕ → Effect ℕ
decided n word = record {
  grounds = λ s. garbled word ∷ (not_pending n s ∷ []);
  answer = λ s. length (lines_decided n word s);
  leaves = λ s. record { capacity = s.capacity; first = s.first; next = s.next; pending = others n s.pending; lines = lines_decided n word s };
}

abbrev pub counted : ℕ → ℕ → Effect ℕ
counted table choice = record {
  grounds = λ s. no_table table ∷ (bad_choice choice s ∷ []);
  answer = λ s. row_count table choice s.lines;
  leaves = λ s. s;
}

-- a choice in which the transaction n commits has an orphan
abbrev pub speaks_against : ℕ → State → ℕ → Bool
speaks_against n s c = bit (position n s) c && orphaned c s.lines

abbrev pub voted : ℕ → Effect Vote
voted n = record {
  grounds = λ s. not_pending n s ∷ [];
  answer = λ s. vote_on (lowest_below (2 ^ length s.pending) (speaks_against n s));
  leaves = λ s. s;
}
