-- Filters and changes.
use Rattle.std.specs.Prelude.{ℕ, ◌+◌, ◌-◌, min, Bool, true, cond, ◌&&◌, ◌||◌, Some, None, Option, ◌==◌, nat_le}
use Rattle.book.specs.declared.row.Row.{Row}
use Rattle.book.specs.declared.row.Field.{Field}
use Rattle.book.specs.declared.row.Field.TheVariants.{First, Second, Third, Fourth}
use Rattle.book.specs.declared.filter.RawFilter.{RawFilter}
use Rattle.book.specs.declared.filter.Range.{Range}
use Rattle.book.specs.declared.filter.Filter.{Filter}
use Rattle.book.specs.declared.change.RawChange.{RawChange}
use Rattle.book.specs.declared.change.Operation.{Operation}
use Rattle.book.specs.declared.change.Operation.TheVariants.{Set, Later, Earlier}
use Rattle.book.specs.declared.change.Change.{Change}
use Rattle.book.specs.declared.faults.FilterFault.{FilterFault}
use Rattle.book.specs.declared.faults.FilterFault.TheVariants.{NoFilterField, Backward}
use Rattle.book.specs.declared.faults.ChangeFault.{ChangeFault}
use Rattle.book.specs.declared.faults.ChangeFault.TheVariants.{NoChangeField, NoOperation}

-- the field of a number from 1 to 4
abbrev pub which : ℕ → Option Field
which k =
    cond (k == 1) (Some First)
    (cond (k == 2) (Some Second)
    (cond (k == 3) (Some Third)
    (cond (k == 4) (Some Fourth)
    None)))

abbrev pub value : Field → Row → ℕ
value First r = r.first
value Second r = r.second
value Third r = r.third
value Fourth r = r.fourth

abbrev pub with_value : Field → ℕ → Row → Row
with_value First v r = record { first = v; second = r.second; third = r.third; fourth = r.fourth }
with_value Second v r = record { first = r.first; second = v; third = r.third; fourth = r.fourth }
with_value Third v r = record { first = r.first; second = r.second; third = v; fourth = r.fourth }
with_value Fourth v r = record { first = r.first; second = r.second; third = r.third; fourth = v }

-- between the ends, both included
abbrev pub between : ℕ → ℕ → Field → Row → Bool
between low high f r = nat_le low (value f r) && nat_le (value f r) high

-- Filters

abbrev pub passes_at : Option Field → ℕ → ℕ → Row → Bool
passes_at None low high r = true
passes_at (Some f) low high r = between low high f r

-- field 0 passes every row, and its ends are not looked at
abbrev pub passes : RawFilter → Row → Bool
passes p r = passes_at (which p.field) p.low p.high r

abbrev pub good_filter : RawFilter → Bool
good_filter p = p.field == 0 || (nat_le p.field 4 && nat_le p.low p.high)

-- what is wrong with one that is not good
abbrev pub filter_fault : RawFilter → FilterFault
filter_fault p = cond (nat_le p.field 4) (Backward p.low p.high) (NoFilterField p.field)

-- without a range every row passes
abbrev pub passes_range : Option Range → Row → Bool
passes_range None r = true
passes_range (Some w) r = between w.low w.high w.field r

-- a filter that was checked
abbrev pub passes_checked : Filter → Row → Bool
passes_checked f = passes_range f.0

-- Changes

-- a result past either end stops there
abbrev pub moved : Operation → ℕ → ℕ → ℕ
moved Set amount x = amount
moved Later amount x = min (x + amount) 4294967295
moved Earlier amount x = x - amount

abbrev pub operation_of : ℕ → Option Operation
operation_of k =
    cond (k == 0) (Some Set)
    (cond (k == 1) (Some Later)
    (cond (k == 2) (Some Earlier)
    None))

abbrev pub changed_at : Option Field → Option Operation → ℕ → Row → Row
changed_at None o amount r = r
changed_at (Some f) None amount r = r
changed_at (Some f) (Some o) amount r = with_value f (moved o amount (value f r)) r

abbrev pub changed : RawChange → Row → Row
changed c r = changed_at (which c.field) (operation_of c.operation) c.amount r

abbrev pub good_change : RawChange → Bool
good_change c = (nat_le 1 c.field && nat_le c.field 4) && nat_le c.operation 2

abbrev pub change_fault : RawChange → ChangeFault
change_fault c = cond (nat_le 1 c.field && nat_le c.field 4) (NoOperation c.operation) (NoChangeField c.field)

-- a change that was checked
abbrev pub changed_checked : Change → Row → Row
changed_checked c r = with_value c.field (moved c.operation c.amount (value c.field r)) r
