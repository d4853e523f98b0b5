use Rattle.std.proofs.Common.{◌≡◌, ◌+◌, ◌≤◌, length, drop, vec_items, vec_len, vec_capacity}
use Rattle.book.specs.Books.{state, SameMemory, Possible}
use Rattle.run.specs.Runs.{records, records_within, peak}
use Rattle.run.proofs.Running.{Ran}
use Rattle.run.proofs.page.run.Given as goal

abbrev pub invariant-loop-item : goal.invariant-loop-item
invariant-loop-item g l =
    let m = g.C.Condition.meaning in
    let s = state m l.initial.book in
    let top = peak (records l.page) s in
    let left = records_within l.item-iterator.page.now l.item-iterator.at in
    (goal.iterator-loop-item g).can_next l.item-iterator
    × (goal.iterator-loop-item g).is_finite l.item-iterator
    × record {
      ran : Ran (records l.page) s (vec_items l.replies) left (state m l.book);
      room : vec_len l.replies + length left ≤ vec_capacity l.replies;
      lender : SameMemory m l.initial.book l.book;
      possible : Possible s → Possible (state m l.book);
      beyond : drop top l.book.lines.now ≡ drop top l.initial.book.lines.now;
    }
