-- The lines in use.
use Rattle.std.proofs.Common.{◌≡◌, ℕ, ◌≤◌, min, max, Bool, false, nat_lt, List, length, take, ap, ◌∙◌, arith}
use Rattle.std.specs.List.{flat_map}
use Rattle.std.proofs.lemmas.Bool.{le-ltb}
use Rattle.std.proofs.lemmas.List.{length-map, length-take}
use Rattle.book.specs.declared.line.Line.{Line}
use Rattle.book.specs.declared.book.Book.{Book}
use Rattle.book.specs.Numbers.{held}
use Rattle.book.specs.Lines.{Fact, seen, facts, kept}
use Rattle.book.specs.Calls.{with_lines}
use Rattle.book.specs.Books.{in_use, state, Became}
use Rattle.book.proofs.Dropping.{drop_further}
use Rattle.book.proofs.Updating.{kept_fewer}

module _ {C : Type 0} (m : C → ℕ → Bool) where
  facts_long : (n : ℕ) (ls : List (Line C)) → length (facts m n ls) ≡ min n (length ls)
  facts_long n ls = length-map (take n ls) (seen m) ∙ length-take n ls

  -- how many they are
  pub used_is : (b : Book C) → b.used ≡ length (in_use m b)
  used_is b = omega (arith, facts_long b.used b.lines.now, b.within)

  -- the possible ones are no more than the memory has room for
  pub possible_fit : (b : Book C) → length (flat_map kept (in_use m b)) ≤ length b.lines.now
  possible_fit b = omega (arith, kept_fewer (in_use m b), used_is b, b.within)

  -- lines that are in use did not outnumber the memory
  pub room_found : {fs : List Fact} {a b : Book C} → Became m fs a b → nat_lt (length a.lines.now) (length fs) ≡ false
  room_found {fs} {a} {b} wrote = le-ltb _ _ (omega (arith, ap length wrote.lines, used_is b, b.within, wrote.size))

  -- one write after another that left no more lines than there were
  pub became_then : (a b c : Book C) {fs gs : List Fact} → Became m fs a b → Became m gs b c → b.used ≤ a.used → Became m gs a c
  became_then a b c v w fewer =
      let top = max a.used c.used in
      record {
        lines = w.lines;
        size = w.size ∙ v.size;
        numbers = (w.numbers.0 ∙ v.numbers.0, w.numbers.1 ∙ v.numbers.1, w.numbers.2 ∙ v.numbers.2);
        beyond = drop_further (max b.used c.used) top c.lines.now b.lines.now (omega arith) w.beyond ∙ drop_further (max a.used b.used) top b.lines.now a.lines.now (omega arith) v.beyond;
        lender = w.lender ∙ v.lender;
      }

  -- how it leaves the book as it is meant
  pub became_leaves : {fs : List Fact} {a b : Book C} → Became m fs a b → state m b ≡ with_lines (state m a) fs
  became_leaves wrote = λ t. record {
    capacity = wrote.size t;
    first = wrote.numbers.0 t;
    next = wrote.numbers.1 t;
    pending = held (wrote.numbers.2 t);
    lines = wrote.lines t;
  }
