use Rattle.std.proofs.Common.{◌≡◌, ℕ, Bool, List, length, not, sym, refl, ap, ◌∙◌, subst, inl, inr, arith}
use Rattle.std.proofs.lemmas.Bool.{lt-ltb}
use Rattle.book.specs.declared.row.Row.{Row}
use Rattle.book.specs.declared.faults.BookFault.TheVariants.{BadChange}
use Rattle.book.specs.Lines.{Fact}
use Rattle.book.specs.Writes.{updated_lines}
use Rattle.book.specs.Calls.{rewrite_of}
use Rattle.book.specs.Books.{state, Became}
use Rattle.book.proofs.Using.{room_found, became_leaves}
use Rattle.book.proofs.Grounds.{check_passed, check_value}
use Rattle.book.proofs.Meanings.{update_writes}
use Rattle.book.proofs.Plainly.{update_is_plain, update_leaves_possible}
use Rattle.book.proofs.Calling.{stopped_by, performed}
use Rattle.book.proofs.book.Book.update.Goals as goal

-- updates that say the same leave the same lines
same_update : (table : ℕ) (fs : List Fact) {i j : ℕ} {p q : Row → Bool} {f h : Row → Row} → i ≡ j → p ≡ q → f ≡ h
    → updated_lines (record { position = i; table = table; passing = p; changing = f }) fs ≡ updated_lines (record { position = j; table = table; passing = q; changing = h }) fs
same_update table fs x y z = λ t. updated_lines (record { position = x t; table = table; passing = y t; changing = z t }) fs

pub returns-in_err-change : goal.returns-in_err-change
returns-in_err-change g c =
    let t = c.in_err-change.ensures in
    stopped_by g.C.Condition.meaning _ c.from_residual-in_err-change.ensures.1 refl
    (inr (
      check_passed _ _ c.in_ok-position.ensures.found,
      inr (
        check_passed _ _ c.in_ok-check_table.ensures,
        inr (ap not c.in_ok-filter.ensures.0, inl (ap not t.0, sym (ap BadChange t.1))),
      ),
    ))

pub returns-in_err-update_lines : goal.returns-in_err-update_lines
returns-in_err-update_lines g c =
    let m = g.C.Condition.meaning in
    let s = state m c.args.self.now in
    let f = c.in_ok-filter.ensures in
    let h = c.in_ok-change.ensures in
    let full = c.in_err-update_lines.ensures in
    let lines = same_update c.args.table s.lines (check_value _ _ c.in_ok-position.ensures.found) f.1 h.1 in
    rw full.2
    (stopped_by m _ c.from_residual-in_err-update_lines.ensures.1 refl
    (inr (
      check_passed _ _ c.in_ok-position.ensures.found,
      inr (
        check_passed _ _ c.in_ok-check_table.ensures,
        inr (ap not f.0, inr (ap not h.0, inl (lt-ltb _ _ (omega (arith, full.1, ap length lines)), sym full.0))),
      ),
    )))

pub returns : goal.returns
returns g c =
    let m = g.C.Condition.meaning in
    let b = c.args.self.now in
    let s = state m b in
    let n = c.args.number in
    let f = c.in_ok-filter.ensures in
    let h = c.in_ok-change.ensures in
    let u = rewrite_of n c.args.table c.args.filter c.args.change s in
    let pending = check_passed _ _ c.in_ok-position.ensures.found in
    let wrote : Became m (updated_lines u s.lines) b c.update_lines.new.self =
    subst (λ fs. Became m fs b c.update_lines.new.self)
    (same_update c.args.table s.lines (check_value _ _ c.in_ok-position.ensures.found) f.1 h.1)
    c.in_ok-update_lines.ensures in
    performed m (pending, (check_passed _ _ c.in_ok-check_table.ensures, (ap not f.0, (ap not h.0, (room_found m wrote, tt)))))
    (c.len.ensures.count ∙ ap length wrote.lines) (became_leaves m wrote) wrote.beyond
    (λ _. update_leaves_possible u s.lines)
    wrote.lender
    (record { writes = update_writes n s c.in_ok-position.ensures.within u refl; reordered = update_is_plain u s.lines })
