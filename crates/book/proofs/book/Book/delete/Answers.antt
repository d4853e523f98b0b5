use Rattle.std.proofs.Common.{length, not, sym, refl, ap, ◌∙◌, subst, inl, inr, rules}
use Rattle.std.specs.List.{flat_map}
use Rattle.book.specs.Filters.{passes, passes_checked}
use Rattle.book.specs.Writes.{deleted_line}
use Rattle.book.specs.Calls.{position, lines_deleted}
use Rattle.book.specs.Books.{state, Became}
use Rattle.book.proofs.Using.{became_leaves}
use Rattle.book.specs.declared.faults.BookFault.TheVariants.{BadFilter}
use Rattle.book.proofs.Grounds.{check_passed, check_failed, check_value}
use Rattle.book.proofs.Meanings.{delete_writes}
use Rattle.book.proofs.Calling.{stopped_by, performed}
use Rattle.book.proofs.Possibly.{deleted_possible}
use Rattle.book.proofs.book.Book.delete.Goals as goal

pub returns-in_err-check_table : goal.returns-in_err-check_table
returns-in_err-check_table g c =
    stopped_by g.C.Condition.meaning _ c.from_residual-in_err-check_table.ensures.1 refl
    (inr (check_passed _ _ c.in_ok-position.ensures.found, inl (check_failed _ _ c.in_err-check_table.ensures)))

pub returns-in_err-filter : goal.returns-in_err-filter
returns-in_err-filter g c =
    let t = c.in_err-filter.ensures in
    stopped_by g.C.Condition.meaning _ c.from_residual-in_err-filter.ensures.1 refl
    (inr (
      check_passed _ _ c.in_ok-position.ensures.found,
      inr (check_passed _ _ c.in_ok-check_table.ensures, inl (ap not t.0, sym (ap BadFilter t.1))),
    ))

pub returns : goal.returns
returns g c =
    let m = g.C.Condition.meaning in
    let b = c.args.self.now in
    let s = state m b in
    let at = position c.args.number s in
    let f = c.in_ok-filter.ensures in
    let pending = check_passed _ _ c.in_ok-position.ensures.found in
    let wrote : Became m (lines_deleted c.args.number c.args.table c.args.filter s) b c.retain_lines.new.self =
    subst (λ fs. Became m fs b c.retain_lines.new.self) (λ t. flat_map (deleted_line (check_value _ _ c.in_ok-position.ensures.found t) c.args.table (f.1 t)) s.lines)
    (c.retain_lines.ensures (deleted_line c.in_ok-position.position c.args.table (passes_checked c.in_ok-filter.filter)) (λ l r k. search rules)) in
    performed m (pending, (check_passed _ _ c.in_ok-check_table.ensures, (ap not f.0, tt)))
    (c.len.ensures.count ∙ ap length wrote.lines) (became_leaves m wrote) wrote.beyond
    (λ _. deleted_possible at c.args.table (passes c.args.filter) s.lines)
    wrote.lender
    (delete_writes c.args.number s c.in_ok-position.ensures.within c.args.table (passes c.args.filter))
