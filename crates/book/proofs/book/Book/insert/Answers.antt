use Rattle.std.proofs.Common.{◌++◌, ◌∷◌, [], length, ap, ◌∙◌, subst}
use Rattle.std.proofs.ByRecursion.{All-push}
use Rattle.conditions.specs.Choices.{positions}
use Rattle.conditions.proofs.Meaning.{half_somewhere}
use Rattle.book.specs.Lines.{inserted_line}
use Rattle.book.specs.Calls.{position, lines_inserted}
use Rattle.book.specs.Books.{state, Became}
use Rattle.book.proofs.Using.{room_found, became_leaves}
use Rattle.book.proofs.Grounds.{check_passed, check_value}
use Rattle.book.proofs.Meanings.{insert_writes}
use Rattle.book.proofs.Calling.{performed}
use Rattle.book.proofs.book.Book.insert.Goals as goal

pub returns : goal.returns
returns g c =
    let m = g.C.Condition.meaning in
    let b = c.args.self.now in
    let s = state m b in
    let n = c.args.number in
    let pending = check_passed _ _ c.in_ok-position.ensures.found in
    let wrote : Became m (lines_inserted n c.args.table c.args.row s) b c.push_line.new.self =
    subst (λ fs. Became m fs b c.push_line.new.self)
    (ap (λ f. s.lines ++ f ∷ []) (c.inserted-line.ensures ∙ ap (λ i. inserted_line i c.args.table c.args.row) (check_value _ _ c.in_ok-position.ensures.found)))
    c.in_ok-push_line.ensures in
    performed m (pending, (check_passed _ _ c.in_ok-check_table.ensures, (room_found m wrote, tt)))
    (c.len.ensures.count ∙ ap length wrote.lines) (became_leaves m wrote) wrote.beyond
    (λ h. All-push _ s.lines _ h (half_somewhere positions (position n s)))
    wrote.lender
    (insert_writes n s c.in_ok-position.ensures.within c.args.table c.args.row)
